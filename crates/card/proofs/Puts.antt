-- Bytes put over others, piece by piece.
use Rattle.std.proofs.Common.{◌≡◌, ℕ, ◌+◌, ◌*◌, ◌≤◌, List, ◌∷◌, ◌++◌, length, take, drop, sym, ap, ◌∙◌, arith, mul-suc}
use Rattle.std.specs.List.{flat_map}
use Rattle.std.proofs.lemmas.List.{append_assoc, length-append, length-take-le, take_at, drop_at, drop-drop, length-drop}
use Rattle.card.specs.Written.{put_at}

pub length_put : (old : List ℕ) (p : ℕ) (xs : List ℕ) → p + length xs ≤ length old → length (put_at old p xs) ≡ length old
length_put old p xs h = simp (length-append, length-drop) (omega (arith, length-take-le p old (omega arith)))

module _ (old : List ℕ) (p q : ℕ) (xs ys : List ℕ) (room : p ≤ length old) (next : p + length xs ≡ q) where
  front : length (take p old ++ xs) ≡ q
  front = length-append (take p old) xs ∙ ap (λ k. k + length xs) (length-take-le p old room) ∙ next

  behind : drop (length xs) (drop p old) ≡ drop q old
  behind = drop-drop (length xs) p old ∙ ap (λ k. drop k old) next

  split : put_at old p xs ≡ (take p old ++ xs) ++ drop q old
  split = ap (λ k. take p old ++ (xs ++ k)) behind ∙ sym (append_assoc (take p old) xs (drop q old))

  head : take q (put_at old p xs) ≡ take p old ++ xs
  head = ap (take q) split ∙ take_at (take p old ++ xs) (drop q old) q front

  rest : drop q (put_at old p xs) ≡ drop q old
  rest = ap (drop q) split ∙ drop_at (take p old ++ xs) (drop q old) q front

  tail : drop (length ys) (drop q (put_at old p xs)) ≡ drop (length (xs ++ ys)) (drop p old)
  tail =
      ap (drop (length ys)) rest ∙ drop-drop (length ys) q old ∙ ap (λ k. drop k old) (omega (arith, length-append xs ys))
      ∙ sym (drop-drop (length (xs ++ ys)) p old)

  -- one piece behind the other is the two joined
  pub put_more : put_at (put_at old p xs) q ys ≡ put_at old p (xs ++ ys)
  put_more =
      let end = drop (length (xs ++ ys)) (drop p old) in
      ap (λ k. k ++ (ys ++ drop (length ys) (drop q (put_at old p xs)))) head
      ∙ ap (λ k. (take p old ++ xs) ++ (ys ++ k)) tail
      ∙ append_assoc (take p old) xs (ys ++ end)
      ∙ ap (λ k. take p old ++ k) (sym (append_assoc xs ys end))

-- a list written entry by entry: what is left, put over the output, gives the whole
pub put_next : {X : Type 0} (bytes : X → List ℕ) (size : ℕ) (sized : (x : X) → length (bytes x) ≡ size)
    (left rest : List X) (x : X) (old new whole : List ℕ) (p q : ℕ)
    → left ≡ x ∷ rest → p + size * length left ≤ length old → put_at old p (flat_map bytes left) ≡ whole
    → new ≡ put_at old p (bytes x) → q ≡ p + size
    → (q + size * length rest ≤ length new) × (put_at new q (flat_map bytes rest) ≡ whole)
put_next bytes size sized left rest x old new whole p q e room all put next =
    let count : size * length left ≡ size * length rest + size =
    ap (λ ys. size * length ys) e ∙ omega (arith, mul-suc size (length rest)) in
    let long = ap length put ∙ length_put old p (bytes x) (omega (arith, sized x)) in (
      omega (arith, long),
      ap (λ o. put_at o q (flat_map bytes rest)) put
          ∙ put_more old p q (bytes x) (flat_map bytes rest) (omega arith) (omega (arith, sized x))
          ∙ ap (λ ys. put_at old p (flat_map bytes ys)) (sym e) ∙ all,
    )
