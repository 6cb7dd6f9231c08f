-- Pieces added one after another to a line that keeps a number of bytes: only what they are together counts.
use Rattle.std.proofs.Common.{◌≡◌, ℕ, zero, suc, ◌+◌, ◌-◌, ◌≤◌, min, List, [], ◌∷◌, ◌++◌, length, take, drop, replicate, sym, refl, ap, ◌∙◌, arith}
use Rattle.std.proofs.lemmas.List.{length-take-le, drop-drop, drop-replicate}

-- what was cut off before is cut off after too
pub cut_join : {X : Type 0} (n : ℕ) (xs ys : List X) → take n (take n xs ++ ys) ≡ take n (xs ++ ys)
cut_join zero xs ys = refl
cut_join (suc n) [] ys = refl
cut_join (suc n) (x ∷ xs) ys = ap (λ l. x ∷ l) (cut_join n xs ys)

-- a line that shows the front of xs shows the front of xs ++ ys once ys is added
pub cut_more : {X : Type 0} (n : ℕ) (s xs ys : List X) → s ≡ take n xs → take n (s ++ ys) ≡ take n (xs ++ ys)
cut_more n s xs ys e = ap (λ l. take n (l ++ ys)) e ∙ cut_join n xs ys

-- of what is added to a short list, only so much stays as there is room for
pub cut_room : {X : Type 0} (n : ℕ) (xs ys : List X) → length xs ≤ n → take n (xs ++ ys) ≡ xs ++ take (n - length xs) ys
cut_room n [] ys h = let e : n - 0 ≡ n = omega arith in rw e
cut_room zero (x ∷ xs) ys h = absurd (omega arith)
cut_room (suc n) (x ∷ xs) ys h =
    let e : suc n - suc (length xs) ≡ n - length xs = omega arith in
    rw e (ap (λ l. x ∷ l) (cut_room n xs ys (omega arith)))

-- the front of a list, counted no further than the list goes
pub cut_count : {X : Type 0} (n : ℕ) (xs : List X) → take (min (length xs) n) xs ≡ take n xs
cut_count zero xs = let e : min (length xs) 0 ≡ 0 = omega arith in rw e
cut_count (suc n) [] = let e : min 0 (suc n) ≡ 0 = omega arith in rw e
cut_count (suc n) (x ∷ xs) =
    let e : min (suc (length xs)) (suc n) ≡ suc (min (length xs) n) = omega arith in
    rw e (ap (λ l. x ∷ l) (cut_count n xs))

-- the bytes of a line after some were written past its first k, as many as there is room for up to n
pub written : {X : Type 0} (n k : ℕ) (xs ys : List X) → k ≤ n → n ≤ length xs →
    take k xs ++ take (min (length ys) (n - k)) ys ≡ take n (take k xs ++ ys)
written n k xs ys h l =
    let e : length (take k xs) ≡ k = length-take-le k xs (omega arith) in
    let r : take n (take k xs ++ ys) ≡ take k xs ++ take (n - length (take k xs)) ys = cut_room n (take k xs) ys (omega arith) in
    let d : take (n - length (take k xs)) ys ≡ take (n - k) ys = ap (λ m. take (n - m) ys) e in
    let f : take (min (length ys) (n - k)) ys ≡ take (n - k) ys = cut_count (n - k) ys in
    cc

-- where all is 0 from place k on, all is 0 from a later place on
pub still_zero : (k n : ℕ) (xs : List ℕ) → drop k xs ≡ replicate (64 - k) 0 → drop (k + n) xs ≡ replicate (64 - (k + n)) 0
still_zero k n xs h =
    sym (drop-drop n k xs) ∙ ap (drop n) h ∙ drop-replicate n (64 - k) 0 ∙ ap (λ (m : ℕ). replicate m 0) (omega arith)
