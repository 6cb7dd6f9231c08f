-- What is written is read back as the same card.
use Rattle.std.proofs.Common.{◌≡◌, ℕ, zero, suc, ◌+◌, ◌*◌, ◌/◌, ◌%◌, ◌<◌, Bool, true, false, leb, List, [], ◌∷◌, ◌++◌, length, get_or, None, Option, sym, refl, ap, ◌∙◌, add-zero, mul-zero, mul-suc, arith}
use native.Mathlib.Nat.{mod-add-div'}
use Rattle.std.specs.List.{flat_map}
use Rattle.std.proofs.lemmas.List.{append_assoc, length-append, get_or_at}
use Rattle.std.proofs.lemmas.Bool.{leb-true, and_parts}
use Rattle.records.specs.declared.FormulaRecord.{FormulaRecord}
use Rattle.records.specs.declared.NodeRecord.{NodeRecord}
use Rattle.records.specs.declared.MoveRecord.{MoveRecord}
use Rattle.records.specs.Raw.{RawCard}
use Rattle.card.specs.Limits.{unless, formulas_right, labels_right, nodes_right, moves_right, kind_right, wrong_count, Bounded}
use Rattle.card.specs.Layout.{word_at, formula_at, node_at, move_at, entries, word_bytes, formula_bytes, node_bytes, move_bytes}

-- ── one record ──
-- a byte, and a word, behind some bytes
byte_in : (pre mid post : List ℕ) (n p : ℕ) → length pre + length mid ≡ p → get_or (pre ++ (mid ++ n ∷ post)) p 0 ≡ n
byte_in pre mid post n p e =
    ap (λ bs. get_or bs p 0) (sym (append_assoc pre mid (n ∷ post))) ∙ get_or_at (pre ++ mid) n post 0 p (length-append pre mid ∙ e)

word_in : (pre mid post : List ℕ) (n p : ℕ) → length pre + length mid ≡ p → word_at (pre ++ (mid ++ n % 256 ∷ n / 256 ∷ post)) p ≡ n
word_in pre mid post n p e =
    let low = byte_in pre mid (n / 256 ∷ post) (n % 256) p e in
    let l : length pre + length (mid ++ n % 256 ∷ []) ≡ p + 1 = omega (arith, length-append mid (n % 256 ∷ [])) in
    let high = byte_in pre (mid ++ n % 256 ∷ []) post (n / 256) (p + 1) l in
    let same = append_assoc mid (n % 256 ∷ []) (n / 256 ∷ post) in
    let high' = ap (λ bs. get_or (pre ++ bs) (p + 1) 0) (sym same) ∙ high in
    ap (λ x. x + get_or (pre ++ (mid ++ n % 256 ∷ n / 256 ∷ post)) (p + 1) 0 * 256) low
    ∙ ap (λ x. n % 256 + x * 256) high' ∙ mod-add-div' n 256

pub word_back : (pre : List ℕ) (n : ℕ) (post : List ℕ) → word_at (pre ++ (word_bytes n ++ post)) (length pre) ≡ n
word_back pre n post = word_in pre [] post n (length pre) (add-zero (length pre))

pub formula_back : (pre : List ℕ) (f : FormulaRecord) (post : List ℕ) → formula_at (pre ++ (formula_bytes f ++ post)) (length pre) ≡ f
formula_back pre f post =
    let p = length pre in
    let c0 = f.kind ∷ f.variable ∷ [] in
    let c1 = f.kind ∷ f.variable ∷ f.a % 256 ∷ f.a / 256 ∷ [] in
    let c2 = f.kind ∷ f.variable ∷ f.a % 256 ∷ f.a / 256 ∷ f.b % 256 ∷ f.b / 256 ∷ [] in
    let c3 = f.kind ∷ f.variable ∷ f.a % 256 ∷ f.a / 256 ∷ f.b % 256 ∷ f.b / 256 ∷ f.n % 256 ∷ f.n / 256 ∷ [] in
    let d2 = f.m % 256 ∷ f.m / 256 ∷ post in
    let d1 = f.n % 256 ∷ f.n / 256 ∷ d2 in
    let d0 = f.b % 256 ∷ f.b / 256 ∷ d1 in
    let e = f.a % 256 ∷ f.a / 256 ∷ d0 in
    let k = byte_in pre [] (f.variable ∷ e) f.kind p (add-zero p) in
    let v = byte_in pre (f.kind ∷ []) e f.variable (p + 1) refl in
    let x = word_in pre c0 d0 f.a (p + 2) refl in
    let y = word_in pre c1 d1 f.b (p + 4) refl in
    let n = word_in pre c2 d2 f.n (p + 6) refl in
    let m = word_in pre c3 post f.m (p + 8) refl in
    λ i. record { kind = k i; variable = v i; a = x i; b = y i; n = n i; m = m i }

pub node_back : (pre : List ℕ) (r : NodeRecord) (post : List ℕ) → node_at (pre ++ (node_bytes r ++ post)) (length pre) ≡ r
node_back pre r post =
    let p = length pre in
    let d3 = r.move_count % 256 ∷ r.move_count / 256 ∷ post in
    let d2 = r.first_move % 256 ∷ r.first_move / 256 ∷ d3 in
    let d1 = r.label_count % 256 ∷ r.label_count / 256 ∷ d2 in
    let e0 = word_in pre [] d1 r.first_label p (add-zero p) in
    let e1 = word_in pre (r.first_label % 256 ∷ r.first_label / 256 ∷ []) d2 r.label_count (p + 2) refl in
    let e2 = word_in pre (r.first_label % 256 ∷ r.first_label / 256 ∷ r.label_count % 256 ∷ r.label_count / 256 ∷ []) d3 r.first_move (p + 4) refl in
    let e3 = word_in pre (r.first_label % 256 ∷ r.first_label / 256 ∷ r.label_count % 256 ∷ r.label_count / 256 ∷ r.first_move % 256 ∷ r.first_move / 256 ∷ []) post r.move_count (p + 6) refl in
    λ i. record { first_label = e0 i; label_count = e1 i; first_move = e2 i; move_count = e3 i }

pub move_back : (pre : List ℕ) (r : MoveRecord) (post : List ℕ) → move_at (pre ++ (move_bytes r ++ post)) (length pre) ≡ r
move_back pre r post =
    let p = length pre in
    let d4 = r.target % 256 ∷ r.target / 256 ∷ post in
    let d3 = r.sys_values % 256 ∷ r.sys_values / 256 ∷ d4 in
    let d2 = r.sys_mask % 256 ∷ r.sys_mask / 256 ∷ d3 in
    let d1 = r.env_values % 256 ∷ r.env_values / 256 ∷ d2 in
    let e0 = word_in pre [] d1 r.env_mask p (add-zero p) in
    let e1 = word_in pre (r.env_mask % 256 ∷ r.env_mask / 256 ∷ []) d2 r.env_values (p + 2) refl in
    let e2 = word_in pre (r.env_mask % 256 ∷ r.env_mask / 256 ∷ r.env_values % 256 ∷ r.env_values / 256 ∷ []) d3 r.sys_mask (p + 4) refl in
    let e3 = word_in pre (r.env_mask % 256 ∷ r.env_mask / 256 ∷ r.env_values % 256 ∷ r.env_values / 256 ∷ r.sys_mask % 256 ∷ r.sys_mask / 256 ∷ []) d4 r.sys_values (p + 6) refl in
    let e4 = word_in pre (r.env_mask % 256 ∷ r.env_mask / 256 ∷ r.env_values % 256 ∷ r.env_values / 256 ∷ r.sys_mask % 256 ∷ r.sys_mask / 256 ∷ r.sys_values % 256 ∷ r.sys_values / 256 ∷ []) post r.target (p + 8) refl in
    λ i. record { env_mask = e0 i; env_values = e1 i; sys_mask = e2 i; sys_values = e3 i; target = e4 i }

-- ── one list ──
module _ {X : Type 0} (bytes : X → List ℕ) (size : ℕ) (long : (x : X) → length (bytes x) ≡ size) where
  pub joined_length : (xs : List X) → length (flat_map bytes xs) ≡ size * length xs
  joined_length [] = sym (mul-zero size)
  joined_length (x ∷ xs) =
      length-append (bytes x) (flat_map bytes xs) ∙ omega (arith, long x, joined_length xs, mul-suc size (length xs))

  module _ (read : List ℕ → ℕ → X) (back : (pre : List ℕ) (x : X) (post : List ℕ) → read (pre ++ (bytes x ++ post)) (length pre) ≡ x) where
    pub entries_back : (pre : List ℕ) (xs : List X) (post : List ℕ) (p : ℕ) → length pre ≡ p
        → entries (read (pre ++ (flat_map bytes xs ++ post))) size p (length xs) ≡ xs
    entries_back pre [] post p e = refl
    entries_back pre (x ∷ xs) post p e =
        let rest = flat_map bytes xs ++ post in
        let same : pre ++ ((bytes x ++ flat_map bytes xs) ++ post) ≡ pre ++ (bytes x ++ rest) = ap (λ bs. pre ++ bs) (append_assoc (bytes x) (flat_map bytes xs) post) in
        let first : read (pre ++ ((bytes x ++ flat_map bytes xs) ++ post)) p ≡ x =
        ap (λ bs. read bs p) same ∙ ap (read (pre ++ (bytes x ++ rest))) (sym e) ∙ back pre x rest in
        let same' = same ∙ sym (append_assoc pre (bytes x) rest) in
        let next : length (pre ++ bytes x) ≡ p + size = omega (arith, length-append pre (bytes x), long x) in
        let others = ap (λ bs. entries (read bs) size (p + size) (length xs)) same' ∙ entries_back (pre ++ bytes x) xs post (p + size) next in
        λ i. first i ∷ others i

-- a word of a list of words
pub word_at_lem : (pre ws : List ℕ) (i p : ℕ) → i < length ws → length pre + 2 * i ≡ p → word_at (pre ++ flat_map word_bytes ws) p ≡ get_or ws i 0
word_at_lem pre [] i p h e = absurd (omega arith)
word_at_lem pre (w ∷ ws) zero p h e = word_in pre [] (flat_map word_bytes ws) w p (omega arith)
word_at_lem pre (w ∷ ws) (suc i) p h e =
    ap (λ bs. word_at bs p) (sym (append_assoc pre (word_bytes w) (flat_map word_bytes ws)))
    ∙ word_at_lem (pre ++ word_bytes w) ws i p (omega arith) (omega (arith, length-append pre (word_bytes w)))

-- ── the whole card ──
pub unless_none : (b : Bool) (f : ℕ) (o : Option ℕ) → unless b f o ≡ None → (b ≡ true) × (o ≡ None)
unless_none true f o h = (refl, h)
unless_none false f o h = let z : ◌≡◌ {A = ℕ} 0 1 = cc in absurd (omega arith)

pub none_unless : (b : Bool) (f : ℕ) (o : Option ℕ) → b ≡ true → o ≡ None → unless b f o ≡ None
none_unless true f o h e = e
none_unless false f o h e = let z : ◌≡◌ {A = ℕ} 0 1 = cc in absurd (omega arith)

-- the tests that a card within its limits passes
pub record Right (c : RawCard) : Type 0 where
  pub formulas : formulas_right (length c.formulas) ≡ true
  pub labels : labels_right (length c.labels) ≡ true
  pub nodes : nodes_right (length c.nodes) ≡ true
  pub moves : moves_right (length c.moves) ≡ true
  pub kind : kind_right c.kind ≡ true

pub count_right : (c : RawCard) → wrong_count c ≡ None → Right c
count_right c h =
    let t1 = unless_none (formulas_right (length c.formulas)) 1 _ h in
    let t3 = unless_none (labels_right (length c.labels)) 3 _ t1.1 in
    let t5 = unless_none (nodes_right (length c.nodes)) 5 _ t3.1 in
    let t7 = unless_none (moves_right (length c.moves)) 7 _ t5.1 in
    let t8 = unless_none (kind_right c.kind) 8 None t7.1 in
    record { formulas = t1.0; labels = t3.0; nodes = t5.0; moves = t7.0; kind = t8.0 }

pub bounded : (c : RawCard) → Right c → Bounded c
bounded c r = record {
  formulas = leb-true (length c.formulas) 1024 (and_parts (leb 2 (length c.formulas)) (leb (length c.formulas) 1024) r.formulas).1;
  labels = leb-true (length c.labels) 4096 r.labels;
  nodes = leb-true (length c.nodes) 1024 (and_parts (leb 1 (length c.nodes)) (leb (length c.nodes) 1024) r.nodes).1;
  moves = leb-true (length c.moves) 2048 (and_parts (leb 1 (length c.moves)) (leb (length c.moves) 2048) r.moves).1;
}
