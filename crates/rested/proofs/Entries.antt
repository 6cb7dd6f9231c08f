-- What the form of a record says, by its kind; and the rest of its entry.
use Rattle.std.proofs.Common.{Result, None, Ok, Err, ◌≡◌, ℕ, ◌<◌, ◌≤◌, Bool, true, false, ◌&&◌, ◌||◌, eqb, leb, List, length, Some, Option, sym, refl, ap, ◌∙◌, subst, arith}
use Rattle.std.specs.Result.{result_ok}
use mir.Val.{bool_byte}
use Rattle.temporal.specs.Formula.{Formula, bot, top, lit, conj, disj, next, always, eventually, Reading, constant}
use Rattle.temporal.proofs.Tells.{and_tells, le_tells, self_tells}
use Rattle.tableau.specs.Card.{Entry, by_kind, build}
use Rattle.tableau.specs.Form.{part_formed, constant_formed, literal_formed, pair_formed, next_formed, range_formed, formula_formed}
use Rattle.tableau.proofs.Trees.{part_tells}
use Rattle.formulas.specs.declared.Formula.{Formula as Entered}
use Rattle.formulas.specs.declared.Formula.TheVariants as entry
use Rattle.formulas.specs.Trees.{grow}
use Rattle.records.specs.declared.FormulaRecord.{FormulaRecord}
use Rattle.records.specs.declared.kind.UnknownKind.{UnknownKind}
use Rattle.records.specs.Kinds.{named}
use Rattle.records.proofs.Named.{Names, named_is}
use Rattle.records.specs.Raw.{entry_of}
use Rattle.records.specs.Table.{entry_at, formulas_of, formula_of}
use Rattle.rested.specs.Listing.{InForm}
use Rattle.rested.specs.Rests.{Placed, Rested}
use Rattle.rested.proofs.Trees.{tree_built}
use Rattle.rested.proofs.Placed.{rested_alone}
use Rattle.rested.proofs.Found.{zero_placed, one_placed}

-- a part before entry i
abbrev pub Part : ℕ → ℕ → Type 0
Part i a = (2 ≤ a) × (a < i)

pair_tells : (i : ℕ) (f : Entry) → pair_formed i f ≡ true → Part i f.a × Part i f.b
pair_tells i f h =
    ((and_tells (part_formed i f.a && part_formed i f.b) _
    (and_tells (part_formed i f.a) _ (part_tells i f.a) (part_tells i f.b)) (self_tells _)).0 h).0

range_tells : (i : ℕ) (f : Entry) → range_formed i f ≡ true → ((f.n ≤ f.m) × (f.m ≤ 4095)) × Part i f.a
range_tells i f h =
    ((and_tells ((leb f.n f.m && leb f.m 4095) && part_formed i f.a) _
    (and_tells (leb f.n f.m && leb f.m 4095) _ (and_tells (leb f.n f.m) _ (le_tells _ _) (le_tells _ _)) (part_tells i f.a))
    (self_tells _)).0 h).0

next_tells : (i : ℕ) (f : Entry) → next_formed i f ≡ true → ((1 ≤ f.n) × (f.n ≤ 4095)) × Part i f.a
next_tells i f h =
    ((and_tells ((leb 1 f.n && leb f.n 4095) && part_formed i f.a) _
    (and_tells (leb 1 f.n && leb f.n 4095) _ (and_tells (leb 1 f.n) _ (le_tells _ _) (le_tells _ _)) (part_tells i f.a))
    (self_tells _)).0 h).0

-- what the form of an entry says: its parts stand before it, and its bounds are in order
abbrev pub FormedAt : ℕ → Entered → Type 0
FormedAt i entry.False = Unit {0}
FormedAt i entry.True = Unit {0}
FormedAt i (entry.Variable v) = Unit {0}
FormedAt i (entry.Negated v) = Unit {0}
FormedAt i (entry.And a b) = Part i a × Part i b
FormedAt i (entry.Or a b) = Part i a × Part i b
FormedAt i (entry.Next n a) = (1 ≤ n) × Part i a
FormedAt i (entry.Always n m a) = (n ≤ m) × Part i a
FormedAt i (entry.Eventually n m a) = (n ≤ m) × Part i a

module _ (rs : List FormulaRecord) (ok : InForm rs) (i : ℕ) (l : i < length rs) (f : FormulaRecord) (e : entry_at rs i ≡ entry_of f) where
  abbrev g : Entry
  g = entry_of f

  -- the fields that an entry of kind k has to have
  abbrev fields : ℕ → Bool
  fields k =
      by_kind k (constant_formed g) (constant_formed g) (literal_formed ok.spec g) (literal_formed ok.spec g) (pair_formed i g) (pair_formed i g)
      (next_formed i g) (range_formed i g) (range_formed i g) false

  form : (k : ℕ) → f.kind ≡ k → fields k ≡ true
  form k h =
      subst (λ (j : ℕ). fields j ≡ true) h
      ((and_tells (leb 2 i || eqb f.kind i) _ (self_tells _) (self_tells _)).0
      (subst (λ (x : Entry). formula_formed ok.spec i x ≡ true) e (ok.table.formed i l))).1

  -- what the form says of the formula that the record names
  named_formed : (x : Entered) → named f ≡ Ok x → FormedAt i x
  named_formed x is = go x (named_is f x is)
    where
      go : (x : Entered) → Names f x → FormedAt i x
      go entry.False h = tt
      go entry.True h = tt
      go (entry.Variable v) h = tt
      go (entry.Negated v) h = tt
      go (entry.And a b) h = let p = pair_tells i (entry_of f) (form 4 h.0) in (subst (Part i) h.1 p.0, subst (Part i) h.2 p.1)
      go (entry.Or a b) h = let p = pair_tells i (entry_of f) (form 5 h.0) in (subst (Part i) h.1 p.0, subst (Part i) h.2 p.1)
      go (entry.Next n a) h =
          let p = next_tells i (entry_of f) (form 6 h.0) in
          (omega (arith, p.0.0, h.1), subst (Part i) h.2 p.1)
      go (entry.Always n m a) h =
          let p = range_tells i (entry_of f) (form 7 h.0) in
          (omega (arith, p.0.0, h.1, h.2), subst (Part i) h.3 p.1)
      go (entry.Eventually n m a) h =
          let p = range_tells i (entry_of f) (form 8 h.0) in
          (omega (arith, p.0.0, h.1, h.2), subst (Part i) h.3 p.1)

  -- the entry's formula is that of the formula that the record names
  named_tree : (x : Entered) → named f ≡ Ok x → formula_of rs i ≡ grow (formulas_of rs) x
  named_tree x is = go x (named_is f x is)
    where
      built : (k : ℕ) → f.kind ≡ k → formula_of rs i ≡ build k f.variable f.n f.m (formula_of rs f.a) (formula_of rs f.b)
      built k h =
          tree_built rs ok i l
          ∙ ap (λ (g : Entry). build g.kind g.variable g.n g.m (formula_of rs g.a) (formula_of rs g.b)) e
          ∙ ap (λ (j : ℕ). build j f.variable f.n f.m (formula_of rs f.a) (formula_of rs f.b)) h

      go : (x : Entered) → Names f x → formula_of rs i ≡ grow (formulas_of rs) x
      go entry.False h = built 0 h
      go entry.True h = built 1 h
      go (entry.Variable v) h = built 2 h.0 ∙ ap (lit true) h.1
      go (entry.Negated v) h = built 3 h.0 ∙ ap (lit false) h.1
      go (entry.And a b) h = built 4 h.0 ∙ (λ j. conj (formula_of rs (h.1 j)) (formula_of rs (h.2 j)))
      go (entry.Or a b) h = built 5 h.0 ∙ (λ j. disj (formula_of rs (h.1 j)) (formula_of rs (h.2 j)))
      go (entry.Next n a) h = built 6 h.0 ∙ (λ j. next (h.1 j) (formula_of rs (h.2 j)))
      go (entry.Always n m a) h = built 7 h.0 ∙ (λ j. always (h.1 j) (h.2 j) (formula_of rs (h.3 j)))
      go (entry.Eventually n m a) h = built 8 h.0 ∙ (λ j. eventually (h.1 j) (h.2 j) (formula_of rs (h.3 j)))

  -- the rest of the entry, where the record was read as the formula x
  pub rested_named : (R : Reading) (x y : Entered) (r : Result Entered UnknownKind) (p : Option Entered) (o : Option ℕ)
      → r ≡ named f → p ≡ result_ok r → p ≡ Some y → y ≡ x
      → (FormedAt i x → Rested R (formulas_of rs) (grow (formulas_of rs) x) o) → Rested R (formulas_of rs) (formula_of rs i) o
  rested_named R x y r p o read got some at here =
      let is : named f ≡ Ok x = go r read got in
      subst (λ (t : Formula). Rested R (formulas_of rs) t o) (sym (named_tree x is)) (here (named_formed x is))
    where
      go : (r : Result Entered UnknownKind) → r ≡ named f → p ≡ result_ok r → named f ≡ Ok x
      go (Ok z) h v = let k : z ≡ y = cc in sym h ∙ ap Ok (k ∙ at)
      go (Err d) h v = let z : None ≡ Some y = sym v ∙ some in absurd (cc)

module _ (rs : List FormulaRecord) (ok : InForm rs) (R : Reading) where
  pub rested_bot : Rested R (formulas_of rs) bot (Some 0)
  rested_bot = rested_alone R (formulas_of rs) bot refl (Some 0) (zero_placed rs ok)

  pub rested_top : Rested R (formulas_of rs) top (Some 1)
  rested_top = rested_alone R (formulas_of rs) top refl (Some 1) (one_placed rs ok)

  constant_placed : (b : Bool) → Placed (formulas_of rs) (constant b) (Some (bool_byte b))
  constant_placed true = one_placed rs ok
  constant_placed false = zero_placed rs ok

  pub rested_literal : (s : Bool) (v k : ℕ) (b : Bool) → k ≡ bool_byte b → b ≡ R s v → Rested R (formulas_of rs) (lit s v) (Some k)
  rested_literal s v k b e h =
      rested_alone R (formulas_of rs) (lit s v) refl (Some k)
      (subst (λ (n : ℕ). Placed (formulas_of rs) (constant (R s v)) (Some n)) (sym (e ∙ ap bool_byte h)) (constant_placed (R s v)))
