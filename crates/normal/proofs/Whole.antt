-- The list from its beginning to its end.
use Rattle.std.proofs.Common.{◌≡◌, ℕ, ◌-◌, ◌<◌, ◌≤◌, Bool, true, List, [], ◌∷◌, length, get_or, take, drop, replicate, Some, None, Option, sym, refl, ap, ◌∙◌, subst, ⊎_elim, arith}
use Rattle.std.specs.List.{slice_get}
use Rattle.std.specs.Option.{ok_or}
use Rattle.std.proofs.lemmas.List.{get_or-replicate, get_or_past, length-replicate}
use Rattle.std.proofs.lemmas.Bool.{cases_lt}
use Rattle.std.proofs.lemmas.Option.{slice_get_within}
use Rattle.temporal.specs.Formula.{Formula as Tree, bot, top}
use Rattle.temporal.specs.Parts.{put, enter, Closed}
use Rattle.temporal.proofs.Parts.{constants_closed, enter_longer}
use Rattle.nodes.specs.declared.node.Node.{Node}
use Rattle.formulas.specs.declared.Formula.{Formula}
use Rattle.formulas.specs.declared.Formula.TheVariants as entry
use Rattle.formulas.specs.Entries.{entry_code}
use Rattle.formulas.specs.Trees.{grow, trees}
use Rattle.index.specs.declared.Slot.{Slot}
use Rattle.index.specs.Keyed.{Indexed}
use Rattle.normal.specs.declared.builder.Builder.{Builder}
use Rattle.normal.specs.Operands.{formula_of, operand, place_of}
use Rattle.normal.specs.Building.{listed, Sound, recalled, Added, Adds, parts_for}
use Rattle.normal.specs.Building.{Entered, Begun, Finished, Listed, ListedBy}
use Rattle.normal.specs.declared.table.Formulas.{Formulas}
use Rattle.normal.specs.declared.table.Refusal.TheVariants.{TooMany}
use Rattle.normal.specs.Normalized.{parts_in, Leaves, Lists, Normalized}
use Rattle.nodes.specs.declared.syntax.Syntax.{Syntax}
use Rattle.normal.proofs.Adding.{listed_length}
use Rattle.normal.proofs.Entering.{kept}

-- ── the beginning ──
abbrev pub empty : Builder
empty = record { entries = replicate 256 entry.False; count = 0; numbers = replicate 2048 None }

pub empty_sound : (slots : List (Slot Formula)) → Indexed entry_code slots [] → 2048 ≤ length slots → Sound slots empty
unfolding listed
empty_sound slots x r = record {
  few = omega arith;
  long = length-replicate 256 entry.False;
  ordered = refl;
  once = tt;
  indexed = x;
  room = r;
  rest = refl;
}

empty_listed : listed empty ≡ []
unfolding listed
empty_listed = refl

abbrev nothing : Option ℕ
nothing = None

none : (n i : ℕ) → get_or (replicate n nothing) i nothing ≡ nothing
none n i = ⊎_elim (λ (h : i < n). get_or-replicate n i nothing nothing h)
    (λ (h : n ≤ i). get_or_past (replicate n nothing) i nothing (omega (arith, length-replicate n nothing)))
    (cases_lt i n)

recalled_none : (s : Bool) (i : ℕ) → recalled empty s i ≡ None
recalled_none s i = none 2048 (place_of s i)

-- what is added to a short list is added
added_some : (slots : List (Slot Formula)) (b : Builder) (e : Formula) (after : Builder) (r : Option ℕ) (ys : List Tree)
    → listed b ≡ ys → length (put ys (grow ys e)) ≤ 256 → Adds slots b e after r → (k : ℕ) × Added slots b e after k
added_some slots b e after None ys l h a =
    absurd (omega (arith, h, subst (λ (zs : List Tree). 256 < length (put zs (grow zs e))) l a))
added_some slots b e after (Some k) ys l h a = (k, a)

module _ (slots1 : List (Slot Formula)) (b1 : Builder) (r1 : Option ℕ) (a1 : Adds slots1 empty entry.False b1 r1) where
  first_added : (k : ℕ) × Added slots1 empty entry.False b1 k
  first_added = added_some slots1 empty entry.False b1 r1 [] empty_listed (omega arith) a1

  pub first_sound : Sound slots1 b1
  first_sound = first_added.1.sound

  first_listed : listed b1 ≡ bot ∷ []
  first_listed = first_added.1.list ∙ ap (λ (ys : List Tree). put ys (grow ys entry.False)) empty_listed

  module _ (slots2 : List (Slot Formula)) (b2 : Builder) (r2 : Option ℕ) (a2 : Adds slots2 b1 entry.True b2 r2) where
    second_added : (k : ℕ) × Added slots2 b1 entry.True b2 k
    second_added = added_some slots2 b1 entry.True b2 r2 (bot ∷ []) first_listed (omega arith) a2

    second_listed : listed b2 ≡ bot ∷ (top ∷ [])
    second_listed = second_added.1.list ∙ ap (λ (ys : List Tree). put ys (grow ys entry.True)) first_listed

    forgotten : (s : Bool) (i k : ℕ) → recalled b2 s i ≡ Some k → ⊥
    forgotten s i k h =
        let e : recalled b2 s i ≡ None = second_added.1.memory s i ∙ first_added.1.memory s i ∙ recalled_none s i in
        let z : ◌≡◌ {A = ℕ} 0 1 = cc in omega arith

    pub begun : Begun slots2 b2
    begun = record {
      ready = λ ns. record {
        sound = second_added.1.sound;
        closed = subst Closed (sym second_listed) constants_closed;
        first = ap (λ (ys : List Tree). slice_get ys 0) second_listed;
        second = ap (λ (ys : List Tree). slice_get ys 1) second_listed;
        memory = λ s i k h. absurd (forgotten s i k h);
      };
      list = second_listed;
    }

-- ── the end ──
-- the list of two nodes' formulas with all their parts, and the numbers of the two
pub record Whole (ns : List Node) (p q : ℕ) (slots : List (Slot Formula)) (b : Builder) (i j : ℕ) : Type 0 where
  pub sound : Sound slots b
  pub list : listed b ≡ parts_for ns p q
  pub initial : slice_get (listed b) i ≡ Some (formula_of ns (operand p true))
  pub safety : slice_get (listed b) j ≡ Some (formula_of ns (operand q true))

module _ (ns : List Node) (p q : ℕ) (slots : List (Slot Formula)) (b : Builder) (started : Begun slots b) where
  pub initial_over : 256 < length (enter (listed b) (formula_of ns (operand p true)))
      → 256 < length (parts_for ns p q)
  initial_over h =
      let l : 256 < length (enter (bot ∷ (top ∷ [])) (formula_of ns (operand p true))) =
      subst (λ (ys : List Tree). 256 < length (enter ys (formula_of ns (operand p true)))) started.list h in
      omega (arith, l, enter_longer (enter (bot ∷ (top ∷ [])) (formula_of ns (operand p true))) (formula_of ns (operand q true)))

  module _ (slots1 : List (Slot Formula)) (b1 : Builder) (i : ℕ) (d1 : Entered ns slots1 b (formula_of ns (operand p true)) b1 i) where
    initial_listed : listed b1 ≡ enter (bot ∷ (top ∷ [])) (formula_of ns (operand p true))
    initial_listed = d1.list ∙ ap (λ (ys : List Tree). enter ys (formula_of ns (operand p true))) started.list

    pub safety_over : 256 < length (enter (listed b1) (formula_of ns (operand q true)))
        → 256 < length (parts_for ns p q)
    safety_over h = subst (λ (ys : List Tree). 256 < length (enter ys (formula_of ns (operand q true)))) initial_listed h

    module _ (slots2 : List (Slot Formula)) (b2 : Builder) (j : ℕ) (d2 : Entered ns slots2 b1 (formula_of ns (operand q true)) b2 j) where
      pub whole : Whole ns p q slots2 b2 i j
      whole = record {
        sound = d2.ready.sound;
        list = d2.list ∙ ap (λ (ys : List Tree). enter ys (formula_of ns (operand q true))) initial_listed;
        initial = kept d2 i (formula_of ns (operand p true)) d1.here;
        safety = d2.here;
      }

module _ (ns : List Node) (p q : ℕ) (slots : List (Slot Formula)) (b : Builder) (i j : ℕ) (w : Whole ns p q slots b i j) where
  pub whole_rooted : (i < b.count) × (j < b.count)
  whole_rooted = (
    omega (arith, slice_get_within (listed b) i (formula_of ns (operand p true)) w.initial, listed_length slots b w.sound),
    omega (arith, slice_get_within (listed b) j (formula_of ns (operand q true)) w.safety, listed_length slots b w.sound),
  )

  pub whole_short : length (parts_for ns p q) ≤ 256
  whole_short =
      let l : length (listed b) ≡ length (parts_for ns p q) = ap length w.list in
      omega (arith, l, listed_length slots b w.sound, w.sound.few)

  -- the list as it is handed on
  pub finished : (f : Formulas) → Finished b i j f → Listed ns p q slots f
  unfolding listed
  finished f d =
      let entries : take f.count f.table ≡ take b.count b.entries = (λ t. take (d.count t) (d.table t)) in
      record {
        short = whole_short;
        list = ap trees entries ∙ w.list;
        initial = ap (slice_get _) d.initial ∙ ap (λ (ys : List Tree). slice_get ys i) (sym w.list) ∙ w.initial;
        safety = ap (slice_get _) d.safety ∙ ap (λ (ys : List Tree). slice_get ys j) (sym w.list) ∙ w.safety;
        rest = (λ t. drop (d.count t) (d.table t)) ∙ w.sound.rest ∙ ap (λ (n : ℕ). replicate (256 - n) entry.False) (sym d.count);
        indexed = subst (Indexed entry_code slots) (sym entries) w.sound.indexed;
      }

-- ── a text's list ──
module _ (s : Syntax) (slots : List (Slot Formula)) where
  -- the nodes of a text
  abbrev nodes : List Node
  nodes = take s.count s.nodes

  text_over : 256 < length (parts_for nodes s.initial s.safety) → 256 < length (parts_in s)
  unfolding formula_of
  text_over h = h

  text_listed : (f : Formulas) → Listed nodes s.initial s.safety slots f → (length (parts_in s) ≤ 256) × Lists s f
  unfolding formula_of
  text_listed f d = (d.short, record { list = d.list; initial = d.initial; safety = d.safety; rest = d.rest })

  -- what the text's list is, by whether there is one
  pub text_answered : (n : ℕ) → 2048 ≤ n → (before : List (Slot Formula)) → length slots ≡ length before → (r : Option Formulas)
      → ListedBy nodes s.initial s.safety slots r
      → Normalized s n (ok_or r TooMany) × Leaves before (ok_or r TooMany) slots
  text_answered n h before l None d = ((h, text_over d), l)
  text_answered n h before l (Some f) d = let t = text_listed f d in ((h, t.0, t.1), d.indexed)
