-- What entering a formula does, from what its parts did.
use Rattle.std.proofs.Common.{not, ◌≡◌, ℕ, ◌<◌, ◌≤◌, Bool, true, false, ltb, List, length, get_or, Some, None, Option, sym, refl, ap, ◌∙◌, subst, inl, inr, arith}
use Rattle.std.specs.List.{slice_get}
use Rattle.std.proofs.lemmas.Bool.{and_from, lt-ltb}
use Rattle.std.proofs.lemmas.Option.{slice_get_within, get_or_from_slice_get}
use Rattle.temporal.specs.Formula.{Formula as Tree, bot, top, lit, constant}
use Rattle.temporal.specs.Parts.{put, enter, Closed}
use Rattle.temporal.proofs.Parts.{put_adds, enter_adds, enter_closed, enter_extends, enter_longer, put_longer}
use Rattle.nodes.specs.declared.node.Node.{Node}
use Rattle.formulas.specs.declared.Formula.{Formula}
use Rattle.formulas.specs.Trees.{grow, parts_below}
use Rattle.formulas.proofs.Folds.{nth_more}
use Rattle.index.specs.declared.Slot.{Slot}
use Rattle.normal.specs.declared.builder.Builder.{Builder}
use Rattle.normal.specs.declared.operand.Operand.{Operand}
use Rattle.formulas.specs.declared.junction.Junction.{Junction}
use Rattle.formulas.specs.declared.junction.Junction.TheVariants.{And, Or}
use Rattle.normal.specs.Building.{listed, Sound, Added, Adds, Remembers, Ready, Entered, Enters}
use Rattle.normal.specs.Operands.{formula_of, operand}
use Rattle.formulas.specs.Junctions.{entry_of_both, entry_over, under}
use Rattle.normal.specs.Building.{number_of, literal_of}
use Rattle.normal.proofs.Adding.{nth_in, listed_length}
use Rattle.normal.proofs.Forms.{whole_of, bounded_tree}

-- what is listed is entered already
pub stays : {ns : List Node} {slots : List (Slot Formula)} {b : Builder} {f : Tree} {k : ℕ} → Ready ns slots b → slice_get (listed b) k ≡ Some f
    → Entered ns slots b f b k
stays {ns} {slots} {b} {f} {k} r h = record {
  ready = r;
  list = sym ((enter_adds f (listed b)).again (λ x p. r.closed f (nth_in (listed b) k f h) x p));
  here = h;
}

constant_at_lem : {ns : List Node} {slots : List (Slot Formula)} {b : Builder} (x : Bool) → Ready ns slots b
    → slice_get (listed b) (number_of x) ≡ Some (constant x)
constant_at_lem true r = r.second
constant_at_lem false r = r.first

-- so are the constants
pub constant_stays : {ns : List Node} {slots : List (Slot Formula)} {b : Builder} {f : Tree} (x : Bool) {k : ℕ}
    → Ready ns slots b → f ≡ constant x
    → k ≡ number_of x → Entered ns slots b f b k
constant_stays {ns} {slots} {b} x r e l = stays r (ap (slice_get (listed b)) l ∙ constant_at_lem x r ∙ ap Some (sym e))

pub alike : (ns : List Node) (slots : List (Slot Formula)) (b : Builder) {f g : Tree} (after : Builder) (r : Option ℕ) → g ≡ f
    → Enters ns slots b f after r → Enters ns slots b g after r
alike ns slots b after r e h = subst (λ (w : Tree). Enters ns slots b w after r) (sym e) h

pub fails : (ns : List Node) (slots : List (Slot Formula)) (b : Builder) (f : Tree) (after : Builder) {r : Option ℕ} → r ≡ None
    → 256 < length (enter (listed b) f) → Enters ns slots b f after r
fails ns slots b f after e h = subst (λ (n : Option ℕ). Enters ns slots b f after n) (sym e) h

-- a number keeps its formula while more are entered
pub kept : {ns : List Node} {slots : List (Slot Formula)} {b : Builder} {f : Tree} {after : Builder} {k : ℕ} → Entered ns slots b f after k
    → (i : ℕ) (g : Tree) → slice_get (listed b) i ≡ Some g → slice_get (listed after) i ≡ Some g
kept {ns} {slots} {b} {f} d i g h =
    let x = enter_extends (listed b) f in
    subst (λ (ys : List Tree). slice_get ys i ≡ Some g) (sym (d.list ∙ x.1)) (nth_more (listed b) x.0 i g h)

-- an entry whose parts were entered
whole_some : {ns : List Node} {slots slots1 slots2 : List (Slot Formula)} {b b1 b2 : Builder} {e : Formula} {f : Tree} {k : ℕ}
    → Ready ns slots b
    → Ready ns slots1 b1 → grow (listed b1) e ≡ f → enter (listed b) f ≡ put (listed b1) f → Added slots2 b1 e b2 k
    → Entered ns slots2 b f b2 k
whole_some {ns} {slots} {slots1} {slots2} {b} {b1} {b2} {e} {f} r r1 g l a =
    let list : listed b2 ≡ enter (listed b) f = a.list ∙ ap (put (listed b1)) g ∙ sym l in
    let x = (put_adds (listed b1) (grow (listed b1) e)).more in
    let more : (i : ℕ) (t : Tree) → slice_get (listed b1) i ≡ Some t → slice_get (listed b2) i ≡ Some t =
    λ i t h. subst (λ (ys : List Tree). slice_get ys i ≡ Some t) (sym (a.list ∙ x.1)) (nth_more (listed b1) x.0 i t h) in
    record {
      ready = record {
        sound = a.sound;
        closed = subst Closed (sym list) (enter_closed (listed b) f r.closed);
        first = more 0 bot r1.first;
        second = more 1 top r1.second;
        memory = λ s i j h. more j (formula_of ns (operand i s)) (r1.memory s i j (sym (a.memory s i) ∙ h));
      };
      list = list;
      here = a.here ∙ ap Some g;
    }

whole : {ns : List Node} {slots slots1 : List (Slot Formula)} {b b1 : Builder} {f : Tree} (slots2 : List (Slot Formula)) (b2 : Builder)
    (e : Formula) (r : Option ℕ) → Ready ns slots b
    → Ready ns slots1 b1 → grow (listed b1) e ≡ f → enter (listed b) f ≡ put (listed b1) f → Adds slots2 b1 e b2 r
    → Enters ns slots2 b f b2 r
whole {ns} {slots} {slots1} {b} {b1} slots2 b2 e None p q g l a =
    subst (λ (ys : List Tree). 256 < length ys) (ap (put (listed b1)) g ∙ sym l) a
whole slots2 b2 e (Some k) p q g l a = whole_some p q g l a

-- the number of what was entered is below the count
pub number_below : {slots : List (Slot Formula)} {b : Builder} (k : ℕ) {f : Tree} → Sound slots b → slice_get (listed b) k ≡ Some f
    → ltb k b.count ≡ true
number_below {slots} {b} k {f} s h =
    lt-ltb k b.count (omega (arith, slice_get_within (listed b) k f h, listed_length slots b s))

-- ── a literal ──
grow_literal : (ys : List Tree) (s : Bool) (v : ℕ) → grow ys (literal_of s v) ≡ lit s v
grow_literal ys true v = refl
grow_literal ys false v = refl

pub literal_enters : {ns : List Node} {slots : List (Slot Formula)} {b : Builder} {f : Tree} {e : Formula} (slots1 : List (Slot Formula))
    (b1 : Builder) (s : Bool) (v : ℕ) (r : Option ℕ)
    → Ready ns slots b → f ≡ lit s v → e ≡ literal_of s v → Adds slots1 b e b1 r → Enters ns slots1 b f b1 r
literal_enters {ns} {slots} {b} {f} {e} slots1 b1 s v r p g d a =
    whole slots1 b1 e r p p (ap (grow (listed b)) d ∙ grow_literal (listed b) s v ∙ sym g)
    (ap (enter (listed b)) g ∙ ap (put (listed b)) (sym g)) a

-- ── one part ──
module _ (T : Tree → Tree) (enters : (ys : List Tree) (f : Tree) → enter ys (T f) ≡ put (enter ys f) (T f)) where
  pub one_over : (ys : List Tree) (f : Tree) {w : Tree} → w ≡ T f → 256 < length (enter ys f) → 256 < length (enter ys w)
  one_over ys f {w} e h =
      let l : length (enter ys w) ≡ length (put (enter ys f) (T f)) = ap length (ap (enter ys) e ∙ enters ys f) in
      omega (arith, l, h, put_longer (enter ys f) (T f))

  pub one_enters : {ns : List Node} {slots slots1 : List (Slot Formula)} {b b1 : Builder} {f w : Tree} {k : ℕ}
      (slots2 : List (Slot Formula)) (b2 : Builder) (e : Formula) (r : Option ℕ)
      → Ready ns slots b → Entered ns slots1 b f b1 k → w ≡ T f → grow (listed b1) e ≡ T (get_or (listed b1) k bot)
      → Adds slots2 b1 e b2 r → Enters ns slots2 b w b2 r
  one_enters {ns} {slots} {slots1} {b} {b1} {f} {w} {k} slots2 b2 e r p d t g a =
      whole slots2 b2 e r p d.ready (g ∙ ap T (get_or_from_slice_get (listed b1) k f bot d.here) ∙ sym t)
      (ap (enter (listed b)) t ∙ enters (listed b) f ∙ (λ j. put (sym d.list j) (sym t j))) a

-- ── two parts ──
enter_whole : (op : Junction) (ys : List Tree) (f g : Tree) → enter ys (whole_of op f g) ≡ put (enter (enter ys f) g) (whole_of op f g)
enter_whole And ys f g = refl
enter_whole Or ys f g = refl

grow_joined : (op : Junction) (ys : List Tree) (l r : ℕ) → grow ys (entry_of_both op l r) ≡ whole_of op (get_or ys l bot) (get_or ys r bot)
grow_joined And ys l r = refl
grow_joined Or ys l r = refl

joined_below : (op : Junction) (i l r : ℕ) → ltb l i ≡ true → ltb r i ≡ true → parts_below i (entry_of_both op l r) ≡ true
joined_below And i l r p q = and_from (ltb l i) (ltb r i) p q
joined_below Or i l r p q = and_from (ltb l i) (ltb r i) p q

module _ (op : Junction) (f g : Tree) {w : Tree} (whole_is : w ≡ whole_of op f g) where
  long : (ys : List Tree) → length (enter (enter ys f) g) ≤ length (enter ys w)
  long ys =
      let e : enter ys w ≡ put (enter (enter ys f) g) (whole_of op f g) = ap (enter ys) whole_is ∙ enter_whole op ys f g in
      let l : length (enter ys w) ≡ length (put (enter (enter ys f) g) (whole_of op f g)) = ap length e in
      omega (arith, l, put_longer (enter (enter ys f) g) (whole_of op f g))

  pub first_over : (ys : List Tree) → 256 < length (enter ys f) → 256 < length (enter ys w)
  first_over ys h = omega (arith, h, long ys, enter_longer (enter ys f) g)

  pub second_over : {ns : List Node} {slots : List (Slot Formula)} {b b1 : Builder} {k : ℕ} → Entered ns slots b f b1 k
      → 256 < length (enter (listed b1) g) → 256 < length (enter (listed b) w)
  second_over {ns} {slots} {b} {b1} d h =
      let l : length (enter (listed b1) g) ≡ length (enter (enter (listed b) f) g) =
      ap (λ (ys : List Tree). length (enter ys g)) d.list in
      omega (arith, h, l, long (listed b))

  module _ {ns : List Node} {slots slots1 slots2 : List (Slot Formula)} {b b1 b2 : Builder} {l r : ℕ} {e : Formula} (p : Ready ns slots b)
      (d1 : Entered ns slots1 b f b1 l) (d2 : Entered ns slots2 b1 g b2 r) (e_is : e ≡ entry_of_both op l r) where
    left_at : slice_get (listed b2) l ≡ Some f
    left_at = kept d2 l f d1.here

    pub both_below : parts_below b2.count e ≡ true
    both_below =
        ap (parts_below b2.count) e_is
        ∙ joined_below op b2.count l r (number_below l d2.ready.sound left_at) (number_below r d2.ready.sound d2.here)

    pub both_enter : (slots3 : List (Slot Formula)) (b3 : Builder) (n : Option ℕ) → Adds slots3 b2 e b3 n → Enters ns slots3 b w b3 n
    both_enter slots3 b3 n a =
        let lists : listed b2 ≡ enter (enter (listed b) f) g = d2.list ∙ ap (λ (ys : List Tree). enter ys g) d1.list in
        whole slots3 b3 e n p d2.ready
        (ap (grow (listed b2)) e_is ∙ grow_joined op (listed b2) l r
        ∙ (λ j. whole_of op (get_or_from_slice_get (listed b2) l f bot left_at j) (get_or_from_slice_get (listed b2) r g bot d2.here j)) ∙ sym whole_is)
        (ap (enter (listed b)) whole_is ∙ enter_whole op (listed b) f g ∙ (λ j. put (sym lists j) (sym whole_is j))) a

-- ── memory ──
-- the same list with another memory
abbrev with : Builder → List (Option ℕ) → Builder
with b p = record { entries = b.entries; count = b.count; numbers = p }

sound_with : (slots : List (Slot Formula)) (b : Builder) (p : List (Option ℕ)) → Sound slots b → Sound slots (with b p)
unfolding listed
sound_with slots b p s = record {
  few = s.few;
  long = s.long;
  ordered = s.ordered;
  once = s.once;
  indexed = s.indexed;
  room = s.room;
  rest = s.rest;
}

listed_with : (b : Builder) (p : List (Option ℕ)) → listed (with b p) ≡ listed b
unfolding listed
listed_with b p = refl

pub remembered : {ns : List Node} {slots : List (Slot Formula)} {b b1 b2 : Builder} {o : Operand} {k : ℕ}
    → Entered ns slots b (formula_of ns o) b1 k
    → Remembers b1 o k b2 → Entered ns slots b (formula_of ns o) b2 k
remembered {ns} {slots} {b} {b1} {b2} {o} {k} d m =
    let same : listed b2 ≡ listed b1 = ap listed m.kept ∙ listed_with b1 b2.numbers in
    let at : (i : ℕ) (t : Tree) → slice_get (listed b1) i ≡ Some t → slice_get (listed b2) i ≡ Some t =
    λ i t h. subst (λ (ys : List Tree). slice_get ys i ≡ Some t) (sym same) h in
    record {
      ready = record {
        sound = subst (Sound slots) (sym m.kept) (sound_with slots b1 b2.numbers d.ready.sound);
        closed = subst Closed (sym same) d.ready.closed;
        first = at 0 bot d.ready.first;
        second = at 1 top d.ready.second;
        memory = λ s i j h. at j (formula_of ns (operand i s)) (elim (m.memory s i j h) [
          | inl e ↦ ap (slice_get (listed b1)) e.2 ∙ d.here ∙ (λ t. Some (formula_of ns (operand (sym e.1 t) (sym e.0 t))))
          | inr q ↦ d.ready.memory s i j q
        ]);
      };
      list = same ∙ d.list;
      here = at k (formula_of ns o) d.here;
    }

-- ── G and F ──
pub bounded_enter : (s : Bool) (n m : ℕ) (ys : List Tree) (f : Tree)
    → enter ys (bounded_tree s n m f) ≡ put (enter ys f) (bounded_tree s n m f)
bounded_enter true n m ys f = refl
bounded_enter false n m ys f = refl

pub bounded_grow : (s : Bool) (n m k : ℕ) (ys : List Tree) {e : Formula} → e ≡ entry_over (under And s) n m k
    → grow ys e ≡ bounded_tree s n m (get_or ys k bot)
bounded_grow true n m k ys d = ap (grow ys) d
bounded_grow false n m k ys d = ap (grow ys) d

-- where a disjunction would stand under the sign, a conjunction would under the other
pub under_not : (s : Bool) → under Or s ≡ under And (not s)
under_not true = refl
under_not false = refl

pub bounded_below : (s : Bool) (n m k i : ℕ) {e : Formula} → e ≡ entry_over (under And s) n m k → ltb k i ≡ true → parts_below i e ≡ true
bounded_below true n m k i d h = ap (parts_below i) d ∙ h
bounded_below false n m k i d h = ap (parts_below i) d ∙ h
