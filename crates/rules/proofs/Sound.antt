-- What every specification keeps, since some text reads as it.
use Rattle.std.proofs.Common.{◌≡◌, ℕ, zero, suc, ◌+◌, ◌<◌, ◌≤◌, Bool, true, false, cond, ◌&&◌, ltb, leb, List, [], ◌∷◌, map, length, get_or, Some, Ok, Err, sym, refl, ap, ◌∙◌, subst, arith, length-take-le}
use mathlib.Core.Logic.{∥∥₁_elim}
use mathlib.Core.HLevel.{⊥_prop}
use mathlib.Core.Bool.{false≢true}
use Rattle.std.specs.List.{slice_get}
use Rattle.std.proofs.lemmas.Option.{slice_get-get_or}
use Rattle.std.proofs.lemmas.List.{ext_get_or, length-map, get_or-map}
use Rattle.std.proofs.lemmas.Bool.{and_parts, ltb-true}
use Rattle.faults.specs.declared.Reason.TheVariants as reason
use Rattle.faults.specs.declared.Fault.TheVariants.{Text}
use Rattle.temporal.specs.Formula.{Formula as Tree, bot, top, lit, conj, disj, next, always, eventually, same}
use Rattle.temporal.specs.Formula.{Kind, is_bot, is_top, other, kind, Numbered, Fine}
use Rattle.temporal.specs.Parts.{parts_of}
use Rattle.temporal.proofs.Tells.{Tells, and_tells, or_tells, lt_tells, le_tells}
use Rattle.temporal.proofs.Same.{same_tells, same_sound}
use Rattle.temporal.proofs.Runs.{base_wellformed}
use Rattle.formulas.specs.declared.Formula.{Formula}
use Rattle.formulas.specs.declared.Formula.TheVariants as entry
use Rattle.formulas.specs.Trees.{grow, trees, parts_below, ordered, place_of, entry_of}
use Rattle.formulas.proofs.Trees.{tree_built, trees_length, ordered_at}
use Rattle.grammar.specs.Numbering.{environment_names, system_names}
use Rattle.grammar.specs.Sections.{Contents, Form, formed, refused, form_of}
use Rattle.rules.specs.declared.specification.Specification.{Specification}
use Rattle.rules.specs.Form.{in_range}
use Rattle.rules.specs.Laws.{game_of, SoundView}
use Rattle.rules.specs.Read.{View, initial_of, safety_of, formulas_of, view_of, viewed, reads}
use Rattle.rules.specs.Shown.{view}
use Rattle.rules.proofs.Laws.{Tabled, fine, at, initial_is, safety_is, tabled_game, second_is_true}

-- ── a statement that a test tells follows from what is only known to exist ──
stable : {A P : Type 0} (b : Bool) → Tells b P → ∥ A ∥₁ → (A → P) → P
stable true t w f = t.0 refl
stable false t w f = absurd (∥∥₁_elim w ⊥_prop (λ a. false≢true (t.1 (f a))))

numbered_tells : (ne ns v : ℕ) → Tells (in_range ne ns v) (Numbered ne ns v)
numbered_tells ne ns v =
    or_tells (ltb v 16 && ltb v ne) (leb 16 v && ltb v (16 + ns)) (and_tells (ltb v 16) (ltb v ne) (lt_tells v 16) (lt_tells v ne))
    (and_tells (leb 16 v) (ltb v (16 + ns)) (le_tells 16 v) (lt_tells v (16 + ns)))

abbrev plain : Kind → Bool
plain is_bot = false
plain is_top = false
plain other = true

plain_tells : (k : Kind) → Tells (plain k) (k ≡ other)
plain_tells is_bot = ((λ h. absurd (false≢true h)), (λ e. ap plain e))
plain_tells is_top = ((λ h. absurd (false≢true h)), (λ e. ap plain e))
plain_tells other = ((λ h. refl), (λ e. refl))

-- normal form as a test
abbrev is_fine : ℕ → ℕ → Tree → Bool
is_fine ne ns bot = true
is_fine ne ns top = true
is_fine ne ns (lit s i) = in_range ne ns i
is_fine ne ns (conj f g) = (plain (kind f) && is_fine ne ns f) && (plain (kind g) && is_fine ne ns g)
is_fine ne ns (disj f g) = (plain (kind f) && is_fine ne ns f) && (plain (kind g) && is_fine ne ns g)
is_fine ne ns (next n f) = (leb 1 n && leb n 4095) && (plain (kind f) && is_fine ne ns f)
is_fine ne ns (always n m f) = (leb n m && leb m 4095) && (plain (kind f) && is_fine ne ns f)
is_fine ne ns (eventually n m f) = (leb n m && leb m 4095) && (plain (kind f) && is_fine ne ns f)

module _ (ne ns : ℕ) where
  bounds_tell : (a b c d : ℕ) → Tells (leb a b && leb c d) ((a ≤ b) × (c ≤ d))
  bounds_tell a b c d = and_tells (leb a b) (leb c d) (le_tells a b) (le_tells c d)

  abbrev FinePart : Tree → Type 0
  FinePart f = (kind f ≡ other) × Fine ne ns f

  part_tells : (f : Tree) → Tells (is_fine ne ns f) (Fine ne ns f) → Tells (plain (kind f) && is_fine ne ns f) (FinePart f)
  part_tells f t = and_tells (plain (kind f)) (is_fine ne ns f) (plain_tells (kind f)) t

  fine_tells : (f : Tree) → Tells (is_fine ne ns f) (Fine ne ns f)
  fine_tells bot = ((λ h. tt), (λ h. refl))
  fine_tells top = ((λ h. tt), (λ h. refl))
  fine_tells (lit s i) = numbered_tells ne ns i
  fine_tells (conj f g) =
      and_tells (plain (kind f) && is_fine ne ns f) (plain (kind g) && is_fine ne ns g) (part_tells f (fine_tells f)) (part_tells g (fine_tells g))
  fine_tells (disj f g) =
      and_tells (plain (kind f) && is_fine ne ns f) (plain (kind g) && is_fine ne ns g) (part_tells f (fine_tells f)) (part_tells g (fine_tells g))
  fine_tells (next n f) =
      and_tells (leb 1 n && leb n 4095) (plain (kind f) && is_fine ne ns f) (bounds_tell 1 n n 4095) (part_tells f (fine_tells f))
  fine_tells (always n m f) =
      and_tells (leb n m && leb m 4095) (plain (kind f) && is_fine ne ns f) (bounds_tell n m m 4095) (part_tells f (fine_tells f))
  fine_tells (eventually n m f) =
      and_tells (leb n m && leb m 4095) (plain (kind f) && is_fine ne ns f) (bounds_tell n m m 4095) (part_tells f (fine_tells f))

-- equal lists as a test
abbrev same_all : List Tree → List Tree → Bool
same_all [] [] = true
same_all [] (y ∷ ys) = false
same_all (x ∷ xs) [] = false
same_all (x ∷ xs) (y ∷ ys) = same x y && same_all xs ys

abbrev is_nil : List Tree → Bool
is_nil [] = true
is_nil (x ∷ xs) = false

all_tell : (xs ys : List Tree) → Tells (same_all xs ys) (xs ≡ ys)
all_tell [] [] = ((λ h. refl), (λ h. refl))
all_tell [] (y ∷ ys) = ((λ h. absurd (false≢true h)), (λ e. sym (ap is_nil e)))
all_tell (x ∷ xs) [] = ((λ h. absurd (false≢true h)), (λ e. ap is_nil e))
all_tell (x ∷ xs) (y ∷ ys) =
    let t = and_tells (same x y) (same_all xs ys) (same_tells x y) (all_tell xs ys) in (
      (λ h. let p = t.0 h in λ j. p.0 j ∷ p.1 j),
      (λ e. let a : x ≡ y = cc in let b : xs ≡ ys = cc in t.1 (a, b)),
    )

-- ── entries that name their parts by number in a list stand for that list ──
place_back : (g : Tree) (fs : List Tree) → place_of g fs < length fs → get_or fs (place_of g fs) bot ≡ g
place_back g [] l = absurd (omega arith)
place_back g (f ∷ fs) l = go (same g f) refl l (λ h. place_back g fs h)
  where
    go : (b : Bool) → same g f ≡ b → cond b 0 (suc (place_of g fs)) < suc (length fs)
        → (place_of g fs < length fs → get_or fs (place_of g fs) bot ≡ g) → get_or (f ∷ fs) (cond b 0 (suc (place_of g fs))) bot ≡ g
    go true e h further = sym (same_sound g f e)
    go false e h further = further (omega arith)

module _ (ts fs : List Tree) (i : ℕ) (le : i ≤ length fs) (below : (k : ℕ) → k < i → get_or ts k bot ≡ get_or fs k bot) where
  part_back : (g : Tree) → ltb (place_of g fs) i ≡ true → get_or ts (place_of g fs) bot ≡ g
  part_back g h = let l = ltb-true (place_of g fs) i h in below (place_of g fs) l ∙ place_back g fs (omega arith)

  grow_back : (f : Tree) → parts_below i (entry_of fs f) ≡ true → grow ts (entry_of fs f) ≡ f
  grow_back bot h = refl
  grow_back top h = refl
  grow_back (lit true v) h = refl
  grow_back (lit false v) h = refl
  grow_back (conj f g) h =
      let p = and_parts (ltb (place_of f fs) i) (ltb (place_of g fs) i) h in λ j. conj (part_back f p.0 j) (part_back g p.1 j)
  grow_back (disj f g) h =
      let p = and_parts (ltb (place_of f fs) i) (ltb (place_of g fs) i) h in λ j. disj (part_back f p.0 j) (part_back g p.1 j)
  grow_back (next n f) h = ap (next n) (part_back f h)
  grow_back (always n m f) h = ap (always n m) (part_back f h)
  grow_back (eventually n m f) h = ap (eventually n m) (part_back f h)

abbrev entries : List Tree → List Formula
entries fs = map (entry_of fs) fs

tree_back : (fs : List Tree) → ordered (entries fs) ≡ true → (n i : ℕ) → i < n → i < length fs → get_or (trees (entries fs)) i bot ≡ get_or fs i bot
tree_back fs o zero i l h = absurd (omega arith)
tree_back fs o (suc n) i l h =
    let long = length-map fs (entry_of fs) in
    let es = entries fs in
    let e = get_or es i entry.False in
    let is : e ≡ entry_of fs (get_or fs i bot) = get_or-map (entry_of fs) fs i bot entry.False h in
    let here : slice_get es i ≡ Some (entry_of fs (get_or fs i bot)) = slice_get-get_or es i entry.False (omega arith) ∙ ap Some is in
    tree_built es i _ o here
    ∙ grow_back (trees es) fs i (omega arith) (λ k m. tree_back fs o n k (omega arith) (omega arith)) (get_or fs i bot) (ordered_at es i _ o here)

trees_back : (fs : List Tree) → ordered (entries fs) ≡ true → trees (entries fs) ≡ fs
trees_back fs o =
    let long = length-map fs (entry_of fs) in
    ext_get_or bot (trees (entries fs)) fs (trees_length (entries fs) ∙ long)
    (λ i h. tree_back fs o (suc i) i (omega arith) (omega (arith, trees_length (entries fs))))

-- ── what a text that reads as a view says of it ──
pub record Stated (v : View) : Type 0 where
  pub initial : Fine (game_of v).environment (game_of v).system (game_of v).initial
  pub safety : Fine (game_of v).environment (game_of v).system (game_of v).safety
  pub free : (game_of v).third ≡ top
  pub parts : trees v.formulas ≡ parts_of (game_of v).initial (game_of v).safety
  pub environment : length (environment_names v.names) ≤ 16
  pub system : length (system_names v.names) ≤ 16

-- parts before wholes, and both numbers in range
abbrev Kept : View → Type 0
Kept v = (ordered v.formulas ≡ true) × (v.initial < length v.formulas) × (v.safety < length v.formulas)

of_contents : (text : List ℕ) (c : Contents) → form_of text ≡ formed c → Kept (view_of c) → Stated (view_of c)
of_contents text c e k =
    let fs = formulas_of c in
    let es = entries fs in
    let i = place_of (initial_of c) fs in
    let s = place_of (safety_of c) fs in
    let long = length-map fs (entry_of fs) in
    let li : i < length fs = omega (arith, k.1) in
    let ls : s < length fs = omega (arith, k.2) in
    let are : trees es ≡ fs = trees_back fs k.0 in
    let t : Tabled c c.names es i s = record {
      names_are = refl;
      in_order = k.0;
      trees_are = are;
      initial_at = slice_get-get_or fs i bot li ∙ ap Some (place_back (initial_of c) fs li);
      safety_at = slice_get-get_or fs s bot ls ∙ ap Some (place_back (safety_of c) fs ls);
    } in
    let w = tabled_game text c e c.names es i s t (second_is_true c) in
    let a = initial_is text c e c.names es i s t in
    let b = safety_is text c e c.names es i s t in
    record {
      initial = w.initial;
      safety = w.safety;
      free = at text c e c.names es i s t 1 top (second_is_true c);
      parts = are ∙ (λ j. parts_of (sym a j) (sym b j));
      environment = (fine text c e c.names es i s t).environment;
      system = (fine text c e c.names es i s t).system;
    }

stated : (v : View) (text : List ℕ) → reads text ≡ Ok v → Kept v → Stated v
stated v text r k = by_form (form_of text) refl r
  where
    by_count : (c : Contents) → form_of text ≡ formed c → (b : Bool)
        → cond b (Err (Text (record { reason = reason.Formulas; place = length text }))) (Ok (view_of c)) ≡ Ok v → Stated v
    by_count c e true h = let z : ◌≡◌ {A = ℕ} 0 1 = cc in absurd (omega arith)
    by_count c e false h = let is : view_of c ≡ v = cc in subst Stated is (of_contents text c e (subst Kept (sym is) k))

    by_form : (o : Form) → form_of text ≡ o → viewed (length text) o ≡ Ok v → Stated v
    by_form (refused f) e h = let z : ◌≡◌ {A = ℕ} 0 1 = cc in absurd (omega arith)
    by_form (formed c) e h = by_count c e (ltb 256 (length (formulas_of c))) h

-- ── every specification ──
pub spec_sound : (s : Specification) → SoundView (view s)
spec_sound s =
    let v = view s in
    let long : length v.formulas ≡ s.formulas.count = length-take-le s.formulas.count s.formulas.table s.formulas.held.1 in
    let few : length v.formulas ≤ 256 = omega (arith, s.formulas.held.0) in
    let kept : Kept v = (s.formulas.ordered, omega (arith, s.formulas.rooted.0), omega (arith, s.formulas.rooted.1)) in
    let ne = (game_of v).environment in
    let ns = (game_of v).system in
    let free = stable (same (game_of v).third top) (same_tells (game_of v).third top) s.read (λ p. (stated v p.0 p.1 kept).free) in
    record {
      game = base_wellformed (game_of v) free
          (stable _ (fine_tells ne ns (game_of v).initial) s.read (λ p. (stated v p.0 p.1 kept).initial))
          (stable _ (fine_tells ne ns (game_of v).safety) s.read (λ p. (stated v p.0 p.1 kept).safety));
      free = free;
      parts = stable _ (all_tell (trees v.formulas) (parts_of (game_of v).initial (game_of v).safety)) s.read
          (λ p. (stated v p.0 p.1 kept).parts);
      few = few;
      ordered = kept.0;
      initial = kept.1;
      safety = kept.2;
      environment = stable _ (le_tells ne 16) s.read (λ p. (stated v p.0 p.1 kept).environment);
      system = stable _ (le_tells ns 16) s.read (λ p. (stated v p.0 p.1 kept).system);
    }
