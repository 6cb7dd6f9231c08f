-- From what parsing and normal form give to what reading promises.
use Rattle.std.proofs.Common.{◌≡◌, ℕ, suc, ◌+◌, ◌<◌, ◌≤◌, Bool, true, false, ◌&&◌, ◌||◌, ltb, leb, List, [], ◌∷◌, ◌++◌, length, Some, sym, refl, ap, ◌∙◌, subst, inl, inr, arith}
use Rattle.std.specs.List.{slice_get}
use Rattle.std.proofs.lemmas.Option.{get_or_from_slice_get, slice_get_within}
use Rattle.std.proofs.lemmas.Bool.{and_from, lt-ltb, le-leb}
use Rattle.temporal.specs.Formula.{Formula as Tree, bot, top, Fine, Numbered}
use Rattle.temporal.specs.Game.{WellFormed}
use Rattle.temporal.specs.Parts.{◌∈◌, enter}
use Rattle.temporal.proofs.Lists.{at_member}
use Rattle.temporal.proofs.Normal.{says_true, normal_fine, fine_ordered}
use Rattle.temporal.proofs.Parts.{parts_fine, enter_extends}
use Rattle.temporal.proofs.Runs.{base_wellformed}
use Rattle.names.specs.declared.Name.{Name}
use Rattle.formulas.specs.declared.Formula.{Formula}
use Rattle.formulas.specs.declared.Formula.TheVariants as entry
use Rattle.formulas.specs.Trees.{grow, trees, ordered}
use Rattle.formulas.proofs.Trees.{tree_built, trees_length}
use Rattle.grammar.specs.Numbering.{environment_names, system_names}
use Rattle.grammar.specs.Sections.{Contents, formed, form_of}
use Rattle.grammar.specs.Shows.{Derives, FineContents}
use Rattle.grammar.proofs.Reading.{reads_what_is_derived, derivation_is_unique}
use Rattle.grammar.proofs.Fine.{derived_formulas_are_fine}
use Rattle.rules.specs.Form.{in_range, keeps, all_keep, in_form}
use Rattle.rules.specs.Laws.{formula_at, game_of, SaysTheSame}
use Rattle.rules.specs.Read.{View, initial_of, safety_of, formulas_of, view_of}
use Rattle.rules.proofs.Views.{view_is}

-- ── form ──
or_left : (a b : Bool) → a ≡ true → (a || b) ≡ true
or_left true b e = refl
or_left false b e = cc

or_right : (a b : Bool) → b ≡ true → (a || b) ≡ true
or_right true b e = refl
or_right false b e = e

numbered_in : (ne ns v : ℕ) → Numbered ne ns v → in_range ne ns v ≡ true
numbered_in ne ns v (inl h) =
    or_left (ltb v 16 && ltb v ne) (leb 16 v && ltb v (16 + ns)) (and_from (ltb v 16) (ltb v ne) (lt-ltb v 16 h.0) (lt-ltb v ne h.1))
numbered_in ne ns v (inr h) =
    or_right (ltb v 16 && ltb v ne) (leb 16 v && ltb v (16 + ns)) (and_from (leb 16 v) (ltb v (16 + ns)) (le-leb 16 v h.0) (lt-ltb v (16 + ns) h.1))

both_le : (a b c d : ℕ) → (a ≤ b) × (c ≤ d) → (leb a b && leb c d) ≡ true
both_le a b c d h = and_from (leb a b) (leb c d) (le-leb a b h.0) (le-leb c d h.1)

-- an entry whose formula is in normal form keeps bounds and variables
keeps_form : (ne ns : ℕ) (ts : List Tree) (e : Formula) → Fine ne ns (grow ts e) → keeps ne ns e ≡ true
keeps_form ne ns ts entry.False h = refl
keeps_form ne ns ts entry.True h = refl
keeps_form ne ns ts (entry.Variable v) h = numbered_in ne ns v h
keeps_form ne ns ts (entry.Negated v) h = numbered_in ne ns v h
keeps_form ne ns ts (entry.And a b) h = refl
keeps_form ne ns ts (entry.Or a b) h = refl
keeps_form ne ns ts (entry.Next n a) h = both_le 1 n n 4095 h.0
keeps_form ne ns ts (entry.Always n m a) h = both_le n m m 4095 h.0
keeps_form ne ns ts (entry.Eventually n m a) h = both_le n m m 4095 h.0

all_keep_lem : (ne ns : ℕ) (es : List Formula) → ((i : ℕ) (e : Formula) → slice_get es i ≡ Some e → keeps ne ns e ≡ true) → all_keep ne ns es ≡ true
all_keep_lem ne ns [] h = refl
all_keep_lem ne ns (e ∷ es) h = and_from (keeps ne ns e) (all_keep ne ns es) (h 0 e refl) (all_keep_lem ne ns es (λ i d n. h (suc i) d n))

tree_in : (es : List Formula) (i : ℕ) (e : Formula) → ordered es ≡ true → slice_get es i ≡ Some e → grow (trees es) e ∈ trees es
tree_in es i e o n =
    let lt : i < length (trees es) = omega (arith, trees_length es, slice_get_within es i e n) in
    subst (λ (f : Tree). f ∈ trees es) (tree_built es i e o n) (at_member (trees es) i bot lt)

-- ── contents that were read, as a table of entries ──
-- what parsing and normal form give: the names and entries of contents c, and the numbers of its two formulas
pub record Tabled (c : Contents) (names : List Name) (es : List Formula) (i s : ℕ) : Type 0 where
  pub names_are : names ≡ c.names
  pub in_order : ordered es ≡ true
  pub trees_are : trees es ≡ formulas_of c
  pub initial_at : slice_get (formulas_of c) i ≡ Some (initial_of c)
  pub safety_at : slice_get (formulas_of c) s ≡ Some (safety_of c)

abbrev pub tabled_view : List Name → List Formula → ℕ → ℕ → View
tabled_view names es i s = record { names = names; formulas = es; initial = i; safety = s; third = 1 }

pub tabled_is : (c : Contents) (names : List Name) (es : List Formula) (i s : ℕ) → Tabled c names es i s → tabled_view names es i s ≡ view_of c
tabled_is c names es i s t = view_is c names es i s t.names_are t.in_order t.trees_are t.initial_at t.safety_at

module _ (text : List ℕ) (c : Contents) (read : form_of text ≡ formed c) (names : List Name) (es : List Formula) (i s : ℕ) (t : Tabled c names es i s) where
  pub fine : FineContents c
  fine = derived_formulas_are_fine text c read

  all_fine : (f : Tree) → f ∈ formulas_of c → Fine (length (environment_names c.names)) (length (system_names c.names)) f
  all_fine f m =
      let ne = length (environment_names c.names) in
      let ns = length (system_names c.names) in
      parts_fine ne ns (initial_of c) (safety_of c) (normal_fine ne ns c.initial true fine.initial) (normal_fine ne ns c.safety true fine.safety) f m

  names_fine : (f : Tree) → f ∈ trees es → Fine (length (environment_names names)) (length (system_names names)) f
  names_fine f m =
      let P : List Name → Type 0 = λ ns. Fine (length (environment_names ns)) (length (system_names ns)) f in
      subst P (sym t.names_are) (all_fine f (subst (λ (fs : List Tree). f ∈ fs) t.trees_are m))

  pub tabled_form : in_form names es ≡ true
  tabled_form =
      all_keep_lem (length (environment_names names)) (length (system_names names)) es
      (λ k e n. keeps_form (length (environment_names names)) (length (system_names names)) (trees es) e (names_fine (grow (trees es) e) (tree_in es k e t.in_order n)))

  pub at : (k : ℕ) (f : Tree) → slice_get (formulas_of c) k ≡ Some f → formula_at (tabled_view names es i s) k ≡ f
  at k f n =
      let m : slice_get (trees es) k ≡ Some f = ap (λ fs. slice_get fs k) t.trees_are ∙ n in
      get_or_from_slice_get (trees es) k f bot m

  pub initial_is : (game_of (tabled_view names es i s)).initial ≡ initial_of c
  initial_is = at i (initial_of c) t.initial_at

  pub safety_is : (game_of (tabled_view names es i s)).safety ≡ safety_of c
  safety_is = at s (safety_of c) t.safety_at

  -- the same contents, however they were derived
  pub tabled_meaning : (d : Contents) → Derives text d
      → SaysTheSame (game_of (tabled_view names es i s)).initial d.initial × SaysTheSame (game_of (tabled_view names es i s)).safety d.safety
  tabled_meaning d e =
      let ne = length (environment_names c.names) in
      let ns = length (system_names c.names) in
      let same : c ≡ d = derivation_is_unique text c d ((reads_what_is_derived text c).0 read) e in
      let P : Contents → Type 0 = λ d.
      SaysTheSame (game_of (tabled_view names es i s)).initial d.initial × SaysTheSame (game_of (tabled_view names es i s)).safety d.safety in
      let α : SaysTheSame (initial_of c) c.initial = λ σ k. says_true σ c.initial k (fine_ordered ne ns c.initial fine.initial) in
      let ψ : SaysTheSame (safety_of c) c.safety = λ σ k. says_true σ c.safety k (fine_ordered ne ns c.safety fine.safety) in
      let A : Tree → Type 0 = λ f. SaysTheSame f c.initial in
      let B : Tree → Type 0 = λ f. SaysTheSame f c.safety in
      subst P same (subst A (sym initial_is) α, subst B (sym safety_is) ψ)

  -- the third part is formula 1, which is true
  pub tabled_game : slice_get (formulas_of c) 1 ≡ Some top → WellFormed (game_of (tabled_view names es i s))
  tabled_game one =
      let third_is : (game_of (tabled_view names es i s)).third ≡ top = at 1 top one in
      let F : Tree → Type 0 = λ f. Fine (length (environment_names names)) (length (system_names names)) f in
      let in_trees : (k : ℕ) (f : Tree) → slice_get (formulas_of c) k ≡ Some f → f ∈ trees es = λ k f n.
      let m : slice_get (trees es) k ≡ Some f = ap (λ fs. slice_get fs k) t.trees_are ∙ n in
      let lt = slice_get_within (trees es) k f m in
      subst (λ (g : Tree). g ∈ trees es) (get_or_from_slice_get (trees es) k f bot m) (at_member (trees es) k bot lt) in
      base_wellformed (game_of (tabled_view names es i s)) third_is
      (subst F (sym initial_is) (names_fine (initial_of c) (in_trees i (initial_of c) t.initial_at)))
      (subst F (sym safety_is) (names_fine (safety_of c) (in_trees s (safety_of c) t.safety_at)))

-- formula 1 is true: entering formulas only adds to the two constants
pub second_is_true : (c : Contents) → slice_get (formulas_of c) 1 ≡ Some top
second_is_true c =
    let a = enter_extends (bot ∷ (top ∷ [])) (initial_of c) in
    let b = enter_extends (enter (bot ∷ (top ∷ [])) (initial_of c)) (safety_of c) in
    ap (λ fs. slice_get fs 1) (b.1 ∙ ap (λ fs. fs ++ b.0) a.1)
