-- A table of entries whose trees are known is known itself.
use Rattle.std.proofs.Common.{◌≡◌, ℕ, ◌<◌, ◌≤◌, true, List, map, length, get_or, Some, sym, ap, ◌∙◌, subst, arith}
use Rattle.std.specs.List.{slice_get}
use Rattle.std.proofs.lemmas.Option.{slice_get-get_or, get_or_from_slice_get, slice_get_within}
use Rattle.std.proofs.lemmas.List.{ext_get_or, length-map, get_or-map}
use Rattle.temporal.specs.Formula.{Formula as Tree, bot}
use Rattle.temporal.specs.Parts.{Once}
use Rattle.temporal.proofs.Parts.{parts_once}
use Rattle.names.specs.declared.Name.{Name}
use Rattle.formulas.specs.declared.Formula.{Formula}
use Rattle.formulas.specs.declared.Formula.TheVariants as entry
use Rattle.formulas.specs.Trees.{trees, ordered, place_of, entry_of}
use Rattle.formulas.proofs.Trees.{placed, entry_back, tree_built, trees_length, ordered_at, below_more}
use Rattle.grammar.specs.Sections.{Contents}
use Rattle.rules.specs.Read.{initial_of, safety_of, formulas_of, view_of}

-- the entry at a place is the entry of its tree
entry_at_lem : (es : List Formula) (i : ℕ) → ordered es ≡ true → Once (trees es) → i < length es
    → entry_of (trees es) (get_or (trees es) i bot) ≡ get_or es i entry.False
entry_at_lem es i o u h =
    let e = get_or es i entry.False in
    let at : slice_get es i ≡ Some e = slice_get-get_or es i entry.False h in
    let le : i ≤ length (trees es) = omega (arith, trees_length es) in
    ap (entry_of (trees es)) (tree_built es i e o at) ∙ entry_back (trees es) e u (below_more i (length (trees es)) e le (ordered_at es i e o at))

pub entries_back : (es : List Formula) → ordered es ≡ true → Once (trees es) → map (entry_of (trees es)) (trees es) ≡ es
entries_back es o u =
    ext_get_or entry.False (map (entry_of (trees es)) (trees es)) es (length-map (trees es) (entry_of (trees es)) ∙ trees_length es)
    (λ i h.
    let lt : i < length (trees es) = omega (arith, length-map (trees es) (entry_of (trees es))) in
    get_or-map (entry_of (trees es)) (trees es) i bot entry.False lt ∙ entry_at_lem es i o u (omega (arith, trees_length es)))

-- a formula's place in a list without doubles is its number
pub place_is : (ys : List Tree) (i : ℕ) (f : Tree) → Once ys → slice_get ys i ≡ Some f → i ≡ place_of f ys
place_is ys i f u n =
    let lt : i < length ys = slice_get_within ys i f n in
    let e : get_or ys i bot ≡ f = get_or_from_slice_get ys i f bot n in
    sym (ap (λ g. place_of g ys) (sym e) ∙ placed ys i u lt)

-- what is known of the names, the trees of the entries, and the two numbers is all that a view shows
pub view_is : (c : Contents) (ns : List Name) (es : List Formula) (i s : ℕ) → ns ≡ c.names → ordered es ≡ true → trees es ≡ formulas_of c
    → slice_get (formulas_of c) i ≡ Some (initial_of c) → slice_get (formulas_of c) s ≡ Some (safety_of c)
    → record { names = ns; formulas = es; initial = i; safety = s; third = 1 } ≡ view_of c
view_is c ns es i s n o t a b =
    let once = parts_once (initial_of c) (safety_of c) in
    let es_are : es ≡ map (entry_of (formulas_of c)) (formulas_of c) =
    subst (λ (ys : List Tree). es ≡ map (entry_of ys) ys) t (sym (entries_back es o (subst Once (sym t) once))) in
    λ j. record {
      names = n j;
      formulas = es_are j;
      initial = place_is (formulas_of c) i (initial_of c) once a j;
      safety = place_is (formulas_of c) s (safety_of c) once b j;
      third = 1;
    }
