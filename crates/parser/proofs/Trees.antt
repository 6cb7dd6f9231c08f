-- One more node at the end of a list of nodes.
use Rattle.std.proofs.Common.{◌≡◌, ℕ, suc, ◌+◌, true, List, [], ◌∷◌, ◌++◌, length, get_or, fold, sym, refl, ap, ◌∙◌, arith, ◌<◌, take, set, length-take}
use Rattle.std.proofs.lemmas.List.{get_or_append_left, get_or_push, length_push, take_more_set}
use Rattle.std.proofs.lemmas.List.Sums.{fold_push}
use Rattle.std.proofs.lemmas.Bool.{and_parts, and_from}
use Rattle.temporal.specs.Written.{Written, truth}
use Rattle.nodes.specs.declared.node.Node.{Node}
use Rattle.nodes.specs.Trees.{grow, trees_of, parts_below, ordered_from, ordered as in_order}
use Rattle.parser.specs.declared.reader.Reader.{Reader}
use Rattle.parser.specs.declared.reader.Part.{Part}
use Rattle.parser.specs.Reading.{listed, Pushed}

trees_push : (ns : List Node) (x : Node) → trees_of (ns ++ x ∷ []) ≡ trees_of ns ++ grow (trees_of ns) x ∷ []
trees_push ns x = fold_push _ [] ns x

grown_long : (ts : List Written) (ns : List Node) → length (fold (λ us n. us ++ grow us n ∷ []) ts ns) ≡ length ts + length ns
grown_long ts [] = omega arith
grown_long ts (n ∷ ns) = omega (arith, grown_long (ts ++ grow ts n ∷ []) ns, length_push ts (grow ts n))

trees_long : (ns : List Node) → length (trees_of ns) ≡ length ns
trees_long ns = omega (arith, grown_long [] ns)

ordered_push :
    (i : ℕ) (ns : List Node) (x : Node) → ordered_from i ns ≡ true → parts_below (i + length ns) x ≡ true →
    ordered_from i (ns ++ x ∷ []) ≡ true
ordered_push i [] x o p = let e : i + 0 ≡ i = omega arith in and_from _ _ (ap (λ j. parts_below j x) (sym e) ∙ p) refl
ordered_push i (n ∷ ns) x o p =
    let h = and_parts (parts_below i n) (ordered_from (suc i) ns) o in
    let e : suc i + length ns ≡ i + suc (length ns) = omega arith in
    and_from _ _ h.0 (ordered_push (suc i) ns x h.1 (ap (λ j. parts_below j x) e ∙ p))

-- the reader s' lists x behind the nodes of s
pub pushed :
    (s s' : Reader) (x : Node) (p : Part) (n : ℕ) → listed s' ≡ listed s ++ x ∷ [] → length (listed s) ≡ s.count →
    p.root ≡ s.count → p.next ≡ n → s'.count ≡ s.count + 1 → s'.names ≡ s.names → Pushed s x n s' p
pushed s s' x p n e l r next count names =
    let ts = trees_of (listed s) in
    let u : trees_of (listed s') ≡ ts ++ grow ts x ∷ [] = ap trees_of e ∙ trees_push (listed s) x in
    let long : length ts ≡ s.count = trees_long (listed s) ∙ l in
    record {
      root = r;
      next = next;
      count = count;
      names = names;
      kept = λ i h. ap (λ us. get_or us i truth) u ∙ get_or_append_left ts (grow ts x ∷ []) truth i (omega (arith, long));
      top = ap (λ us. get_or us p.root truth) u ∙ get_or_push ts (grow ts x) truth p.root (long ∙ sym r);
    }

-- parts still stand before wholes with x behind the others, its parts
pub pushed_order :
    (s : Reader) (x : Node) → s.count < length s.nodes → parts_below s.count x ≡ true →
    in_order (take (s.count + 1) (set s.nodes s.count x)) ≡ true
pushed_order s x room b =
    let l : s.count ≡ 0 + length (listed s) = omega (arith, length-take s.count s.nodes, s.held) in
    ap in_order (take_more_set s.nodes s.count x room)
    ∙ ordered_push 0 (listed s) x s.ordered (ap (λ j. parts_below j x) (sym l) ∙ b)
