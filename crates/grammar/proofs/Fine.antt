-- What is derived has variables below their counts and bounds in their ranges.
use Rattle.std.proofs.Common.{◌≡◌, ℕ, ◌≤◌, Bool, true, false, List, [], length, sym, ap, subst, inl, inr, arith}
use Rattle.lexer.specs.Lexer.{look_at}
use Rattle.names.specs.declared.Name.{Name}
use Rattle.temporal.specs.Formula.{Numbered}
use Rattle.temporal.specs.Written.{Written, falsity, truth, variable, negation, later, throughout, within, conjunction, disjunction, implication, equivalence, WrittenFine}
use Rattle.nodes.specs.declared.node.Prefix.{Prefix}
use Rattle.nodes.specs.declared.node.Prefix.TheVariants as prefix
use Rattle.nodes.specs.Trees.{constant_of, apply}
use Rattle.grammar.specs.Grammar.{State}
use Rattle.grammar.specs.Numbering.{environment_names, system_names}
use Rattle.grammar.specs.Sections.{Contents}
use Rattle.grammar.specs.Shows.{Level, Shows, Line, Lines, first, further, Derives, FineContents, DerivedFormulasAreFine}
use Rattle.grammar.specs.Shows.{shows_constant, shows_variable, shows_unary, shows_group, shows_operand, shows_and, shows_or, shows_implies, shows_equivalent}
use Rattle.grammar.proofs.Names.{Few, Grown, grown_same, grown_both, grown_extended, few_extended, numbered_extended}
use Rattle.grammar.proofs.Ranges.{bounds_complete}
use Rattle.grammar.proofs.Prefixes.{Bounded, prefix_ok}
use Rattle.grammar.proofs.Reading.{reads_what_is_derived}

-- all variables of t are among the names, and its bounds lie in their ranges
abbrev FineBy : List Name → Written → Type 0
FineBy names t = WrittenFine (length (environment_names names)) (length (system_names names)) t

numbered_more : (a b c d i : ℕ) → a ≤ c → b ≤ d → Numbered a b i → Numbered c d i
numbered_more a b c d i p q (inl h) = inl (h.0, omega (arith, h.1))
numbered_more a b c d i p q (inr h) = inr (h.0, omega (arith, h.1))

-- with more variables it stays so
fine_more : (a b c d : ℕ) (t : Written) → a ≤ c → b ≤ d → WrittenFine a b t → WrittenFine c d t
fine_more a b c d falsity p q h = tt
fine_more a b c d truth p q h = tt
fine_more a b c d (variable i) p q h = numbered_more a b c d i p q h
fine_more a b c d (negation t) p q h = fine_more a b c d t p q h
fine_more a b c d (later n t) p q h = (h.0, fine_more a b c d t p q h.1)
fine_more a b c d (throughout n m t) p q h = (h.0, fine_more a b c d t p q h.1)
fine_more a b c d (within n m t) p q h = (h.0, fine_more a b c d t p q h.1)
fine_more a b c d (conjunction t u) p q h = (fine_more a b c d t p q h.0, fine_more a b c d u p q h.1)
fine_more a b c d (disjunction t u) p q h = (fine_more a b c d t p q h.0, fine_more a b c d u p q h.1)
fine_more a b c d (implication t u) p q h = (fine_more a b c d t p q h.0, fine_more a b c d u p q h.1)
fine_more a b c d (equivalence t u) p q h = (fine_more a b c d t p q h.0, fine_more a b c d u p q h.1)

fine_grown : (names more : List Name) (t : Written) → Grown names more → FineBy names t → FineBy more t
fine_grown names more t g h = fine_more _ _ _ _ t g.environment g.system h

fine_constant : (names : List Name) (v : Bool) → FineBy names (constant_of v)
fine_constant names true = tt
fine_constant names false = tt

fine_prefix : (names : List Name) (p : Prefix) (t : Written) → Bounded p → FineBy names t → FineBy names (apply p t)
fine_prefix names prefix.Not t b h = h
fine_prefix names (prefix.Next n) t b h = (b, h)
fine_prefix names (prefix.Always n m) t b h = (b, h)
fine_prefix names (prefix.Eventually n m) t b h = (b, h)

module _ (text : List ℕ) where
  grown : {l : Level} {n : ℕ} {a b : State} {t : Written} → Shows text l n a b t → Grown a.names b.names
  grown (shows_constant {a = a} v e) = grown_same a.names
  grown (shows_variable {a = a} x e q lt) = grown_extended x a.names
  grown (shows_unary u next p e q s) = grown s
  grown (shows_group e s q) = grown s
  grown (shows_operand c s) = grown s
  grown (shows_and {a = a} {b = b} {c = c} s e s') = grown_both a.names b.names c.names (grown s) (grown s')
  grown (shows_or {a = a} {b = b} {c = c} s e s') = grown_both a.names b.names c.names (grown s) (grown s')
  grown (shows_implies {a = a} {b = b} {c = c} s e s') = grown_both a.names b.names c.names (grown s) (grown s')
  grown (shows_equivalent {a = a} {b = b} {c = c} s e s') = grown_both a.names b.names c.names (grown s) (grown s')

  few : {l : Level} {n : ℕ} {a b : State} {t : Written} → Shows text l n a b t → Few a.names → Few b.names
  few (shows_constant v e) f = f
  few (shows_variable {a = a} x e q lt) f = few_extended x a.names lt f
  few (shows_unary u next p e q s) f = few s f
  few (shows_group e s q) f = few s f
  few (shows_operand c s) f = few s f
  few (shows_and s e s') f = few s' (few s f)
  few (shows_or s e s') f = few s' (few s f)
  few (shows_implies s e s') f = few s' (few s f)
  few (shows_equivalent s e s') f = few s' (few s f)

  fine : {l : Level} {n : ℕ} {a b : State} {t : Written} → Shows text l n a b t → FineBy b.names t
  fine (shows_constant {a = a} v e) = fine_constant a.names v
  fine (shows_variable {a = a} x e q lt) = numbered_extended x a.names lt
  fine (shows_unary {a = a} {b = b} {t = t} u next p e q s) =
      let at = (look_at text a.at).next in
      fine_prefix b.names p t (prefix_ok text at u (record { prefix = p; next = next }) (bounds_complete text q)).bounded (fine s)
  fine (shows_group e s q) = fine s
  fine (shows_operand c s) = fine s
  fine (shows_and {b = b} {c = c} {t = t} s e s') = (fine_grown b.names c.names t (grown s') (fine s), fine s')
  fine (shows_or {b = b} {c = c} {t = t} s e s') = (fine_grown b.names c.names t (grown s') (fine s), fine s')
  fine (shows_implies {b = b} {c = c} {t = t} s e s') = (fine_grown b.names c.names t (grown s') (fine s), fine s')
  fine (shows_equivalent {b = b} {c = c} {t = t} s e s') = (fine_grown b.names c.names t (grown s') (fine s), fine s')

  -- a line, and lines: the names behind them, and the formula
  record WrittenBy (a b : State) (t : Written) : Type 0 where
    few_on : Few a.names → Few b.names
    grown_on : Grown a.names b.names
    fine_there : FineBy b.names t

  by_line : (a b : State) (t : Written) → Line text a b t → WrittenBy a b t
  by_line a b t h =
      let same : h.end.names ≡ b.names = ap (λ s. s.names) (sym h.next) in
      record {
        few_on = λ f. subst Few same (few h.shows f);
        grown_on = subst (Grown a.names) same (grown h.shows);
        fine_there = subst (λ ns. FineBy ns t) same (fine h.shows);
      }

  by_lines : {a b : State} {t : Written} → Lines text a b t → WrittenBy a b t
  by_lines (first {a = a} {b = b} {t = t} h) = by_line a b t h
  by_lines (further {a = a} {b = b} {c = c} {t = t} {u = u} s h) =
      let p = by_lines s in
      let q = by_line b c u h in
      record {
        few_on = λ f. q.few_on (p.few_on f);
        grown_on = grown_both a.names b.names c.names p.grown_on q.grown_on;
        fine_there = (fine_grown b.names c.names t q.grown_on p.fine_there, q.fine_there);
      }

  by_derivation : (c : Contents) → Derives text c → FineContents c
  by_derivation c d =
      let begin : State = record { at = d.initial_begin; names = [] } in
      let p = by_line begin d.initial_end c.initial d.initial_line in
      let q = by_lines d.safety_lines in
      let none : Few [] = record { distinct = tt; environment = omega arith; system = omega arith } in
      let ends = q.few_on (p.few_on none) in
      let same = sym d.names in
      record {
        distinct = (subst (λ ns. Few ns) same ends).distinct;
        environment = (subst (λ ns. Few ns) same ends).environment;
        system = (subst (λ ns. Few ns) same ends).system;
        initial = subst (λ ns. FineBy ns c.initial) same (fine_grown _ _ c.initial q.grown_on p.fine_there);
        safety = subst (λ ns. FineBy ns c.safety) same q.fine_there;
      }

pub derived_formulas_are_fine : DerivedFormulasAreFine
derived_formulas_are_fine text c e = by_derivation text c ((reads_what_is_derived text c).0 e)
