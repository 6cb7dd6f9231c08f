-- Numbered lines one after another, by place.
use Rattle.std.proofs.Common.{◌≡◌, ℕ, zero, suc, ◌+◌, ◌-◌, ◌<◌, ◌≤◌, List, [], ◌∷◌, ◌++◌, length, Some, None, Option, sym, refl, ap, ◌∙◌, arith, length-append}
use Rattle.std.specs.List.{slice_get}
use Rattle.std.specs.Option.{IsSomeAnd, MatchOption, option_map}
use Rattle.grammar.specs.Numbering.{environment_names, system_names}
use Rattle.rules.specs.Read.{View}
use Rattle.explanation.specs.Explanation.{numbered, environment_line, system_line, formula_line}
use Rattle.explanation.specs.Explanation.{environment_lines, system_lines, formula_lines, root_lines, specification_lines}

from_number : {A : Type 0} (line : ℕ → A → List ℕ) (i : ℕ) (xs : List A) (n : ℕ)
    → slice_get (numbered line i xs) n ≡ option_map (line (i + n)) (slice_get xs n)
from_number line i [] n = refl
from_number line i (x ∷ xs) zero = let e : i ≡ i + 0 = omega arith in ap (λ j. Some (line j x)) e
from_number line i (x ∷ xs) (suc n) =
    let e : (i + 1) + n ≡ i + suc n = omega arith in
    from_number line (i + 1) xs n ∙ ap (λ j. option_map (line j) (slice_get xs n)) e

-- the line at a place
pub numbered_at : {A : Type 0} (line : ℕ → A → List ℕ) (xs : List A) (n : ℕ) → slice_get (numbered line 0 xs) n ≡ option_map (line n) (slice_get xs n)
numbered_at line xs n =
    let e : 0 + n ≡ n = omega arith in
    from_number line 0 xs n ∙ ap (λ j. option_map (line j) (slice_get xs n)) e

pub numbered_length : {A : Type 0} (line : ℕ → A → List ℕ) (i : ℕ) (xs : List A) → length (numbered line i xs) ≡ length xs
numbered_length line i [] = refl
numbered_length line i (x ∷ xs) = ap suc (numbered_length line (i + 1) xs)

-- a place in the first or in the second of two lists in a row
pub nth_front : {A : Type 0} (xs ys : List A) (n : ℕ) → n < length xs → slice_get (xs ++ ys) n ≡ slice_get xs n
nth_front [] ys n h = absurd (omega arith)
nth_front (x ∷ xs) ys zero h = refl
nth_front (x ∷ xs) ys (suc n) h = nth_front xs ys n (omega arith)

pub nth_back : {A : Type 0} (xs ys : List A) (n : ℕ) → length xs ≤ n → slice_get (xs ++ ys) n ≡ slice_get ys (n - length xs)
nth_back [] ys n h = let e : n ≡ n - 0 = omega arith in ap (slice_get ys) e
nth_back (x ∷ xs) ys zero h = absurd (omega arith)
nth_back (x ∷ xs) ys (suc n) h =
    let e : n - length xs ≡ suc n - suc (length xs) = omega arith in
    nth_back xs ys n (omega arith) ∙ ap (slice_get ys) e

-- what a list has at a place, mapped to its line by a closure whose calls give the line
pub numbered_mapped : {A : Type 0} {P : A → List ℕ → Type 0} (line : ℕ → A → List ℕ) (xs : List A) (n : ℕ) (o : Option A) (r : Option (List ℕ))
    → o ≡ slice_get xs n → ((x : A) (l : List ℕ) → P x l → l ≡ line n x) → MatchOption o (r ≡ None) (λ x. IsSomeAnd r (P x))
    → r ≡ slice_get (numbered line 0 xs) n
numbered_mapped {A} {P} line xs n o r e h m = of_map o r m ∙ ap (option_map (line n)) e ∙ sym (numbered_at line xs n)
  where
    of_map : (o : Option A) (r : Option (List ℕ)) → MatchOption o (r ≡ None) (λ x. IsSomeAnd r (P x)) → r ≡ option_map (line n) o
    of_map None r m = m
    of_map (Some x) None m = absurd m
    of_map (Some x) (Some l) m = ap (λ t. Some t) (h x l m)

-- four lists in a row, each after those before it
module _ {A : Type 0} (ws xs ys zs : List A) (r : Option A) (n a : ℕ) (p : length ws ≡ a) where
  pub in_first : n < a → r ≡ slice_get ws n → r ≡ slice_get (ws ++ xs ++ ys ++ zs) n
  in_first h e =
      let l = length-append ws xs in
      let m = length-append (ws ++ xs) ys in
      e ∙ sym (nth_front ws xs n (omega arith)) ∙ sym (nth_front (ws ++ xs) ys n (omega (arith, l)))
      ∙ sym (nth_front (ws ++ xs ++ ys) zs n (omega (arith, l, m)))

  module _ (b : ℕ) (q : length xs ≡ b) (g : a ≤ n) where
    pub in_second : n - a < b → r ≡ slice_get xs (n - a) → r ≡ slice_get (ws ++ xs ++ ys ++ zs) n
    in_second h e =
        let l = length-append ws xs in
        let m = length-append (ws ++ xs) ys in
        let i : n - a ≡ n - length ws = omega arith in
        e ∙ ap (slice_get xs) i ∙ sym (nth_back ws xs n (omega arith)) ∙ sym (nth_front (ws ++ xs) ys n (omega (arith, l)))
        ∙ sym (nth_front (ws ++ xs ++ ys) zs n (omega (arith, l, m)))

    module _ (c : ℕ) (s : length ys ≡ c) (h : b ≤ n - a) where
      pub in_third : n - a - b < c → r ≡ slice_get ys (n - a - b) → r ≡ slice_get (ws ++ xs ++ ys ++ zs) n
      in_third k e =
          let l = length-append ws xs in
          let m = length-append (ws ++ xs) ys in
          let i : n - a - b ≡ n - length (ws ++ xs) = omega (arith, l) in
          e ∙ ap (slice_get ys) i ∙ sym (nth_back (ws ++ xs) ys n (omega (arith, l)))
          ∙ sym (nth_front (ws ++ xs ++ ys) zs n (omega (arith, l, m)))

      pub in_fourth : c ≤ n - a - b → r ≡ slice_get zs (n - a - b - c) → r ≡ slice_get (ws ++ xs ++ ys ++ zs) n
      in_fourth k e =
          let l = length-append ws xs in
          let m = length-append (ws ++ xs) ys in
          let i : n - a - b - c ≡ n - length (ws ++ xs ++ ys) = omega (arith, l, m) in
          e ∙ ap (slice_get zs) i ∙ sym (nth_back (ws ++ xs ++ ys) zs n (omega (arith, l, m)))

-- the sections of a specification
module _ (v : View) (r : Option (List ℕ)) (n a : ℕ) (p : a ≡ length (environment_names v.names)) where
  environments_are : length (environment_lines v) ≡ a
  environments_are = numbered_length environment_line 0 (environment_names v.names) ∙ sym p

  pub at_environment : n < a → r ≡ slice_get (environment_lines v) n → r ≡ slice_get (specification_lines v) n
  at_environment = in_first (environment_lines v) (system_lines v) (formula_lines v) (root_lines v) r n a environments_are

  module _ (b : ℕ) (q : b ≡ length (system_names v.names)) (g : a ≤ n) where
    systems_are : length (system_lines v) ≡ b
    systems_are = numbered_length system_line 0 (system_names v.names) ∙ sym q

    pub at_system : n - a < b → r ≡ slice_get (system_lines v) (n - a) → r ≡ slice_get (specification_lines v) n
    at_system = in_second (environment_lines v) (system_lines v) (formula_lines v) (root_lines v) r n a environments_are b systems_are g

    module _ (c : ℕ) (s : c ≡ length v.formulas) (h : b ≤ n - a) where
      formulas_are : length (formula_lines v) ≡ c
      formulas_are = numbered_length (formula_line v.names) 0 v.formulas ∙ sym s

      pub at_formula : n - a - b < c → r ≡ slice_get (formula_lines v) (n - a - b) → r ≡ slice_get (specification_lines v) n
      at_formula = in_third (environment_lines v) (system_lines v) (formula_lines v) (root_lines v) r n a environments_are
          b systems_are g c formulas_are h

      pub at_root_lem : c ≤ n - a - b → r ≡ slice_get (root_lines v) (n - a - b - c) → r ≡ slice_get (specification_lines v) n
      at_root_lem = in_fourth (environment_lines v) (system_lines v) (formula_lines v) (root_lines v) r n a environments_are
          b systems_are g c formulas_are h
