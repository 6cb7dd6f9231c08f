-- Words and their names.
use Rattle.std.proofs.Common.{◌≡◌, ℕ, ◌+◌, ◌-◌, ◌<◌, ◌≤◌, true, false, ◌⊎◌, List, [], ◌∷◌, ◌++◌, length, take, drop, replicate, sym, refl, ap, ◌∙◌, ⊎_elim, arith, append-nil, min}
use lib.Seq.{take-append-add}
use Rattle.std.proofs.lemmas.List.{take-take, take_at, take_all, take-append-le, take-replicate, drop-replicate}
use Rattle.names.specs.Words.{at_most15, name_of, word_of, KeepsWords, is_environment}

pub at_most15_le : (n : ℕ) → n ≤ 15 → at_most15 n ≡ n
at_most15_le n le = grind (arith, at_most15)

pub min_at_most15 : (n : ℕ) → min n 15 ≡ at_most15 n
min_at_most15 n = grind (arith, at_most15)

pub word_name_lem : KeepsWords
word_name_lem w le =
    let twice : at_most15 (at_most15 (length w)) ≡ length w = ap at_most15 (at_most15_le (length w) le) ∙ at_most15_le (length w) le in
    ap (λ n. take n (take 15 (w ++ replicate 15 0))) twice
    ∙ take-take (length w) 15 (w ++ replicate 15 0) le
    ∙ take_at w (replicate 15 0) (length w) refl

-- words of at most 15 bytes that have one name are one word
pub same_name_lem : (v w : List ℕ) → length v ≤ 15 → length w ≤ 15 → name_of v ≡ name_of w → v ≡ w
same_name_lem v w lv lw e = sym (word_name_lem v lv) ∙ ap word_of e ∙ word_name_lem w lw

-- a word copied over 15 zeros, as far as there is room
pub padded : (w : List ℕ) (n : ℕ) → n ≡ at_most15 (length w) → take n w ++ drop n (replicate 15 0) ≡ take 15 (w ++ replicate 15 0)
padded w n e = ⊎_elim short long (cases (length w))
  where
    cases : (m : ℕ) → (m ≤ 15) ⊎ (15 < m)
    cases m = grind arith

    ends : (m : ℕ) → 15 < m → at_most15 m ≡ 15
    ends m lt = grind (arith, at_most15)

    short : length w ≤ 15 → take n w ++ drop n (replicate 15 0) ≡ take 15 (w ++ replicate 15 0)
    short le =
        let is : n ≡ length w = e ∙ at_most15_le (length w) le in
        let sum : 15 ≡ length w + (15 - n) = omega (arith, is, le) in
        ap (λ x. x ++ drop n (replicate 15 0)) (take_all n w (omega (arith, is)))
        ∙ ap (λ x. w ++ x) (drop-replicate n 15 0 ∙ sym (take-replicate (15 - n) 15 0 (omega arith)))
        ∙ sym (take-append-add w (replicate 15 0) (15 - n))
        ∙ ap (λ m. take m (w ++ replicate 15 0)) (sym sum)

    long : 15 < length w → take n w ++ drop n (replicate 15 0) ≡ take 15 (w ++ replicate 15 0)
    long lt =
        let is : n ≡ 15 = e ∙ ends (length w) lt in
        ap (λ m. take m w ++ drop m (replicate 15 0)) is
        ∙ append-nil (take 15 w)
        ∙ sym (take-append-le 15 w (replicate 15 0) (omega arith))

-- samples: the word go_e, and a word of 16 bytes, which is cut
go_environment : is_environment (103 ∷ 111 ∷ 95 ∷ 101 ∷ []) ≡ true
go_environment = refl

go_kept : word_of (name_of (103 ∷ 111 ∷ [])) ≡ 103 ∷ 111 ∷ []
go_kept = refl

short_system : is_environment (101 ∷ []) ≡ false
short_system = refl

long_cut : name_of (replicate 16 97) ≡ name_of (replicate 15 97)
long_cut = refl
