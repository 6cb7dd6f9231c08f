-- The digits of a number: what they are, and how many.
use Rattle.std.proofs.Common.{◌≡◌, ℕ, ◌+◌, ◌/◌, ◌%◌, ◌^◌, ◌<◌, ◌≤◌, true, List, [], ◌∷◌, ◌++◌, length, get_or, take, codes, decimal, sym, refl, ap, ◌∙◌, ⊎_elim, append_assoc, arith, rules}
use Rattle.std.specs.Fmt.{digits}
use Rattle.std.specs.Str.{all_ascii_digits}
use Rattle.std.proofs.lemmas.Str.Parse.{IsNumeralModel, numerals_by_fold, tells_all_ascii_digits}
use Rattle.std.proofs.lemmas.Fmt.{decimal_digit, decimal_step, digits_decimal, digits_value-decimal, first_decimal, length-decimal-le}
use Rattle.std.proofs.lemmas.Bool.{cases_eq}
use Rattle.lines.specs.Digits.{DigitsOf, read_on}
use Rattle.lines.proofs.Joins.{cut_more}

-- digits and the number that they write, in the words of `DigitsOf`
own : IsNumeralModel (λ ds. all_ascii_digits ds ≡ true) (read_on 0)
own = numerals_by_fold _ tells_all_ascii_digits read_on (search rules)

-- a zero comes first only at the number 0
front : (n : ℕ) → n < 2 ^ 64 → get_or (decimal n) 0 0 ≡ 48 → decimal n ≡ 48 ∷ []
front n h z =
    ⊎_elim (λ e. rw e (decimal_digit 0 (omega arith))) (λ d. absurd (omega (arith, first_decimal n (omega arith) h))) (cases_eq n 0)

-- what is written of a number of 64 bits is its digits
pub digits_of : (n : ℕ) → n < 2 ^ 64 → DigitsOf n (decimal n)
digits_of n h = record { digits = digits_decimal own n h; number = digits_value-decimal own n h; front = front n h }

-- at most three digits below 256
pub decimal_u8 : (n : ℕ) → n < 256 → length (decimal n) ≤ 3
decimal_u8 n h = length-decimal-le 3 n (omega arith) (omega arith) (omega arith)

-- at most five below 65,536
pub decimal_u16 : (n : ℕ) → n < 65536 → length (decimal n) ≤ 5
decimal_u16 n h = length-decimal-le 5 n (omega arith) (omega arith) (omega arith)

-- at most twenty, whatever the number of 64 bits
pub decimal_usize : (n : ℕ) → n < 2 ^ 64 → length (decimal n) ≤ 20
decimal_usize n h = length-decimal-le 20 n (omega arith) (omega arith) h

-- a number below ten is its last digit: what a line shows once it is added, where it showed s
pub push_digit : (s t : List ℕ) (n : ℕ) → n < 10 → t ≡ take 64 (s ++ (48 + n % 10) ∷ []) → t ≡ take 64 (s ++ decimal n)
push_digit s t n h e =
    let g : 48 + n % 10 ≡ 48 + n = omega arith in
    e ∙ ap (λ (b : ℕ). take 64 (s ++ b ∷ [])) g ∙ ap (λ ds. take 64 (s ++ ds)) (sym (decimal_digit n h))

-- the digits before the last are added first, which gives m, and then the last
pub push_last : (s m t : List ℕ) (n : ℕ) → 10 ≤ n → n < 2 ^ 64 →
    m ≡ take 64 (s ++ decimal (n / 10)) → t ≡ take 64 (m ++ (48 + n % 10) ∷ []) → t ≡ take 64 (s ++ decimal n)
push_last s m t n h l a e =
    e ∙ cut_more 64 m (s ++ decimal (n / 10)) ((48 + n % 10) ∷ []) a
    ∙ ap (take 64) (append_assoc s (decimal (n / 10)) ((48 + n % 10) ∷ []))
    ∙ ap (λ ds. take 64 (s ++ ds)) (sym (decimal_step n h l))

-- what is written of 0, of 98 and of the largest number
written_none : decimal 0 ≡ codes "0"
unfolding digits
written_none = refl

written_some : decimal 98 ≡ codes "98"
unfolding digits
written_some = refl

written_most : decimal 18446744073709551615 ≡ codes "18446744073709551615"
unfolding digits
written_most = refl
