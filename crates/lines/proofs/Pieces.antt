-- A line made of pieces, for the proofs of callers. Each piece that a caller adds is one step here, by what the call
-- ensures, and `made_whole` ends them: a line of text and two numbers `i` and `j` of 16 bits is
--   made_whole (made_u16 j h₄ (made_bytes (codes ",") (made_u16 i h₂ (made_none e₁) e₂) e₃) e₄) (omega arith)
-- where the h are the bounds of the numbers and the e what the calls ensure, in their order.
use Rattle.std.proofs.Common.{◌≡◌, ℕ, ◌+◌, ◌^◌, ◌<◌, ◌≤◌, List, [], ◌++◌, length, take, decimal, sym, ap, ◌∙◌, arith, length-append}
use Rattle.std.proofs.lemmas.List.{take_all}
use Rattle.lines.proofs.Decimals.{decimal_u8, decimal_u16, decimal_usize}
use Rattle.lines.proofs.Joins.{cut_more}

-- a line that shows s was made of the bytes xs, of which there are at most n
pub record Made (s xs : List ℕ) (n : ℕ) : Type 0 where
  pub front : s ≡ take 64 xs
  pub short : length xs ≤ n

-- nothing yet
pub made_none : {s : List ℕ} → s ≡ [] → Made s [] 0
made_none e = record { front = e; short = omega arith }

-- a line that is known to show xs, of which there are at most n
pub made_known : {s xs : List ℕ} {n : ℕ} → s ≡ xs → length s ≤ n → n ≤ 64 → Made s xs n
made_known {s = s} {xs = xs} e h l =
    let f = ap length e in
    record { front = e ∙ sym (take_all 64 xs (omega arith)); short = omega arith }

-- a piece of at most k bytes
pub made_piece : {s t xs : List ℕ} {n : ℕ} (k : ℕ) (ys : List ℕ) → length ys ≤ k →
    Made s xs n → t ≡ take 64 (s ++ ys) → Made t (xs ++ ys) (n + k)
made_piece {s = s} {xs = xs} k ys h m e =
    record { front = e ∙ cut_more 64 s xs ys m.front; short = simp length-append (omega (arith, m.short)) }

-- a piece ws that a call gave, known to be ys
pub made_given : {s t xs : List ℕ} {n : ℕ} (k : ℕ) (ws ys : List ℕ) → ws ≡ ys → length ys ≤ k →
    Made s xs n → t ≡ take 64 (s ++ ws) → Made t (xs ++ ys) (n + k)
made_given {s = s} k ws ys g h m e = made_piece k ys h m (e ∙ ap (λ w. take 64 (s ++ w)) g)

-- a piece that is written out, so that its length computes
pub made_bytes : {s t xs : List ℕ} {n : ℕ} (ys : List ℕ) →
    Made s xs n → t ≡ take 64 (s ++ ys) → Made t (xs ++ ys) (n + length ys)
made_bytes ys m e = made_piece (length ys) ys (omega arith) m e

-- a number of 8 bits takes at most three digits
pub made_u8 : {s t xs : List ℕ} {n : ℕ} (i : ℕ) → i < 256 →
    Made s xs n → t ≡ take 64 (s ++ decimal i) → Made t (xs ++ decimal i) (n + 3)
made_u8 i h m e = made_piece 3 (decimal i) (decimal_u8 i h) m e

-- one of 16 bits at most five
pub made_u16 : {s t xs : List ℕ} {n : ℕ} (i : ℕ) → i < 65536 →
    Made s xs n → t ≡ take 64 (s ++ decimal i) → Made t (xs ++ decimal i) (n + 5)
made_u16 i h m e = made_piece 5 (decimal i) (decimal_u16 i h) m e

-- any other at most twenty
pub made_usize : {s t xs : List ℕ} {n : ℕ} (i : ℕ) → i < 2 ^ 64 →
    Made s xs n → t ≡ take 64 (s ++ decimal i) → Made t (xs ++ decimal i) (n + 20)
made_usize i h m e = made_piece 20 (decimal i) (decimal_usize i h) m e

-- a line that is short enough shows all that it was made of
pub made_whole : {s xs : List ℕ} {n : ℕ} → Made s xs n → n ≤ 64 → s ≡ xs
made_whole {xs = xs} m h = m.front ∙ take_all 64 xs (omega (arith, m.short))
