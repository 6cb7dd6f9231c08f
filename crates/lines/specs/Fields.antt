-- The fields of a line from the bytes that it shows: what stands past them is 0.
use Rattle.std.specs.Prelude.{◌≡◌, ℕ, ◌-◌, ◌≤◌, List, ◌++◌, length, take, drop, replicate}
use Rattle.std.proofs.Common.{sym, ap, ◌∙◌, subst}
use Rattle.std.proofs.lemmas.List.{take-append-drop, length-take-le}
use Rattle.lines.specs.declared.line.Line.TheInside.{Inside}

-- a line shows the first `len` bytes of its array, which has 64, and the rest of the array is 0
pub record Kept (l : Inside) : Type 0 where
  pub few : l.len ≤ 64
  pub long : length l.bytes ≡ 64
  pub rest : drop l.len l.bytes ≡ replicate (64 - l.len) 0

-- the line that shows s
abbrev pub line_of : List ℕ → Inside
line_of s = record { bytes = s ++ replicate (64 - length s) 0; len = length s }

-- what a line shows gives it back
pub line_back : (l : Inside) → Kept l → line_of (take l.len l.bytes) ≡ l
line_back l h =
    let e : length (take l.len l.bytes) ≡ l.len = length-take-le l.len l.bytes (subst (λ (n : ℕ). l.len ≤ n) (sym h.long) h.few) in
    let f : take l.len l.bytes ++ replicate (64 - length (take l.len l.bytes)) 0 ≡ l.bytes =
    ap (λ (n : ℕ). take l.len l.bytes ++ replicate (64 - n) 0) e
    ∙ ap (λ (ys : List ℕ). take l.len l.bytes ++ ys) (sym h.rest)
    ∙ take-append-drop l.len l.bytes in
    λ j. record { bytes = f j; len = e j }
