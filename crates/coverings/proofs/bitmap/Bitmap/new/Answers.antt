use Rattle.std.proofs.Common.{◌≡◌, ℕ, zero, suc, get_or, replicate, refl}
use Rattle.coverings.proofs.bitmap.Bitmap.new.Goals as goal

zeros : (n h : ℕ) → get_or (replicate n 0) h 0 ≡ zero
zeros zero zero = refl
zeros zero (suc h) = refl
zeros (suc n) zero = refl
zeros (suc n) (suc h) = zeros n h

pub returns-clause-blank : goal.returns-clause-blank
returns-clause-blank c = zeros 1024
