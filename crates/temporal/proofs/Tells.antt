-- Tests that tell whether a statement holds: the connectives and comparisons.
use mathlib.Core.Path.{◌≡◌, refl}
use mathlib.Core.Logic.{◌⊎◌, inl, inr, ◌↔◌}
use mathlib.Core.Bool.{Bool, true, false, not, ◌&&◌, ◌||◌, false≢true}
use Prim.Native.Nat.{ℕ, ◌≤◌, ◌<◌}
use lib.Dec.{eqb, ltb, leb}
use borrow.Author.Tests.{eqb-true, eq-eqb, ltb-true, lt-ltb, leb-true, le-leb}
use Rattle.temporal.proofs.Truth.{and_out, and_in, or_out, or_in}

-- the test b says whether P
abbrev pub Tells : Bool → Type 0 → Type 0
Tells b P = (b ≡ true) ↔ P

pub and_tells : {P Q : Type 0} (a b : Bool) → Tells a P → Tells b Q → Tells (a && b) (P × Q)
and_tells a b p q = ((λ h. let r = and_out a b h in (p.0 r.0, q.0 r.1)), (λ h. and_in a b (p.1 h.0) (q.1 h.1)))

pub or_tells : {P Q : Type 0} (a b : Bool) → Tells a P → Tells b Q → Tells (a || b) (P ⊎ Q)
or_tells a b p q = (
  (λ h. elim (or_out a b h) [ inl x ↦ inl (p.0 x) | inr y ↦ inr (q.0 y) ]),
  (λ h. or_in a b (elim h [ inl x ↦ inl (p.1 x) | inr y ↦ inr (q.1 y) ])),
)

pub if_tells : {P : Type 0} (a b : Bool) → Tells b P → Tells (not a || b) (a ≡ true → P)
if_tells true b p = ((λ h e. p.0 h), (λ f. p.1 (f refl)))
if_tells false b p = ((λ h e. absurd (false≢true e)), (λ f. refl))

pub not_tells : {P : Type 0} (a : Bool) → Tells a P → Tells (not a) (P → ⊥)
not_tells true p = ((λ h x. false≢true h), (λ f. absurd (f (p.0 refl))))
not_tells false p = ((λ h x. false≢true (p.1 x)), (λ f. refl))

pub by_tells : {P Q : Type 0} (b : Bool) → Tells b P → (P → Q) → (Q → P) → Tells b Q
by_tells b p f g = ((λ h. f (p.0 h)), (λ q. p.1 (g q)))

pub eq_tells : (m n : ℕ) → Tells (eqb m n) (m ≡ n)
eq_tells m n = (eqb-true m n, eq-eqb m n)

pub lt_tells : (m n : ℕ) → Tells (ltb m n) (m < n)
lt_tells m n = (ltb-true m n, lt-ltb m n)

pub le_tells : (m n : ℕ) → Tells (leb m n) (m ≤ n)
le_tells m n = (leb-true m n, le-leb m n)

pub self_tells : (b : Bool) → Tells b (b ≡ true)
self_tells b = ((λ h. h), (λ h. h))

-- an implication between tested statements, and an equivalence
pub implies_tells : {P Q : Type 0} (a b : Bool) → Tells a P → Tells b Q → Tells (not a || b) (P → Q)
implies_tells true b p q = ((λ h x. q.0 h), (λ f. q.1 (f (p.0 refl))))
implies_tells false b p q = ((λ h x. absurd (false≢true (p.1 x))), (λ f. refl))

pub equal_tells : {P Q : Type 0} (a b : Bool) → Tells a P → Tells b Q → Tells ((a && b) || (not a && not b)) ((P → Q) × (Q → P))
equal_tells true true p q = ((λ h. ((λ x. q.0 refl), (λ y. p.0 refl))), (λ f. refl))
equal_tells true false p q = ((λ h. absurd (false≢true h)), (λ f. q.1 (f.0 (p.0 refl))))
equal_tells false true p q = ((λ h. absurd (false≢true h)), (λ f. p.1 (f.1 (q.0 refl))))
equal_tells false false p q = ((λ h. ((λ x. absurd (false≢true (p.1 x))), (λ y. absurd (false≢true (q.1 y))))), (λ f. refl))
