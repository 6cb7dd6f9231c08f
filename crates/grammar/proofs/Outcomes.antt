-- Outcomes of reading: what follows from a good one, and how a good one was composed.
use Rattle.std.proofs.Common.{◌≡◌, ℕ, Bool, true, false, cond, Ok, Err, Result, refl, ap, subst}
use Rattle.faults.specs.declared.TextFault.{TextFault}
use Rattle.lexer.specs.declared.token.Lexeme.{Lexeme}
use Rattle.temporal.specs.Written.{Written}
use Rattle.grammar.specs.Grammar.{State, Out, good, stop, and_then}
use Rattle.lexer.specs.Bounds.{expected, then_ok}
use Rattle.grammar.specs.Sections.{Contents, Form, formed, refused, ended, or_refused, out_or_refused}

same_formula : {t u : Written} {b c : State} → good t b ≡ good u c → t ≡ u
same_formula e = cc

same_state : {t u : Written} {b c : State} → good t b ≡ good u c → b ≡ c
same_state e = cc

-- what holds of a good outcome's parts holds of the parts of an equal one
pub carried : (P : State → Written → Type 0) {t u : Written} {b c : State} → good t b ≡ good u c → P b t → P c u
carried P {t} {u} {b} {c} e h = subst (λ v. P c v) (same_formula e) (subst (λ s. P s t) (same_state e) h)

pub never_good : {f : TextFault} {t : Written} {b : State} → stop f ≡ good t b → ⊥
never_good e = cc

pub never_ok : {X : Type 0} {f : TextFault} {x : X} → Err f ≡ Ok x → ⊥
never_ok e = cc

pub never_formed : {f : TextFault} {c : Contents} → refused f ≡ formed c → ⊥
never_formed e = cc

pub same_contents : {c d : Contents} → formed c ≡ formed d → c ≡ d
same_contents e = cc

pub same_place : {a b : ℕ} → ◌≡◌ {A = Result ℕ TextFault} (Ok a) (Ok b) → a ≡ b
same_place e = cc

-- a good outcome of two readings is good outcomes of both
pub split_out :
    (o : Out) (k : Written → State → Out) (t : Written) (b : State) → and_then o k ≡ good t b →
    (u : Written) × (c : State) × (o ≡ good u c) × (k u c ≡ good t b)
split_out (good u c) k t b e = (u, c, refl, e)
split_out (stop f) k t b e = absurd (never_good e)

pub split_test :
    (x : Bool) (u : Written) (c : State) (f : TextFault) (t : Written) (b : State) → cond x (good u c) (stop f) ≡ good t b →
    (x ≡ true) × (good u c ≡ good t b)
split_test true u c f t b e = (refl, e)
split_test false u c f t b e = absurd (never_good e)

pub split_expected : (x : Bool) (l : Lexeme) (b : ℕ) → expected x l ≡ Ok b → (x ≡ true) × (l.next ≡ b)
split_expected true l b e = (refl, same_place e)
split_expected false l b e = absurd (never_ok e)

pub split_then :
    {X Y : Type 0} (r : Result X TextFault) (k : X → Result Y TextFault) (y : Y) → then_ok r k ≡ Ok y →
    (x : X) × (r ≡ Ok x) × (k x ≡ Ok y)
split_then (Ok x) k y e = (x, refl, e)
split_then (Err f) k y e = absurd (never_ok e)

pub then_is : {X Y : Type 0} (r : Result X TextFault) (k : X → Result Y TextFault) (x : X) → r ≡ Ok x → then_ok r k ≡ k x
then_is r k x e = ap (λ z. then_ok z k) e

pub split_ended :
    (u : Written) (c : State) (r : Result ℕ TextFault) (t : Written) (b : State) → ended u c r ≡ good t b →
    (next : ℕ) × (r ≡ Ok next) × (good u (record { at = next; names = c.names }) ≡ good t b)
split_ended u c (Ok next) t b e = (next, refl, e)
split_ended u c (Err f) t b e = absurd (never_good e)

pub split_place :
    (r : Result ℕ TextFault) (k : ℕ → Form) (c : Contents) → or_refused r k ≡ formed c → (a : ℕ) × (r ≡ Ok a) × (k a ≡ formed c)
split_place (Ok a) k c e = (a, refl, e)
split_place (Err f) k c e = absurd (never_formed e)

pub split_formula :
    (o : Out) (k : Written → State → Form) (c : Contents) → out_or_refused o k ≡ formed c →
    (t : Written) × (s : State) × (o ≡ good t s) × (k t s ≡ formed c)
split_formula (good t s) k c e = (t, s, refl, e)
split_formula (stop f) k c e = absurd (never_formed e)
