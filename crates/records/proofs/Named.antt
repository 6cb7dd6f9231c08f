-- What is known of a record that names a formula, and of one that names none.
use Rattle.std.proofs.Common.{◌≡◌, ℕ, zero, suc, ◌≤◌, cond, eqb, Result, Ok, Err, refl, ap, ◌∙◌, subst, arith}
use Rattle.std.proofs.lemmas.Bool.{ne_eqb}
use Rattle.tableau.specs.Card.{by_kind}
use Rattle.formulas.specs.declared.Formula.{Formula}
use Rattle.formulas.specs.declared.Formula.TheVariants as entry
use Rattle.records.specs.declared.FormulaRecord.{FormulaRecord}
use Rattle.records.specs.declared.kind.UnknownKind.{UnknownKind}
use Rattle.records.specs.Kinds.{named}

-- a kind past the last
pub no_kind : {X : Type 0} (k : ℕ) (x0 x1 x2 x3 x4 x5 x6 x7 x8 none : X) → 9 ≤ k → by_kind k x0 x1 x2 x3 x4 x5 x6 x7 x8 none ≡ none
no_kind k x0 x1 x2 x3 x4 x5 x6 x7 x8 none h =
    pass 0 (λ e. omega arith) x0 _ ∙ (pass 1 (λ e. omega arith) x1 _ ∙ (pass 2 (λ e. omega arith) x2 _ ∙ (pass 3 (λ e. omega arith) x3 _
    ∙ (pass 4 (λ e. omega arith) x4 _ ∙ (pass 5 (λ e. omega arith) x5 _ ∙ (pass 6 (λ e. omega arith) x6 _ ∙ (pass 7 (λ e. omega arith) x7 _
    ∙ pass 8 (λ e. omega arith) x8 none)))))))
  where
    pass : {X : Type 0} (j : ℕ) → (k ≡ j → ⊥) → (x y : X) → cond (eqb k j) x y ≡ y
    pass j n x y = ap (λ b. cond b x y) (ne_eqb k j n)

-- the record has the number of the formula's kind, and the formula's variable, bounds and parts
abbrev pub Names : FormulaRecord → Formula → Type 0
Names r entry.False = r.kind ≡ 0
Names r entry.True = r.kind ≡ 1
Names r (entry.Variable v) = (r.kind ≡ 2) × (r.variable ≡ v)
Names r (entry.Negated v) = (r.kind ≡ 3) × (r.variable ≡ v)
Names r (entry.And a b) = (r.kind ≡ 4) × (r.a ≡ a) × (r.b ≡ b)
Names r (entry.Or a b) = (r.kind ≡ 5) × (r.a ≡ a) × (r.b ≡ b)
Names r (entry.Next n a) = (r.kind ≡ 6) × (r.n ≡ n) × (r.a ≡ a)
Names r (entry.Always n m a) = (r.kind ≡ 7) × (r.n ≡ n) × (r.m ≡ m) × (r.a ≡ a)
Names r (entry.Eventually n m a) = (r.kind ≡ 8) × (r.n ≡ n) × (r.m ≡ m) × (r.a ≡ a)

module _ (r : FormulaRecord) where
  -- what the record is named by, were its kind k
  abbrev as_kind : ℕ → Result Formula UnknownKind
  as_kind k =
      by_kind k (Ok entry.False) (Ok entry.True) (Ok (entry.Variable r.variable)) (Ok (entry.Negated r.variable))
      (Ok (entry.And r.a r.b)) (Ok (entry.Or r.a r.b)) (Ok (entry.Next r.n r.a)) (Ok (entry.Always r.n r.m r.a))
      (Ok (entry.Eventually r.n r.m r.a)) (Err (record { 0 = r.kind }))

  pub named_is : (e : Formula) → named r ≡ Ok e → Names r e
  named_is e is = go r.kind refl
    where
      known : (x : Formula) (k : ℕ) → r.kind ≡ k → as_kind k ≡ Ok x → Names r x → Names r e
      known x k h w n =
          let same : named r ≡ as_kind k = ap as_kind h in
          let z : x ≡ e = cc in
          subst (Names r) z n

      go : (k : ℕ) → r.kind ≡ k → Names r e
      go zero h = known entry.False 0 h refl h
      go (suc zero) h = known entry.True 1 h refl h
      go (suc (suc zero)) h = known (entry.Variable r.variable) 2 h refl (h, refl)
      go (suc (suc (suc zero))) h = known (entry.Negated r.variable) 3 h refl (h, refl)
      go (suc (suc (suc (suc zero)))) h = known (entry.And r.a r.b) 4 h refl (h, refl, refl)
      go (suc (suc (suc (suc (suc zero))))) h = known (entry.Or r.a r.b) 5 h refl (h, refl, refl)
      go (suc (suc (suc (suc (suc (suc zero)))))) h = known (entry.Next r.n r.a) 6 h refl (h, refl, refl)
      go (suc (suc (suc (suc (suc (suc (suc zero))))))) h = known (entry.Always r.n r.m r.a) 7 h refl (h, refl, refl, refl)
      go (suc (suc (suc (suc (suc (suc (suc (suc zero)))))))) h =
          known (entry.Eventually r.n r.m r.a) 8 h refl (h, refl, refl, refl)
      go (suc (suc (suc (suc (suc (suc (suc (suc (suc k))))))))) h =
          let same : named r ≡ Err (record { 0 = r.kind }) = no_kind r.kind _ _ _ _ _ _ _ _ _ _ (omega arith) in
          absurd (cc)
