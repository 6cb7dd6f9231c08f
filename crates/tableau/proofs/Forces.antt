-- Forcing false: only the set counts, more turns force more, it is decidable, and over a finite list of sets it stands still somewhere.
use Rattle.std.proofs.Common.{◌≡◌, ℕ, zero, suc, ◌+◌, ◌^◌, ◌<◌, ◌≤◌, true, ◌⊎◌, List, [], ◌∷◌, sym, inl, inr, arith}
use mathlib.Core.Bool.{Bool-discrete}
use native.Mathlib.Decide.{dec_lt}
use Rattle.temporal.specs.Formula.{Formula, bot, rest}
use Rattle.temporal.specs.Parts.{◌∈◌, first, later}
use Rattle.temporal.specs.Game.{Spec, allowed, Permitted, Reply, reading}
use Rattle.temporal.proofs.Lists.{in_map, map_in, cast, sorted}
use Rattle.temporal.proofs.Same.{dec_member}
use Rattle.tableau.specs.Cover.{held}
use Rattle.tableau.specs.Forces.{left_after, Forces}
use Rattle.tableau.proofs.Cover.{held_more}

module _ (spec : Spec) where
  pub left_more : (e s : ℕ) (S T : List Formula) → ((h : Formula) → h ∈ S → h ∈ T) → (h : Formula) → h ∈ left_after spec e s S
      → h ∈ left_after spec e s T
  left_more e s S T sub h m = let r = map_in (rest (reading (record { env = e; sys = s }))) (spec.safety ∷ S) h m in
      cast (sym r.2) (in_map (rest (reading (record { env = e; sys = s }))) (spec.safety ∷ T) r.0 (wider r.0 r.1))
    where
      wider : (h : Formula) → h ∈ (spec.safety ∷ S) → h ∈ (spec.safety ∷ T)
      wider h first = first
      wider h (later m) = later (sub h m)

  -- only the set counts, and more formulas are no harder to break
  pub forces_more : (k : ℕ) (S T : List Formula) → ((h : Formula) → h ∈ S → h ∈ T) → Forces spec k S → Forces spec k T
  forces_more zero S T sub b = held_more S T sub bot b
  forces_more (suc k) S T sub (inl b) = inl (held_more S T sub bot b)
  forces_more (suc k) S T sub (inr w) = inr
      (w.0, w.1, λ s l. forces_more k (left_after spec w.0 s S) (left_after spec w.0 s T) (left_more w.0 s S T sub) (w.2 s l))

  pub forces_suc : (k : ℕ) (S : List Formula) → Forces spec k S → Forces spec (suc k) S
  forces_suc zero S b = inl b
  forces_suc (suc k) S (inl b) = inl b
  forces_suc (suc k) S (inr w) = inr (w.0, w.1, λ s l. forces_suc k (left_after spec w.0 s S) (w.2 s l))

  pub held_forces : (k : ℕ) (S : List Formula) → bot ∈ held S → Forces spec k S
  held_forces zero S b = b
  held_forces (suc k) S b = inl b

  pub permitted? : (e : ℕ) → Permitted spec e ⊎ (Permitted spec e → ⊥)
  permitted? e = go (dec_lt e (2 ^ spec.environment)) (Bool-discrete (allowed spec e) true)
    where
      go : Dec (e < 2 ^ spec.environment) → Dec (allowed spec e ≡ true) → Permitted spec e ⊎ (Permitted spec e → ⊥)
      go (yes a) (yes b) = inl (a, b)
      go (yes a) (no b) = inr (λ p. b p.1)
      go (no a) b = inr (λ p. a p.0)

  pub forces? : (k : ℕ) (S : List Formula) → Forces spec k S ⊎ (Forces spec k S → ⊥)
  forces? zero S = go (dec_member bot (held S))
    where
      go : Dec (bot ∈ held S) → (bot ∈ held S) ⊎ (bot ∈ held S → ⊥)
      go (yes b) = inl b
      go (no n) = inr n
  forces? (suc k) S = go (dec_member bot (held S))
      (sorted Wins (λ e. Wins e → ⊥) (λ e. input e (permitted? e)
      (sorted (λ s. F e s → ⊥) (F e) (λ s. swap (forces? k (left_after spec e s S))) (2 ^ spec.system))) (2 ^ spec.environment))
    where
      F : ℕ → ℕ → Type 0
      F e s = Forces spec k (left_after spec e s S)

      Wins : ℕ → Type 0
      Wins e = Permitted spec e × ((s : ℕ) → Reply spec s → F e s)

      swap : {A B : Type 0} → A ⊎ B → B ⊎ A
      swap (inl a) = inr a
      swap (inr b) = inl b

      input : (e : ℕ) → Permitted spec e ⊎ (Permitted spec e → ⊥) → ((s : ℕ) × (s < 2 ^ spec.system) × (F e s → ⊥))
          ⊎ ((s : ℕ) → s < 2 ^ spec.system → F e s) → Wins e ⊎ (Wins e → ⊥)
      input e (inr n) x = inr (λ w. n w.0)
      input e (inl p) (inl x) = inr (λ w. x.2 (w.1 x.0 x.1))
      input e (inl p) (inr all) = inl (p, all)

      go : Dec (bot ∈ held S) → ((e : ℕ) × (e < 2 ^ spec.environment) × Wins e) ⊎ ((e : ℕ) → e < 2 ^ spec.environment → Wins e → ⊥)
          → Forces spec (suc k) S ⊎ (Forces spec (suc k) S → ⊥)
      go (yes b) x = inl (inl b)
      go (no n) (inl x) = inl (inr (x.0, x.2.0, x.2.1))
      go (no n) (inr f) = inr (λ w. elim w [ inl b ↦ n b | inr x ↦ f x.0 x.1.0 (x.1, x.2) ])

  -- ── over a finite list of sets: how many are not forced within k turns ──
  abbrev one_if_not : {A : Type 0} → A ⊎ (A → ⊥) → ℕ
  one_if_not (inl a) = 0
  one_if_not (inr n) = 1

  unforced : ℕ → List (List Formula) → ℕ
  unforced k [] = 0
  unforced k (S ∷ P) = one_if_not (forces? k S) + unforced k P

  one_if_mono : (k : ℕ) (S : List Formula) → one_if_not (forces? (suc k) S) ≤ one_if_not (forces? k S)
  one_if_mono k S = go (forces? (suc k) S) (forces? k S)
    where
      go : (x : Forces spec (suc k) S ⊎ (Forces spec (suc k) S → ⊥)) (y : Forces spec k S ⊎ (Forces spec k S → ⊥))
          → one_if_not x ≤ one_if_not y
      go (inl a) y = omega arith
      go (inr n) (inr y) = omega arith
      go (inr n) (inl y) = absurd (n (forces_suc k S y))

  unforced_mono : (k : ℕ) (P : List (List Formula)) → unforced (suc k) P ≤ unforced k P
  unfolding unforced
  unforced_mono k [] = omega arith
  unforced_mono k (S ∷ P) = omega (arith, one_if_mono k S, unforced_mono k P)

  abbrev pub Still : ℕ → List (List Formula) → Type 0
  Still k P = (S : List Formula) → S ∈ P → Forces spec (suc k) S → Forces spec k S

  still_or_fewer : (k : ℕ) (P : List (List Formula)) → Still k P ⊎ (unforced (suc k) P < unforced k P)
  unfolding unforced
  still_or_fewer k [] = inl (λ S m. elim m [ ])
  still_or_fewer k (S ∷ P) = go (forces? (suc k) S) (forces? k S) (still_or_fewer k P) (one_if_mono k S)
    where
      here : (Forces spec (suc k) S → Forces spec k S) → Still k P → Still k (S ∷ P)
      here f s T first = f
      here f s T (later m) = s T m

      go : (x : Forces spec (suc k) S ⊎ (Forces spec (suc k) S → ⊥)) (y : Forces spec k S ⊎ (Forces spec k S → ⊥)) → Still k P
          ⊎ (unforced (suc k) P < unforced k P)
          → one_if_not x ≤ one_if_not y → Still k (S ∷ P) ⊎ (one_if_not x + unforced (suc k) P < one_if_not y + unforced k P)
      go x y (inr l) m = inr (omega arith)
      go (inl a) (inl b) (inl s) m = inl (here (λ z. b) s)
      go (inr a) y (inl s) m = inl (here (λ z. absurd (a z)) s)
      go (inl a) (inr b) (inl s) m = inr (omega (arith, unforced_mono k P))

  stands_from : (n k : ℕ) (P : List (List Formula)) → unforced k P ≤ n → (k : ℕ) × Still k P
  stands_from zero k P h = elim (still_or_fewer k P) [ inl s ↦ (k, s) | inr l ↦ absurd (omega arith) ]
  stands_from (suc n) k P h = elim (still_or_fewer k P) [ inl s ↦ (k, s) | inr l ↦ stands_from n (suc k) P (omega arith) ]

  -- some number of turns is as good as any larger one
  pub stands_still : (P : List (List Formula)) → (k : ℕ) × Still k P
  stands_still P = stands_from (unforced 0 P) 0 P (omega arith)
