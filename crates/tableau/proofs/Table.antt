-- A formula list with every light formula: parts before wholes, nothing twice.
use Rattle.std.proofs.Common.{◌≡◌, ℕ, zero, suc, ◌<◌, ◌≤◌, Bool, true, false, ◌&&◌, ◌||◌, eqb, leb, List, [], ◌∷◌, ◌++◌, length, get_or, sym, refl, ap, ◌∙◌, subst, inl, inr, arith, length-append}
use native.Mathlib.Decide.{dec_lt}
use Rattle.temporal.specs.Formula.{Formula, bot, top, lit, conj, disj, next, always, eventually, is_bot, is_top, other, kind, Numbered}
use Rattle.temporal.specs.Parts.{◌∈◌, first, later}
use Rattle.temporal.specs.Game.{Spec}
use Rattle.temporal.proofs.Truth.{and_in, or_in}
use Rattle.temporal.proofs.Lists.{at_member, place, in_left, in_right, in_append, in_cons, cast, one_member}
use Rattle.temporal.proofs.Same.{dec_member}
use Rattle.temporal.proofs.Tells.{le_tells}
use Rattle.tableau.specs.Card.{Entry, no_entry, by_kind, build, tree_of, trees_on}
use Rattle.tableau.specs.Form.{variable_formed, part_formed, constant_formed, literal_formed, pair_formed, next_formed, range_formed}
use Rattle.tableau.specs.Form.{formula_formed}
use Rattle.tableau.proofs.Trees.{get_or_left, get_or_end, variable_tells, part_tells}
use Rattle.tableau.proofs.Weight.{Light, light_dec, level, level_has}

-- what holds of each entry, and of one more at the end
by_last : (P : ℕ → Entry → Type 0) (es : List Entry) (e : Entry) → ((i : ℕ) → i < length es → P i (get_or es i no_entry))
    → P (length es) e → (i : ℕ) → i < length (es ++ (e ∷ [])) → P i (get_or (es ++ (e ∷ [])) i no_entry)
by_last P es e h o i l = go (dec_lt i (length es))
  where
    go : Dec (i < length es) → P i (get_or (es ++ (e ∷ [])) i no_entry)
    go (yes m) = subst (P i) (sym (get_or_left es (e ∷ []) i no_entry m)) (h i m)
    go (no m) =
        let q : i ≡ length es = omega (arith, length-append es (e ∷ [])) in
        subst (P i) (sym (get_or_end es e i no_entry q)) (subst (λ (j : ℕ). P j e) (sym q) o)

-- the parts of an entry lie below k
abbrev Below : ℕ → Entry → Type 0
Below k e = (e.a < k) × (e.b < k)

-- more formulas behind change no entry's formula
tree_more : (fs gs : List Formula) (e : Entry) → Below (length fs) e → tree_of (fs ++ gs) e ≡ tree_of fs e
tree_more fs gs e h =
    λ j. build e.kind e.variable e.n e.m (get_or_left fs gs e.a bot h.0 j) (get_or_left fs gs e.b bot h.1 j)

trees_snoc : (ts : List Formula) (es : List Entry) (e : Entry)
    → trees_on ts (es ++ (e ∷ [])) ≡ trees_on ts es ++ (tree_of (trees_on ts es) e ∷ [])
trees_snoc ts [] e = refl
trees_snoc ts (x ∷ es) e = trees_snoc (ts ++ (tree_of ts x ∷ [])) es e

-- ── entries by kind ──
abbrev constant_entry : ℕ → Entry
constant_entry k = record { kind = k; variable = 0; a = 0; b = 0; n = 0; m = 0 }

abbrev literal_entry : Bool → ℕ → Entry
literal_entry true v = record { kind = 2; variable = v; a = 0; b = 0; n = 0; m = 0 }
literal_entry false v = record { kind = 3; variable = v; a = 0; b = 0; n = 0; m = 0 }

-- kind 4 or 5
abbrev pair_entry : ℕ → ℕ → ℕ → Entry
pair_entry k a b = record { kind = k; variable = 0; a = a; b = b; n = 0; m = 0 }

-- kind 6, 7 or 8
abbrev range_entry : ℕ → ℕ → ℕ → ℕ → Entry
range_entry k a n m = record { kind = k; variable = 0; a = a; b = 0; n = n; m = m }

module _ (spec : Spec) where
  -- an entry from number 2 on has the form of its kind
  formed : (i : ℕ) (f : Entry) → 2 ≤ i
      → by_kind f.kind (constant_formed f) (constant_formed f) (literal_formed spec f) (literal_formed spec f)
      (pair_formed i f) (pair_formed i f) (next_formed i f) (range_formed i f) (range_formed i f) false ≡ true
      → formula_formed spec i f ≡ true
  formed i f l h = and_in (leb 2 i || eqb f.kind i) _ (or_in (leb 2 i) (eqb f.kind i) (inl ((le_tells 2 i).1 l))) h

  part_formed_lem : (i a : ℕ) → (2 ≤ a) × (a < i) → part_formed i a ≡ true
  part_formed_lem i a h = (part_tells i a).1 h

  literal_formed_lem : (i : ℕ) (s : Bool) (v : ℕ) → 2 ≤ i → Numbered spec.environment spec.system v
      → formula_formed spec i (literal_entry s v) ≡ true
  literal_formed_lem i true v l h = formed i (literal_entry true v) l (and_in (variable_formed spec v) true ((variable_tells spec v).1 h) refl)
  literal_formed_lem i false v l h = formed i (literal_entry false v) l (and_in (variable_formed spec v) true ((variable_tells spec v).1 h) refl)

  pair_formed_lem : (i a b : ℕ) → (2 ≤ a) × (a < i) → (2 ≤ b) × (b < i) → (part_formed i a && part_formed i b) && true ≡ true
  pair_formed_lem i a b p q =
      and_in (part_formed i a && part_formed i b) true (and_in (part_formed i a) (part_formed i b) (part_formed_lem i a p) (part_formed_lem i b q)) refl

  bounds_formed : (i a x y z t : ℕ) → x ≤ y → z ≤ t → (2 ≤ a) × (a < i)
      → ((leb x y && leb z t) && part_formed i a) && true ≡ true
  bounds_formed i a x y z t p q h =
      and_in ((leb x y && leb z t) && part_formed i a) true (and_in (leb x y && leb z t) (part_formed i a)
      (and_in (leb x y) (leb z t) ((le_tells x y).1 p) ((le_tells z t).1 q)) (part_formed_lem i a h)) refl

  module _ (w : ℕ) where
    abbrev Lt : Formula → Type 0
    Lt f = Light spec.environment spec.system w f

    -- a formula list and its formulas
    pub record Built (es : List Entry) (fs : List Formula) : Type 0 where
      pub two : 2 ≤ length es
      pub formed : (i : ℕ) → i < length es → formula_formed spec i (get_or es i no_entry) ≡ true
      pub different : (i : ℕ) → i < length es → (j : ℕ) → j < i → get_or es j no_entry ≡ get_or es i no_entry → ⊥
      pub same : trees_on [] es ≡ fs
      pub size : length fs ≡ length es
      pub zeroth : get_or fs 0 bot ≡ bot
      pub firsth : get_or fs 1 bot ≡ top
      pub made : (i : ℕ) → i < length es → Below (length fs) (get_or es i no_entry) × (tree_of fs (get_or es i no_entry) ∈ fs)
      pub light : (h : Formula) → h ∈ fs → Lt h

    -- the two constants
    abbrev constants : List Entry
    constants = constant_entry 0 ∷ constant_entry 1 ∷ []

    -- what holds of both
    of_both : (P : ℕ → Type 0) → P 0 → P 1 → (i : ℕ) → i < 2 → P i
    of_both P p q zero l = p
    of_both P p q (suc zero) l = q
    of_both P p q (suc (suc i)) l = absurd (omega arith)

    base : Built constants (bot ∷ top ∷ [])
    base = record {
      two = omega arith;
      formed = of_both (λ i. formula_formed spec i (get_or constants i no_entry) ≡ true) refl refl;
      different = of_both (λ i. (j : ℕ) → j < i → get_or constants j no_entry ≡ get_or constants i no_entry → ⊥)
          (λ j k. absurd (omega arith)) apart;
      same = refl;
      size = refl;
      zeroth = refl;
      firsth = refl;
      made = of_both (λ i. Below 2 (get_or constants i no_entry) × (tree_of (bot ∷ top ∷ []) (get_or constants i no_entry) ∈ (bot ∷ top ∷ [])))
          ((omega arith, omega arith), first) ((omega arith, omega arith), later first);
      light = li;
    }
      where
        apart : (j : ℕ) → j < 1 → get_or constants j no_entry ≡ constant_entry 1 → ⊥
        apart zero l e = let k : ◌≡◌ {A = ℕ} 0 1 = ap (λ (f : Entry). f.kind) e in omega arith
        apart (suc j) l e = omega arith

        li : (h : Formula) → h ∈ (bot ∷ top ∷ []) → Lt h
        li h first = (tt, omega arith)
        li h (later m) = one_member top Lt (tt, omega arith) h m

    snoc : (es : List Entry) (fs : List Formula) (e : Entry) → Built es fs → formula_formed spec (length fs) e ≡ true
        → Below (length fs) e → (tree_of fs e ∈ fs → ⊥) → Lt (tree_of fs e) → Built (es ++ (e ∷ [])) (fs ++ (tree_of fs e ∷ []))
    snoc es fs e b o p new l = record {
      two = omega (arith, length-append es (e ∷ []), b.two);
      formed = by_last (λ i x. formula_formed spec i x ≡ true) es e b.formed
          (subst (λ (n : ℕ). formula_formed spec n e ≡ true) b.size o);
      different = by_last (λ i x. (j : ℕ) → j < i → get_or (es ++ (e ∷ [])) j no_entry ≡ x → ⊥) es e
          (λ i m j k q. b.different i m j k (sym (get_or_left es (e ∷ []) j no_entry (omega arith)) ∙ q))
          (λ j k q. new (cast (ap (tree_of fs) (sym (get_or_left es (e ∷ []) j no_entry k) ∙ q)) (b.made j k).1));
      same = trees_snoc [] es e ∙ ap (λ (g : List Formula). g ++ (tree_of g e ∷ [])) b.same;
      size = omega (arith, length-append es (e ∷ []), length-append fs (tree_of fs e ∷ []), b.size);
      zeroth = get_or_left fs (tree_of fs e ∷ []) 0 bot (omega (arith, b.size, b.two)) ∙ b.zeroth;
      firsth = get_or_left fs (tree_of fs e ∷ []) 1 bot (omega (arith, b.size, b.two)) ∙ b.firsth;
      made = by_last (λ i x. Fact x) es e
          (λ i m. stays (get_or es i no_entry) (b.made i m).0 (in_left fs (tree_of fs e ∷ []) _ (b.made i m).1))
          (stays e p (in_right fs (tree_of fs e ∷ []) (tree_of fs e) first));
      light = λ h m. elim (in_append fs (tree_of fs e ∷ []) h m)
          [ inl a ↦ b.light h a | inr i ↦ one_member (tree_of fs e) Lt l h i ];
    }
      where
        Fact : Entry → Type 0
        Fact x = Below (length (fs ++ (tree_of fs e ∷ []))) x × (tree_of (fs ++ (tree_of fs e ∷ [])) x ∈ (fs ++ (tree_of fs e ∷ [])))

        stays : (x : Entry) → Below (length fs) x → tree_of fs x ∈ (fs ++ (tree_of fs e ∷ [])) → Fact x
        stays x a i =
            let n = length-append fs (tree_of fs e ∷ []) in
            ((omega (arith, n, a.0), omega (arith, n, a.1)), cast (sym (tree_more fs (tree_of fs e ∷ []) x a)) i)

    -- a list that has f, and all that it had
    abbrev Grown : List Formula → Formula → Type 0
    Grown fs f = (es' : List Entry) × (fs' : List Formula) × Built es' fs' × (f ∈ fs') × ((x : Formula) → x ∈ fs → x ∈ fs')

    put : {es : List Entry} {fs : List Formula} → Built es fs → (f : Formula) → Lt f
        → (e : Entry) → formula_formed spec (length fs) e ≡ true → Below (length fs) e → tree_of fs e ≡ f → Grown fs f
    put {es} {fs} b f l e k p q = go (dec_member f fs)
      where
        go : Dec (f ∈ fs) → Grown fs f
        go (yes m) = (es, fs, b, m, λ x h. h)
        go (no n) = (
          es ++ (e ∷ []),
          fs ++ (tree_of fs e ∷ []),
          snoc es fs e b k p (λ m. n (cast q m)) (subst Lt (sym q) l),
          cast q (in_right fs (tree_of fs e ∷ []) (tree_of fs e) first),
          λ x h. in_left fs (tree_of fs e ∷ []) x h,
        )

    two_there : {es : List Entry} {fs : List Formula} → Built es fs → 2 ≤ length fs
    two_there b = omega (arith, b.size, b.two)

    -- the number of a part
    number : {es : List Entry} {fs : List Formula} → Built es fs → (f : Formula) → kind f ≡ other → f ∈ fs
        → (i : ℕ) × ((2 ≤ i) × (i < length fs)) × (get_or fs i bot ≡ f)
    number {es} {fs} b f o m = let r = place bot fs f m in (r.0, (high r.0 r.2, r.1), r.2)
      where
        high : (i : ℕ) → get_or fs i bot ≡ f → 2 ≤ i
        high zero q =
            let z : is_bot ≡ other = ap kind (sym b.zeroth ∙ q) ∙ o in let y : ◌≡◌ {A = ℕ} 0 1 = cc in absurd (omega arith)
        high (suc zero) q =
            let z : is_top ≡ other = ap kind (sym b.firsth ∙ q) ∙ o in let y : ◌≡◌ {A = ℕ} 0 1 = cc in absurd (omega arith)
        high (suc (suc i)) q = omega arith

    then_put : {fs : List Formula} {f g : Formula} → (p : Grown fs f) → Grown p.1 g → Grown fs g
    then_put p r = (r.0, r.1, r.2, r.3, λ x h. r.4 x (p.4 x h))

    -- a pair of parts that the list has, and one part
    put_pair : {es : List Entry} {fs : List Formula} → Built es fs → (f g h : Formula) → kind f ≡ other → kind g ≡ other → f ∈ fs → g ∈ fs
        → Lt h → (k : ℕ) → ((i a c : ℕ) → (2 ≤ a) × (a < i) → (2 ≤ c) × (c < i) → 2 ≤ i → formula_formed spec i (pair_entry k a c) ≡ true)
        → ((x y : Formula) → x ≡ f → y ≡ g → build k 0 0 0 x y ≡ h) → Grown fs h
    put_pair {es} {fs} b f g h p q mf mg l k formed made =
        let i = number b f p mf in let j = number b g q mg in
        put b h l (pair_entry k i.0 j.0) (formed (length fs) i.0 j.0 i.1 j.1 (two_there b)) (i.1.1, j.1.1)
        (made (get_or fs i.0 bot) (get_or fs j.0 bot) i.2 j.2)

    put_range : {es : List Entry} {fs : List Formula} → Built es fs → (f h : Formula) → kind f ≡ other → f ∈ fs
        → Lt h → (k n m : ℕ) → ((i a : ℕ) → (2 ≤ a) × (a < i) → 2 ≤ i → formula_formed spec i (range_entry k a n m) ≡ true)
        → ((x y : Formula) → x ≡ f → build k 0 n m x y ≡ h) → Grown fs h
    put_range {es} {fs} b f h p mf l k n m formed made =
        let i = number b f p mf in
        put b h l (range_entry k i.0 n m) (formed (length fs) i.0 i.1 (two_there b)) (i.1.1, omega (arith, two_there b))
        (made (get_or fs i.0 bot) (get_or fs 0 bot) i.2)

    grow : (f : Formula) → Lt f → {es : List Entry} {fs : List Formula} → Built es fs → Grown fs f
    grow bot h {es} {fs} b = (es, fs, b, cast b.zeroth (at_member fs 0 bot (omega (arith, two_there b))), λ x m. m)
    grow top h {es} {fs} b = (es, fs, b, cast b.firsth (at_member fs 1 bot (omega (arith, two_there b))), λ x m. m)
    grow (lit true v) h {es} {fs} b =
        put b (lit true v) h (literal_entry true v) (literal_formed_lem (length fs) true v (two_there b) h.0)
        (omega (arith, two_there b), omega (arith, two_there b)) refl
    grow (lit false v) h {es} {fs} b =
        put b (lit false v) h (literal_entry false v) (literal_formed_lem (length fs) false v (two_there b) h.0)
        (omega (arith, two_there b), omega (arith, two_there b)) refl
    grow (conj f g) h b =
        let p = grow f (h.0.0.1, omega arith) b in
        let q = grow g (h.0.1.1, omega arith) p.2 in
        then_put p (then_put q (put_pair {es = q.0} {fs = q.1} q.2 f g (conj f g) h.0.0.0 h.0.1.0 (q.4 f p.3) q.3 h 4
        (λ i a c x y l. formed i (pair_entry 4 a c) l (pair_formed_lem i a c x y)) (λ x y e d i. conj (e i) (d i))))
    grow (disj f g) h b =
        let p = grow f (h.0.0.1, omega arith) b in
        let q = grow g (h.0.1.1, omega arith) p.2 in
        then_put p (then_put q (put_pair {es = q.0} {fs = q.1} q.2 f g (disj f g) h.0.0.0 h.0.1.0 (q.4 f p.3) q.3 h 5
        (λ i a c x y l. formed i (pair_entry 5 a c) l (pair_formed_lem i a c x y)) (λ x y e d i. disj (e i) (d i))))
    grow (next n f) h b =
        let p = grow f (h.0.1.1, omega arith) b in
        then_put p (put_range {es = p.0} {fs = p.1} p.2 f (next n f) h.0.1.0 p.3 h 6 n 0
        (λ i a x l. formed i (range_entry 6 a n 0) l (bounds_formed i a 1 n n 4095 h.0.0.0 h.0.0.1 x)) (λ x y e i. next n (e i)))
    grow (always n m f) h b =
        let p = grow f (h.0.1.1, omega arith) b in
        then_put p (put_range {es = p.0} {fs = p.1} p.2 f (always n m f) h.0.1.0 p.3 h 7 n m
        (λ i a x l. formed i (range_entry 7 a n m) l (bounds_formed i a n m m 4095 h.0.0.0 h.0.0.1 x))
        (λ x y e i. always n m (e i)))
    grow (eventually n m f) h b =
        let p = grow f (h.0.1.1, omega arith) b in
        then_put p (put_range {es = p.0} {fs = p.1} p.2 f (eventually n m f) h.0.1.0 p.3 h 8 n m
        (λ i a x l. formed i (range_entry 8 a n m) l (bounds_formed i a n m m 4095 h.0.0.0 h.0.0.1 x))
        (λ x y e i. eventually n m (e i)))

    abbrev All : List Formula → Type 0
    All gs = (es : List Entry) × (fs : List Formula) × Built es fs × ((g : Formula) → g ∈ gs → Lt g → g ∈ fs)

    grow_all : (gs : List Formula) → All gs
    grow_all [] = (constants, bot ∷ top ∷ [], base, λ g m. elim m [ ])
    grow_all (f ∷ gs) = go (grow_all gs) (light_dec spec.environment spec.system w f)
      where
        go : All gs → Dec (Lt f) → All (f ∷ gs)
        go p (no n) =
            (p.0, p.1, p.2, λ g m l. elim (in_cons m) [ inl e ↦ absurd (n (subst Lt e l)) | inr i ↦ p.3 g i l ])
        go p (yes h) =
            let q = grow f h p.2 in
            (q.0, q.1, q.2, λ g m l. elim (in_cons m) [ inl e ↦ cast (sym e) q.3 | inr i ↦ q.4 g (p.3 g i l) ])

    -- the list, and that it has every light formula
    pub table : (es : List Entry) × (fs : List Formula) × Built es fs × ((g : Formula) → Lt g → g ∈ fs)
    table =
        let p = grow_all (level spec.environment spec.system w) in
        (p.0, p.1, p.2, λ g l. p.3 g (level_has spec.environment spec.system w g l) l)
