-- An open tableau from the positions that the environment does not force.
use Rattle.std.proofs.Common.{◌≡◌, ℕ, ◌+◌, ◌^◌, ◌<◌, Bool, true, cond, eqb, ◌⊎◌, List, [], ◌∷◌, length, get_or, sym, refl, ap, ◌∙◌, subst, inl, inr, eq-eqb, ne_eqb}
use native.Mathlib.Decide.{dec_lt}
use Rattle.temporal.specs.Formula.{Formula, bot, Reading, rest, Fine}
use Rattle.temporal.specs.Parts.{◌∈◌, first, later}
use Rattle.temporal.specs.Game.{Spec, Permitted, Reply, WellFormed, reading}
use Rattle.temporal.proofs.Lists.{at_member, in_map, map_in, one_member, sorted}
use Rattle.tableau.specs.Lists.{count}
use Rattle.tableau.specs.Moves.{Target, end, node, Move, fits_env, cautious}
use Rattle.tableau.specs.Cover.{covers}
use Rattle.tableau.specs.Met.{rests}
use Rattle.tableau.specs.Acceptable.{CoversAll}
use Rattle.tableau.specs.Forces.{left_after, Forces}
use Rattle.tableau.proofs.Cover.{member_held, covers_member}
use Rattle.tableau.proofs.Forces.{forces_more, held_forces, permitted?, forces?, Still, stands_still}
use Rattle.tableau.proofs.Full.{full_move, fits_mask, full_formed, full_cautious, offers, in_offers, count_offers}
use Rattle.tableau.proofs.Positions.{Sub, list, length_list, get_or_list, in_list, sub_in}
use Rattle.tableau.proofs.Board.{Board}
use Rattle.tableau.proofs.Tableau.{Vertex, nowhere, drawing, Rising, OpenMove, OpenNode, OpenTableau}

module _ (spec : Spec) (w : WellFormed spec) (U : List Formula) (B : Board spec U) where
  abbrev N : ℕ
  N = length (B.sets)

  abbrev pos : ℕ → List Formula
  pos i = get_or (B.sets) i []

  abbrev onto : ℕ → ℕ → ℕ → List Formula
  onto e s i = left_after spec e s (pos i)

  pos_in : (i : ℕ) → i < N → (h : Formula) → h ∈ pos i → h ∈ U
  pos_in i l h m = sub_in (B.rising i l) h m

  now_fine : (i : ℕ) → i < N → (h : Formula) → h ∈ (spec.safety ∷ pos i) → Fine spec.environment spec.system h
  now_fine i l h first = w.safety
  now_fine i l h (later m) = B.fine h (pos_in i l h m)

  -- ── the positions that the environment does not force ──
  module _ (k : ℕ) (still : Still spec k B.sets) (safe : Forces spec k (pos 0) → ⊥) where
    record Good : Type 0 where
      at : ℕ
      below : at < N
      unforced : Forces spec k (pos at) → ⊥

    root_good : Good
    root_good = record { at = 0; below = B.some; unforced = safe }

    reply : (p : Good) (e : ℕ) → Permitted spec e → (s : ℕ) × Reply spec s × (Forces spec k (pos (B.nxt e s p.at)) → ⊥)
    reply p e q =
        go (sorted (λ s. Forces spec k (onto e s p.at) → ⊥) (λ s. Forces spec k (onto e s p.at))
        (λ s. elim (forces? spec k (onto e s p.at)) [ inl f ↦ inr f | inr n ↦ inl n ]) (2 ^ spec.system))
      where
        go : ((s : ℕ) × (s < 2 ^ spec.system) × (Forces spec k (onto e s p.at) → ⊥))
            ⊎ ((s : ℕ) → s < 2 ^ spec.system → Forces spec k (onto e s p.at))
            → (s : ℕ) × Reply spec s × (Forces spec k (pos (B.nxt e s p.at)) → ⊥)
        go (inl r) = (
          r.0,
          r.1,
          λ f. r.2
              (forces_more spec k (pos (B.nxt e r.0 p.at)) (onto e r.0 p.at) (B.from_onto e r.0 p.at) f),
        )
        go (inr all) =
            absurd (p.unforced (still (pos p.at) (at_member (B.sets) p.at [] p.below) (inr (e, q, all))))

    -- one move for a permitted input, none for another
    moves_for : (p : Good) (e : ℕ) → Permitted spec e ⊎ (Permitted spec e → ⊥) → List Move
    moves_for p e (inl q) = let s = (reply p e q).0 in full_move spec e s (node (B.nxt e s p.at)) ∷ []
    moves_for p e (inr n) = []

    moves_of : Good → ℕ → List Move
    moves_of p e = moves_for p e (permitted? spec e)

    content : Good → Vertex
    content p = record { label = pos p.at; moves = offers (moves_of p) (2 ^ spec.environment) }

    good_at : (i : ℕ) → Dec (i < N) → Forces spec k (pos i) ⊎ (Forces spec k (pos i) → ⊥) → Good
    good_at i (yes l) (inr n) = record { at = i; below = l; unforced = n }
    good_at i (yes l) (inl f) = root_good
    good_at i (no l) d = root_good

    good : ℕ → Good
    good i = good_at i (dec_lt i N) (forces? spec k (pos i))

    good_same : (i : ℕ) → i < N → (Forces spec k (pos i) → ⊥) → (good i).at ≡ i
    unfolding good good_at
    good_same i l n = go (dec_lt i N) (forces? spec k (pos i))
      where
        go : (x : Dec (i < N)) (y : Forces spec k (pos i) ⊎ (Forces spec k (pos i) → ⊥)) → (good_at i x y).at ≡ i
        go (yes l) (inr n) = refl
        go (yes l) (inl f) = absurd (n f)
        go (no f) y = absurd (f l)

    vertices : List Vertex
    vertices = list (λ i. content (good i)) N

    vertices_length : length vertices ≡ N
    unfolding vertices
    vertices_length = length_list (λ i. content (good i)) N

    vertex : (i : ℕ) → i < N → get_or vertices i nowhere ≡ content (good i)
    unfolding vertices
    vertex i l = get_or_list (λ i. content (good i)) N i nowhere l

    vertex_label : (i : ℕ) → i < N → (Forces spec k (pos i) → ⊥) → (get_or vertices i nowhere).label ≡ pos i
    unfolding content
    vertex_label i l n = ap (λ (x : Vertex). x.label) (vertex i l) ∙ ap pos (good_same i l n)

    node_ok : (p : Good) → OpenNode spec (drawing vertices) (content p)
    unfolding content moves_of moves_for
    node_ok p = record {
      fine = λ h m. B.fine h (pos_in p.at p.below h m);
      no_false = λ b. p.unforced (held_forces spec k (pos p.at) (member_held (pos p.at) bot b));
      split = λ e q.
          count_offers (moves_of p) (fits_env e) e (λ u n. other e u n q.0 (permitted? spec u)) (2 ^ spec.environment) q.0
          ∙ own e q.0 q (permitted? spec e);
      step = λ m i.
          let r = in_offers (moves_of p) (2 ^ spec.environment) m i in step m r.0 (permitted? spec r.0) r.2;
    }
      where
        fits : (e u : ℕ) (s : ℕ) (g : Target) → e < 2 ^ spec.environment → fits_env e (full_move spec u s g) ≡ eqb e u
        fits e u s g l = fits_mask spec.environment e u l

        other : (e u : ℕ) → (u ≡ e → ⊥) → e < 2 ^ spec.environment → (d : Permitted spec u ⊎ (Permitted spec u → ⊥))
            → count (fits_env e) (moves_for p u d) ≡ 0
        other e u n l (inl q) =
            ap (λ (b : Bool). cond b 1 0 + 0) (fits e u (reply p u q).0 end l ∙ ne_eqb e u (λ x. n (sym x)))
        other e u n l (inr q) = refl

        own : (e : ℕ) → e < 2 ^ spec.environment → Permitted spec e → (d : Permitted spec e ⊎ (Permitted spec e → ⊥))
            → count (fits_env e) (moves_for p e d) ≡ 1
        own e l q (inl x) = ap (λ (b : Bool). cond b 1 0 + 0) (fits e e (reply p e x).0 end l ∙ eq-eqb e e refl)
        own e l q (inr n) = absurd (n q)

        step : (m : Move) (e : ℕ) (d : Permitted spec e ⊎ (Permitted spec e → ⊥)) → m ∈ moves_for p e d
            → OpenMove spec (drawing vertices) (content p) m
        step m e (inr n) i = elim i [ ]
        step m e (inl q) i = one_member (full_move spec e s (node j)) (OpenMove spec (drawing vertices) (content p)) ok m i
          where
            s : ℕ
            s = (reply p e q).0

            j : ℕ
            j = B.nxt e s p.at

            R : Reading
            R = reading (record { env = e; sys = s })

            covered : CoversAll (get_or vertices j nowhere).label
                (rests (cautious (full_move spec e s (node j))) (spec.safety ∷ pos p.at))
            covered h i =
                let r = map_in (rest (cautious (full_move spec e s (node j)))) (spec.safety ∷ pos p.at) h i in
                rw (
                  r.2 ∙ full_cautious spec e s (node j) r.0 (now_fine p.at p.below r.0 r.1),
                  vertex_label j (B.nxt_below e s p.at) (reply p e q).2,
                )
                (covers_member (pos j) (rest R r.0)
                (B.to_onto e s p.at p.below (rest R r.0) (in_map (rest R) (spec.safety ∷ pos p.at) r.0 r.1)))

            ok : OpenMove spec (drawing vertices) (content p) (full_move spec e s (node j))
            ok = record {
              formed = full_formed spec e s (node j) q.0 (reply p e q).1;
              inside = subst (λ (n : ℕ). j < n) (sym vertices_length) (B.nxt_below e s p.at);
              step = covered;
            }

    open_ok : OpenTableau spec (drawing vertices)
    open_ok = record {
      some = subst (λ (n : ℕ). 0 < n) (sym vertices_length) B.some;
      root = subst (λ (L : List Formula). covers L spec.initial ≡ true) (sym (vertex_label 0 B.some safe))
          (covers_member (pos 0) spec.initial B.in_root);
      nodes = λ n l. subst (OpenNode spec (drawing vertices))
          (sym (vertex n (subst (λ (m : ℕ). n < m) vertices_length l))) (node_ok (good n));
    }

    open_rising : Rising U vertices
    unfolding vertices content
    open_rising x m =
        let r = in_list (λ i. content (good i)) N x m in
        subst (λ (y : Vertex). Sub y.label U) (sym r.2) (B.rising (good r.0).at (good r.0).below)

  -- the system has a tableau, its labels in the order of U,
  -- or the environment forces false from the initial formula within some number of turns
  pub open_or_forced : ((vs : List Vertex) × OpenTableau spec (drawing vs) × Rising U vs) ⊎ ((k : ℕ) × Forces spec k (spec.initial ∷ []))
  open_or_forced = let s = stands_still spec (B.sets) in at s.0 s.1 (forces? spec s.0 (pos 0))
    where
      at : (k : ℕ) → Still spec k (B.sets) → Forces spec k (pos 0) ⊎ (Forces spec k (pos 0) → ⊥)
          → ((vs : List Vertex) × OpenTableau spec (drawing vs) × Rising U vs) ⊎ ((k : ℕ) × Forces spec k (spec.initial ∷ []))
      at k still (inr n) = inl (vertices k still n, open_ok k still n, open_rising k still n)
      at k still (inl f) = inr (k, forces_more spec k (pos 0) (spec.initial ∷ []) (B.root_in) f)
