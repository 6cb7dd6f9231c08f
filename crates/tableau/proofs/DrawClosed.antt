-- A closed tableau from a number of turns within which the environment forces false.
use Rattle.std.proofs.Common.{◌≡◌, ℕ, zero, suc, ◌+◌, ◌-◌, ◌*◌, ◌/◌, ◌%◌, ◌^◌, ◌<◌, ◌≤◌, Bool, true, cond, ◌⊎◌, List, [], ◌∷◌, length, get_or, sym, refl, ap, ◌∙◌, subst, inl, inr, mod-eq_of_lt, arith, pow_pos, eq-eqb, ne_eqb}
use lib.Bits.{bit_and, and_zero_r, and_mask}
use Rattle.std.proofs.lemmas.Nat.{div-mul-add, mod-mul-add, div_below, mod_below, mul-le, div-add-mod'}
use Rattle.temporal.specs.Formula.{Formula, bot, rest, Fine}
use Rattle.temporal.specs.Parts.{◌∈◌, first, later}
use Rattle.temporal.specs.Game.{Spec, Permitted, Reply, WellFormed, reading}
use Rattle.temporal.proofs.Lists.{in_map, map_in, cast, one_member}
use Rattle.tableau.specs.Lists.{count}
use Rattle.tableau.specs.Moves.{end, node, Move, fits_sys, generous}
use Rattle.tableau.specs.Cover.{covers}
use Rattle.tableau.specs.Acceptable.{MoveFormed, CoversAll, SameInput}
use Rattle.tableau.specs.Forces.{left_after, Forces}
use Rattle.tableau.proofs.Cover.{member_held, covers_false, covers_member, covers_more}
use Rattle.tableau.proofs.Forces.{forces_more, forces?}
use Rattle.tableau.proofs.Full.{full_move, fits_mask, full_formed, full_generous, offers, in_offers, count_offers}
use Rattle.tableau.proofs.Positions.{Sub, list, length_list, get_or_list, in_list, sub_in, one_sub}
use Rattle.tableau.proofs.Board.{Board}
use Rattle.tableau.proofs.Tableau.{Vertex, nowhere, drawing, Rising, ClosedStep, rests_by, ClosedNode, ClosedTableau}

module _ (spec : Spec) (w : WellFormed spec) (U : List Formula) (B : Board spec U) where
  abbrev N : ℕ
  N = length (B.sets)

  abbrev pos : ℕ → List Formula
  pos i = get_or (B.sets) i []

  abbrev onto : ℕ → ℕ → ℕ → List Formula
  onto e s i = left_after spec e s (pos i)

  pos_in : (i : ℕ) → i < N → (h : Formula) → h ∈ pos i → h ∈ U
  pos_in i l h m = sub_in (B.rising i l) h m

  now_fine : (i : ℕ) → i < N → (h : Formula) → h ∈ (spec.safety ∷ pos i) → Fine spec.environment spec.system h
  now_fine i l h first = w.safety
  now_fine i l h (later m) = B.fine h (pos_in i l h m)

  -- ── level j has the positions with k - j turns left; node number is level times N plus position ──
  module _ (k : ℕ) (wins : Forces spec k (pos 0)) where
    -- where false is held, and where no one comes
    dead_move : Move
    dead_move = record { env_mask = 2 ^ spec.environment - 1; env_values = w.input; sys_mask = 0; sys_values = 0; target = end }

    filler : Vertex
    filler = record { label = bot ∷ []; moves = dead_move ∷ [] }

    -- the move at reply s, to a position on the next level
    shut_move : (j e i : ℕ) → ℕ → List Move
    shut_move j e i s = full_move spec e s (node (suc j * N + B.nxt e s i)) ∷ []

    build : (j r i : ℕ) → Forces spec r (pos i) ⊎ (Forces spec r (pos i) → ⊥) → Vertex
    build j r i (inr n) = filler
    build j zero i (inl b) = filler
    build j (suc r) i (inl (inl b)) = filler
    build j (suc r) i (inl (inr x)) = record { label = pos i; moves = offers (shut_move j x.0 i) (2 ^ spec.system) }

    level : ℕ → ℕ
    level n = n / N

    index : ℕ → ℕ
    index n = n % N

    content : ℕ → Vertex
    content n = build (level n) (k - level n) (index n) (forces? spec (k - level n) (pos (index n)))

    vertices : List Vertex
    vertices = list content (suc k * N)

    vertices_length : length vertices ≡ suc k * N
    unfolding vertices
    vertices_length = length_list content (suc k * N)

    vertex : (n : ℕ) → n < suc k * N → get_or vertices n nowhere ≡ content n
    unfolding vertices
    vertex n l = get_or_list content (suc k * N) n nowhere l

    -- a forced position covers the label of its node
    build_covered : (j r i : ℕ) (d : Forces spec r (pos i) ⊎ (Forces spec r (pos i) → ⊥)) → Forces spec r (pos i)
        → CoversAll (pos i) (build j r i d).label
    unfolding build filler
    build_covered j r i (inr n) f h m = absurd (n f)
    build_covered j zero i (inl b) f h m = covers_false (pos i) h b
    build_covered j (suc r) i (inl (inl b)) f h m = covers_false (pos i) h b
    build_covered j (suc r) i (inl (inr x)) f h m = covers_member (pos i) h m

    label_covered : (n i r : ℕ) → n < suc k * N → index n ≡ i → k - level n ≡ r → Forces spec r (pos i)
        → CoversAll (pos i) (get_or vertices n nowhere).label
    unfolding content
    label_covered n i r l a b f h m =
        subst (λ (x : ℕ). covers (pos x) h ≡ true) a
        (build_covered (level n) (k - level n) (index n) (forces? spec (k - level n) (pos (index n)))
        (subst (λ (x : ℕ). Forces spec (k - level n) (pos x)) (sym a) (subst (λ (x : ℕ). Forces spec x (pos i)) (sym b) f)) h
        (subst (λ (x : Vertex). h ∈ x.label) (vertex n l) m))

    filler_ok : (n : ℕ) → ClosedNode spec (drawing vertices) n filler
    unfolding filler dead_move
    filler_ok n = record {
      formed = one_member dead_move (MoveFormed spec) (record {
        env = and_mask w.input spec.environment ∙ mod-eq_of_lt w.permitted.0;
        sys = and_zero_r 0;
        env_mask = omega (arith, pow_pos spec.environment);
        sys_mask = pow_pos spec.system;
      });
      input = one_member dead_move (λ m. ((k : Move) → k ∈ (dead_move ∷ []) → SameInput m k) × Permitted spec m.env_values)
          (one_member dead_move (SameInput dead_move) (refl, refl), w.permitted);
      split = λ s l. ap (λ (b : Bool). cond b 1 0 + 0) (eq-eqb (bit_and s 0) 0 (and_zero_r s));
      step = one_member dead_move (λ m. ClosedStep (drawing vertices) n (rests_by spec filler m) m.target)
          (member_held (rests_by spec filler dead_move) bot (later first));
    }

    module _ (n j r e i : ℕ) (below : n < suc j * N) (turns : k - j ≡ suc r) (il : i < N)
        (q : Permitted spec e) (f : (s : ℕ) → Reply spec s → Forces spec r (onto e s i)) where
      x : Vertex
      x = record { label = pos i; moves = offers (shut_move j e i) (2 ^ spec.system) }

      abbrev the_target : ℕ → ℕ
      the_target s = suc j * N + B.nxt e s i

      abbrev the_move : ℕ → Move
      the_move s = full_move spec e s (node (the_target s))

      all_moves : (P : Move → Type 0) → ((s : ℕ) → Reply spec s → P (the_move s))
          → (m : Move) → m ∈ offers (shut_move j e i) (2 ^ spec.system) → P m
      unfolding shut_move
      all_moves P h m t =
          let v = in_offers (shut_move j e i) (2 ^ spec.system) m t in one_member (the_move v.0) P (h v.0 v.1) m v.2

      split : (s : ℕ) → Reply spec s → count (fits_sys s) (offers (shut_move j e i) (2 ^ spec.system)) ≡ 1
      unfolding shut_move
      split s l =
          count_offers (shut_move j e i) (fits_sys s) s
          (λ u n. ap (λ (b : Bool). cond b 1 0 + 0) (fits_mask spec.system s u l ∙ ne_eqb s u (λ z. n (sym z)))) (2 ^ spec.system) l
          ∙ ap (λ (b : Bool). cond b 1 0 + 0) (fits_mask spec.system s s l ∙ eq-eqb s s refl)

      move_step : (s : ℕ) → Reply spec s → ClosedStep (drawing vertices) n (rests_by spec x (the_move s)) (node (the_target s))
      unfolding x index level
      move_step s l =
          let il : B.nxt e s i < N = B.nxt_below e s i in
          let big : suc (suc j) * N ≤ suc k * N = mul-le (suc (suc j)) N (suc k) N (omega arith) (omega arith) in
          let tl : the_target s < suc k * N = omega arith in (
            omega arith,
            subst (λ (z : ℕ). the_target s < z) (sym vertices_length) tl,
            λ h m. covers_more (pos (B.nxt e s i)) (rests_by spec x (the_move s)) inside h
                (label_covered (the_target s) (B.nxt e s i) r tl (index_at il) (level_at_lem il)
                (forces_more spec r (onto e s i) (pos (B.nxt e s i)) (B.to_onto e s i here) (f s l)) h m),
          )
        where
          here : i < N
          here = il

          index_at : B.nxt e s i < N → index (the_target s) ≡ B.nxt e s i
          index_at a = mod-mul-add (suc j) N (B.nxt e s i) a

          level_at_lem : B.nxt e s i < N → k - level (the_target s) ≡ r
          level_at_lem a = ap (λ (z : ℕ). k - z) (div-mul-add (suc j) N (B.nxt e s i) a) ∙ omega arith

          inside : (h : Formula) → h ∈ pos (B.nxt e s i) → h ∈ rests_by spec x (the_move s)
          inside h m =
              let v = map_in (rest (reading (record { env = e; sys = s }))) (spec.safety ∷ pos i) h (B.from_onto e s i h m) in
              cast (full_generous spec e s (node (the_target s)) v.0 (now_fine i here v.0 v.1) ∙ sym v.2)
              (in_map (rest (generous (the_move s))) (spec.safety ∷ pos i) v.0 v.1)

      forced_ok : ClosedNode spec (drawing vertices) n x
      unfolding x
      forced_ok = record {
        formed = all_moves (MoveFormed spec) (λ s l. full_formed spec e s (node (the_target s)) q.0 l);
        input = all_moves (λ m. ((k : Move) → k ∈ offers (shut_move j e i) (2 ^ spec.system) → SameInput m k)
            × Permitted spec m.env_values)
            (λ s l. (all_moves (SameInput (the_move s)) (λ t h. (refl, refl)), q));
        split = split;
        step = all_moves (λ m. ClosedStep (drawing vertices) n (rests_by spec x m) m.target) move_step;
      }

    build_ok : (n j r i : ℕ) (d : Forces spec r (pos i) ⊎ (Forces spec r (pos i) → ⊥))
        → n < suc j * N → k - j ≡ r → i < N → ClosedNode spec (drawing vertices) n (build j r i d)
    unfolding build x
    build_ok n j r i (inr z) a b c = filler_ok n
    build_ok n j zero i (inl z) a b c = filler_ok n
    build_ok n j (suc r) i (inl (inl z)) a b c = filler_ok n
    build_ok n j (suc r) i (inl (inr z)) a b c = forced_ok n j r z.0 i a b c z.1 z.2

    some_nodes : 0 < suc k * N
    some_nodes = omega (arith, mul-le 1 1 (suc k) N (omega arith) B.some)

    closed_ok : ClosedTableau spec (drawing vertices)
    unfolding content level index
    closed_ok = record {
      some = subst (λ (n : ℕ). 0 < n) (sym vertices_length) some_nodes;
      root = λ h m. covers_more (pos 0) (spec.initial ∷ []) B.root_in h
          (label_covered 0 0 k some_nodes (mod-eq_of_lt B.some)
          (omega (arith, div_below 0 N 1 B.some (omega (arith, B.some)))) wins h m);
      nodes = λ n l. subst (ClosedNode spec (drawing vertices) n)
          (sym (vertex n (subst (λ (m : ℕ). n < m) vertices_length l)))
          (build_ok n (level n) (k - level n) (index n) (forces? spec (k - level n) (pos (index n)))
          (omega (arith, div-add-mod' n N, mod_below n N B.some)) refl (mod_below n N B.some));
    }

    build_rising : (j r i : ℕ) (d : Forces spec r (pos i) ⊎ (Forces spec r (pos i) → ⊥)) → i < N → Sub (build j r i d).label U
    unfolding build filler
    build_rising j r i (inr z) c = one_sub bot U (B.has_bot)
    build_rising j zero i (inl z) c = one_sub bot U (B.has_bot)
    build_rising j (suc r) i (inl (inl z)) c = one_sub bot U (B.has_bot)
    build_rising j (suc r) i (inl (inr z)) c = B.rising i c

    closed_rising : Rising U vertices
    unfolding vertices content index
    closed_rising y m =
        let v = in_list content (suc k * N) y m in
        subst (λ (z : Vertex). Sub z.label U) (sym v.2)
        (build_rising (level v.0) (k - level v.0) (index v.0)
        (forces? spec (k - level v.0) (pos (index v.0))) (mod_below v.0 N B.some))

  -- if the environment forces false, it has a tableau, its labels in the order of U
  pub forced : (k : ℕ) → Forces spec k (spec.initial ∷ []) → (vs : List Vertex) × ClosedTableau spec (drawing vs) × Rising U vs
  forced k f =
      let g = forces_more spec k (spec.initial ∷ []) (pos 0) (one_member spec.initial (λ h. h ∈ pos 0) (B.in_root)) f in
      (vertices k g, closed_ok k g, closed_rising k g)
