-- How often the valuations agree with the moves of a node, and what a bitmap tells of that.
use Rattle.std.proofs.Common.{◌≡◌, ℕ, ◌+◌, ◌-◌, ◌*◌, ◌%◌, ◌^◌, ◌<◌, ◌≤◌, min, Bool, true, false, cond, ◌&&◌, ◌||◌, eqb, List, [], ◌∷◌, map, sym, refl, ap, ◌∙◌, true≢false, mod-lt, arith, pow_pos, pow_mono, pow-add}
use Rattle.temporal.proofs.Tells.{Tells, eq_tells}
use Rattle.tableau.specs.Lists.{span, count}
use Rattle.tableau.specs.Moves.{Move}
use Rattle.tableau.specs.Card.{move_at}
use Rattle.tableau.proofs.Tests.{below_tells}
use Rattle.records.specs.declared.NodeRecord.{NodeRecord}
use Rattle.records.specs.Raw.{RawCard, model}
use Rattle.coverings.specs.declared.cube.Cube.{Cube}
use Rattle.coverings.specs.declared.cube.Side.{Side}
use Rattle.coverings.specs.Cubes.{agrees, Formed, cube_of}
use Rattle.coverings.specs.Bitmap.{Apart, Joined, Full}
use Rattle.coverings.specs.Coverings.{moves_from, once, Cubes}
use Rattle.coverings.proofs.Valuations.{seen, Words, agrees_mod, apart_seen, seen_apart, joined_seen, joined_words}
use Rattle.coverings.proofs.Valuations.{full_seen, seen_full}
use Rattle.coverings.proofs.Rows.{moves_after, after_next, after_end}

-- 1 for a test that passes
abbrev one : Bool → ℕ
one b = cond b 1 0

not_both : (a b : Bool) (k : ℕ) → one a + (one b + k) ≡ 1 → (a && b) ≡ false
not_both true true k e = absurd (omega arith)
not_both true false k e = refl
not_both false b k e = refl

one_or : (a b : Bool) (k : ℕ) → (a && b) ≡ false → one (a || b) + k ≡ one a + (one b + k)
one_or true true k e = absurd (true≢false e)
one_or true false k e = omega arith
one_or false b k e = omega arith

module _ (side : Side) where
  -- how many of the moves the valuation agrees with
  abbrev pub times : ℕ → List Move → ℕ
  times v ms = count (λ m. agrees v (cube_of side m)) ms

  module _ (c : RawCard) (x : NodeRecord) (high : ℕ) where
    abbrev pub AllFormed : Type 0
    AllFormed = (m : ℕ) → Formed (6 + high) (cube_of side (move_at (model c) m))

    abbrev cube : ℕ → Cube
    cube k = cube_of side (move_at (model c) (x.first_move + k))

    -- each valuation agrees with exactly one of the moves
    abbrev pub Once : Type 0
    Once = (v : ℕ) → v < 64 * 2 ^ high → times v (moves_from c x) ≡ 1

    -- the marks are those of the moves before the k-th, none of them marked twice
    abbrev pub Counted : List ℕ → ℕ → Type 0
    Counted ws k =
        Words ws high
        × ((v : ℕ) → v < 64 * 2 ^ high → one (seen ws v) + times v (moves_after c x k) ≡ times v (moves_from c x))

    module _ (formed : AllFormed) (ws : List ℕ) (k : ℕ) (more : k < x.move_count) (counted : Counted ws k) where
      next : (v : ℕ) → times v (moves_after c x k) ≡ one (agrees v (cube k)) + times v (moves_after c x (k + 1))
      next v = ap (times v) (after_next c x k more)

      pub counted_more : (xs : List ℕ) → Apart high (cube k) ws → Joined high (cube k) ws xs → Counted xs (k + 1)
      counted_more xs a j = (
        joined_words high (cube k) (formed (x.first_move + k)) ws xs j counted.0,
        λ v l.
            ap (λ b. one b + times v (moves_after c x (k + 1))) (joined_seen high (cube k) (formed (x.first_move + k)) ws xs j v l)
            ∙ one_or (seen ws v) (agrees v (cube k)) (times v (moves_after c x (k + 1)))
            (apart_seen high (cube k) (formed (x.first_move + k)) ws a v l)
            ∙ ap (λ (n : ℕ). one (seen ws v) + n) (sym (next v)) ∙ counted.1 v l,
      )

      -- a double mark
      pub counted_stops : (Apart high (cube k) ws → ⊥) → Once → ⊥
      counted_stops stop all_once =
          stop (seen_apart high (cube k) (formed (x.first_move + k)) ws
          (λ v l. not_both (seen ws v) (agrees v (cube k)) (times v (moves_after c x (k + 1)))
          (ap (λ (n : ℕ). one (seen ws v) + n) (sym (next v)) ∙ counted.1 v l ∙ all_once v l)))

    module _ (ws : List ℕ) (k : ℕ) (over : x.move_count ≤ k) (counted : Counted ws k) where
      end_count : (v : ℕ) → v < 64 * 2 ^ high → one (seen ws v) ≡ times v (moves_from c x)
      end_count v l =
          let t : times v (moves_after c x k) ≡ 0 = ap (times v) (after_end c x k over) in
          let e = counted.1 v l in
          omega arith

      pub full_once : Full ws high → Once
      full_once f v l = sym (end_count v l) ∙ ap one (full_seen ws high f v l)

      pub once_full : Once → Full ws high
      once_full o =
          seen_full ws high counted.0 (λ v l. is_one (seen ws v) (end_count v l ∙ o v l))
        where
          is_one : (b : Bool) → one b ≡ 1 → b ≡ true
          is_one true e = refl
          is_one false e = absurd (omega arith)

  -- ── all valuations of n variables, and all bits of the words that they take ──
  module _ (c : RawCard) (x : NodeRecord) (n high : ℕ) (wide : high ≡ min (n - 6) 10) (cubes : Cubes side c n) where
    size : 2 ^ (6 + high) ≡ 64 * 2 ^ high
    size = pow-add 2 6 high

    pub enough : 2 ^ n ≤ 64 * 2 ^ high
    enough =
        let few = cubes.few in
        let l : n ≤ 6 + high = omega arith in
        let p : 2 ^ n ≤ 2 ^ (6 + high) = pow_mono l in
        omega (arith, size)

    pub all_formed : AllFormed c x high
    all_formed m = record {
      inside = (cubes.formed m).inside;
      below = omega (arith, (cubes.formed m).below, enough, size);
    }

    times_mod : (v : ℕ) (ks : List ℕ) → times v (map (move_at (model c)) ks) ≡ times (v % 2 ^ n) (map (move_at (model c)) ks)
    times_mod v [] = refl
    times_mod v (k ∷ ks) =
        let e = agrees_mod (cube_of side (move_at (model c) k)) n (cubes.formed k) v in
        (λ j. one (e j) + times_mod v ks j)

    pub once_tells : Tells (once side n (moves_from c x)) (Once c x high)
    once_tells =
        let t = below_tells (λ v. eqb (times v (moves_from c x)) 1) (λ v. times v (moves_from c x) ≡ 1)
        (λ v. eq_tells (times v (moves_from c x)) 1) (2 ^ n) in (
          (λ e v l.
              times_mod v (span x.move_count x.first_move) ∙ t.0 e (v % 2 ^ n) (mod-lt v (pow_pos n))),
          (λ o. t.1 (λ v l. o v (omega (arith, enough)))),
        )
