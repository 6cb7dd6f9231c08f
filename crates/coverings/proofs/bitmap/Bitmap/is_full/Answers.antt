use Rattle.std.proofs.Common.{◌≡◌, ℕ, ◌^◌, ◌<◌, ◌≤◌, Bool, true, false, List, length, take, refl, sym, ap, ◌∙◌, subst, true≢false, rules, arith, pow_mono}
use Rattle.std.specs.Bool.{MatchBool}
use Rattle.std.specs.List.{AllWithin, HoldsAt}
use Rattle.std.proofs.lemmas.List.{length-take-le, get_or-take}
use Rattle.std.proofs.lemmas.Iterator.{cases_from_all, YieldsList-from_slice}
use Rattle.coverings.specs.Bitmap.{full_word, Full}
use Rattle.coverings.proofs.bitmap.Bitmap.is_full.Goals as goal

pub shared_ref_as_front-iter : goal.shared_ref_as_front-iter
shared_ref_as_front-iter c =
    let p : 2 ^ c.args.self.now.high ≤ 2 ^ 10 = pow_mono c.args.self.now.small in
    omega arith

-- the first words are full, or one of them is not
full_first : (ws : List ℕ) (high n : ℕ) (r : Bool) → n ≡ 2 ^ high → n ≤ length ws
    → MatchBool r (AllWithin (λ w. full_word w ≡ true) (take n ws) 0 (length (take n ws)))
    ((k : ℕ) × (k < length (take n ws)) × HoldsAt (λ w. full_word w ≡ false) (take n ws) k)
    → (r ≡ true → Full ws high) × (Full ws high → r ≡ true)
full_first ws high n true e long h = (
  λ t k l.
      let m : k < n = omega (arith, e) in
      subst (λ (w : ℕ). full_word w ≡ true) (get_or-take n ws k 0 m) (h k 0 (omega arith) (omega (arith, length-take-le n ws long))),
  λ full. refl,
)
full_first ws high n false e long (k, l, empty) = (
  λ t. absurd (true≢false (sym t)),
  λ full.
      let m : k < n = omega (arith, length-take-le n ws long) in
      absurd (true≢false (sym (full k (omega (arith, e))) ∙ ap full_word (sym (get_or-take n ws k 0 m)) ∙ empty 0)),
)

pub returns : goal.returns
returns c =
    let ws = c.args.self.now.words in
    let p : 2 ^ c.args.self.now.high ≤ 2 ^ 10 = pow_mono c.args.self.now.small in
    full_first ws c.args.self.now.high c.word_count.result c.all.result c.word_count.ensures (omega arith)
    (cases_from_all _ _ c.all.result (λ (w : ℕ). full_word w ≡ true) (λ (w : ℕ). full_word w ≡ false) c.all.ensures.ran
    (YieldsList-from_slice (take c.word_count.result ws) c.iter.ensures.rest) (λ x q k. search rules) (λ x q k. search rules))
