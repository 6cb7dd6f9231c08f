-- What was copied stands after what was shown, and it is as much as there is room for; what is past it is 0 as before.
use Rattle.std.proofs.Common.{◌≡◌, ℕ, ◌+◌, ◌-◌, List, ◌++◌, length, take, drop, ap, ◌∙◌, arith, length-append, length-drop}
use Rattle.std.proofs.lemmas.List.{length-take-le}
use Rattle.std.proofs.lemmas.Slice.{take-put_mid, drop-put_mid}
use Rattle.lines.proofs.Joins.{still_zero, written}
use Rattle.lines.proofs.line.Line.push_bytes.Goals as goal

pub invariant_of-self : goal.invariant_of-self
invariant_of-self c =
    let k = c.self.inside.len in
    let xs = c.self.inside.bytes in
    let n = c.min-count.result in
    let zs = c.copy_from_slice.new.self in
    let copied : length zs ≡ k + n - k = omega arith in
    let past = drop (k + n - k) (drop k xs) in
    let gone = length-drop (k + n - k) (drop k xs) in
    let long : length (take k xs ++ (zs ++ past)) ≡ 64 =
    omega (arith, copied, gone, length-drop k xs, length-append (take k xs) (zs ++ past), length-append zs past, length-take-le k xs (omega arith)) in
    record {
      few = omega arith;
      long = long;
      rest = drop-put_mid k (k + n - k) xs zs (k + n) (omega arith) (omega arith) copied ∙ still_zero k n xs c.self.invariant.rest;
    }

pub returns : goal.returns
returns c =
    let k = c.self.inside.len in
    let xs = c.self.inside.bytes in
    let n = c.min-count.result in
    let ys = c.args.bytes.now in
    let zs = c.copy_from_slice.new.self in
    let copied : length zs ≡ n = ap length c.copy_from_slice.ensures.after ∙ length-take-le n ys (omega arith) in
    take-put_mid k (k + n - k) xs zs (k + n) (omega arith) (omega arith)
    ∙ ap (λ (bs : List ℕ). take k xs ++ bs) c.copy_from_slice.ensures.after
    ∙ ap (λ (m : ℕ). take k xs ++ take m ys) c.min-count.ensures
    ∙ written 64 k xs ys (omega arith) (omega arith)
    ∙ ap (λ (s : List ℕ). take 64 (s ++ ys)) c.self.view_is
