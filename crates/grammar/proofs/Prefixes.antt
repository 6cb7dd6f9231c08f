-- What the bounds behind a unary operator keep: they move on, stay in the text, and lie in their ranges.
use Rattle.std.proofs.Common.{◌≡◌, ℕ, ◌≤◌, List, length, Ok, Err, Result, arith}
use Rattle.std.specs.Result.{IfOk}
use Rattle.faults.specs.declared.TextFault.{TextFault}
use Rattle.lexer.specs.declared.bounds.Bound.{Bound}
use Rattle.lexer.specs.declared.bounds.Range.{Range}
use Rattle.lexer.specs.declared.token.Operator.TheVariants as operator
use Rattle.lexer.specs.Bounds.{GoodBound, GoodRange, bound_in, range_in}
use Rattle.lexer.proofs.Limits.{when_ok, bound_good, range_good}
use Rattle.nodes.specs.declared.node.Prefix.{Prefix}
use Rattle.nodes.specs.declared.node.Prefix.TheVariants as prefix
use Rattle.grammar.specs.declared.head.Prefixed.{Prefixed}
use Rattle.grammar.specs.declared.head.Unary.{Unary}
use Rattle.grammar.specs.declared.head.Unary.TheVariants as unary
use Rattle.grammar.specs.Grammar.{next_prefix, range_prefix, prefix_in}

-- a unary operator's bounds lie in their ranges
abbrev pub Bounded : Prefix → Type 0
Bounded prefix.Not = Unit {0}
Bounded (prefix.Next n) = (1 ≤ n) × (n ≤ 4095)
Bounded (prefix.Always n m) = (n ≤ m) × (m ≤ 4095)
Bounded (prefix.Eventually n m) = (n ≤ m) × (m ≤ 4095)

-- a unary operator with its bounds, whose reading began at `at`
pub record GoodPrefix (text : List ℕ) (at : ℕ) (p : Prefixed) : Type 0 where
  pub after : at ≤ p.next
  pub in_text : at ≤ length text → p.next ≤ length text
  pub bounded : Bounded p.prefix

module _ (text : List ℕ) (at : ℕ) where
  next_good : (r : Result Bound TextFault) → IfOk r (GoodBound text at) → IfOk (next_prefix r) (GoodPrefix text at)
  next_good (Ok b) h = record { after = h.after; in_text = h.in_text; bounded = (h.least, h.most) }
  next_good (Err f) h = tt

  always_good :
      (r : Result Range TextFault) → IfOk r (GoodRange text at) →
      IfOk (range_prefix (λ n m. prefix.Always n m) r) (GoodPrefix text at)
  always_good (Ok b) h = record { after = h.after; in_text = h.in_text; bounded = (h.ordered, h.most) }
  always_good (Err f) h = tt

  eventually_good :
      (r : Result Range TextFault) → IfOk r (GoodRange text at) →
      IfOk (range_prefix (λ n m. prefix.Eventually n m) r) (GoodPrefix text at)
  eventually_good (Ok b) h = record { after = h.after; in_text = h.in_text; bounded = (h.ordered, h.most) }
  eventually_good (Err f) h = tt

  pub prefix_good : (u : Unary) → IfOk (prefix_in text u at) (GoodPrefix text at)
  prefix_good unary.Not = record { after = omega arith; in_text = λ h. h; bounded = tt }
  prefix_good (unary.Temporal operator.Next) = next_good (bound_in text at) (bound_good text at)
  prefix_good (unary.Temporal operator.Always) = always_good (range_in text at) (range_good text at)
  prefix_good (unary.Temporal operator.Eventually) = eventually_good (range_in text at) (range_good text at)

  -- the same of a prefix in hand
  pub prefix_ok : (u : Unary) (p : Prefixed) → prefix_in text u at ≡ Ok p → GoodPrefix text at p
  prefix_ok u p e = when_ok (GoodPrefix text at) (prefix_in text u at) p (prefix_good u) e
