-- The steps of the descent, one at a time.
use Rattle.std.proofs.Common.{◌≡◌, ℕ, zero, suc, Bool, true, false, List, length, Option, refl, ap}
use Rattle.lexer.specs.declared.token.Lexeme.{Lexeme}
use Rattle.lexer.specs.declared.token.Symbol.TheVariants as symbol
use Rattle.lexer.specs.Lexer.{look_at}
use Rattle.lexer.specs.Tokens.{is_symbol}
use Rattle.temporal.specs.Written.{Written}
use Rattle.nodes.specs.declared.node.Connective.{Connective}
use Rattle.nodes.specs.declared.node.Connective.TheVariants as connective
use Rattle.nodes.specs.Trees.{join}
use Rattle.grammar.specs.declared.head.Head.{Head}
use Rattle.grammar.specs.Grammar.{head_of, symbol_of, State, moved, Out, good, Parser, and_then, misplaced, Inside, implication_in, closed, begun}
use Rattle.grammar.specs.Grammar.{unary_by, more, chain_by, arrowed, arrow_by, operand_by, chain_of, arrow_of, inside}
use Rattle.grammar.specs.Shows.{Level, unary, up_to, operand_level}

-- the reader of a level, with nesting left for n
abbrev pub level_at : List ℕ → ℕ → Level → Parser
level_at text n unary = unary_by text (inside text n)
level_at text n (up_to connective.And) = chain_of text (inside text n) connective.And
level_at text n (up_to connective.Or) = chain_of text (inside text n) connective.Or
level_at text n (up_to connective.Implies) = arrow_of text (inside text n) connective.Implies
level_at text n (up_to connective.Equivalent) = arrow_of text (inside text n) connective.Equivalent

pub operand_is : (text : List ℕ) (n : ℕ) (c : Connective) → operand_by text (inside text n) c ≡ level_at text n (operand_level c)
unfolding operand_by
operand_is text n connective.And = refl
operand_is text n connective.Or = refl
operand_is text n connective.Implies = refl
operand_is text n connective.Equivalent = refl

pub unary_is :
    (text : List ℕ) (d : Inside) (s : State) (h : Option Head) → head_of (look_at text s.at).token ≡ h →
    unary_by text d s ≡ begun text d (look_at text s.at) s h
unfolding unary_by
unary_is text d s h e = ap (begun text d (look_at text s.at) s) e

-- t and a closing parenthesis, by the test of the token there
abbrev pub closed_by : Written → State → Lexeme → Bool → Out
closed_by t s x b = elim b [ true ↦ good t (moved s x.next) | false ↦ misplaced x ]

pub closed_is : (t : Written) (s : State) (x : Lexeme) (b : Bool) → is_symbol symbol.Close x.token ≡ b → closed t s x ≡ closed_by t s x b
closed_is t s x b e = ap (closed_by t s x) e

module _ (text : List ℕ) (c : Connective) (operand : Parser) where
  -- one turn of a chain, by the test of the token there
  abbrev pub turn_by : ℕ → Written → State → Bool → Out
  turn_by n t s b =
      elim b [
        | true ↦ and_then (operand (moved s (look_at text s.at).next)) (λ u s'. more text c operand n (join c t u) s')
        | false ↦ good t s
      ]

  pub more_is :
      (n : ℕ) (t : Written) (s : State) (b : Bool) → is_symbol (symbol_of c) (look_at text s.at).token ≡ b →
      more text c operand (suc n) t s ≡ turn_by n t s b
  unfolding more
  more_is n t s b e = ap (turn_by n t s) e

  pub more_ends :
      (n : ℕ) (t : Written) (s : State) → is_symbol (symbol_of c) (look_at text s.at).token ≡ false →
      more text c operand n t s ≡ good t s
  unfolding more
  more_ends zero t s e = refl
  more_ends (suc n) t s e = ap (turn_by n t s) e

  pub chain_is : (s : State) → chain_by text c operand s ≡ and_then (operand s) (more text c operand (length text))
  unfolding chain_by
  chain_is s = refl

-- an arrow and its right side, by the test of the token there
abbrev pub arrowed_by : Connective → Inside → Written → State → Lexeme → Bool → Out
arrowed_by c d t s x b =
    elim b [ true ↦ and_then (implication_in d x.from (moved s x.next)) (λ u s'. good (join c t u) s') | false ↦ good t s ]

pub arrowed_is :
    (c : Connective) (d : Inside) (t : Written) (s : State) (x : Lexeme) (b : Bool) → is_symbol (symbol_of c) x.token ≡ b →
    arrowed c d t s x ≡ arrowed_by c d t s x b
arrowed_is c d t s x b e = ap (arrowed_by c d t s x) e

pub arrow_is :
    (text : List ℕ) (c : Connective) (d : Inside) (operand : Parser) (s : State) →
    arrow_by text c d operand s ≡ and_then (operand s) (λ t s'. arrowed c d t s' (look_at text s'.at))
unfolding arrow_by
arrow_is text c d operand s = refl
