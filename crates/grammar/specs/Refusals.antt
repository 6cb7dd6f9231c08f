-- What a refused token says of other texts.
use Rattle.std.specs.Prelude.{◌≡◌, ℕ, ◌⊎◌, List, take}
use Rattle.faults.specs.declared.Reason.TheVariants as reason
use Rattle.faults.specs.declared.TextFault.{TextFault}
use Rattle.lexer.specs.Lexer.{look_at}
use Rattle.grammar.specs.Sections.{Contents, refused, form_of}
use Rattle.grammar.specs.Shows.{Derives}

-- the other text has the same bytes up to the end of the token at `place`, and there the same token (a longer word is another one)
pub record SameUpTo (text other : List ℕ) (place : ℕ) : Type 0 where
  pub bytes : take (look_at text place).next other ≡ take (look_at text place).next text
  pub token : look_at other place ≡ look_at text place

-- where a token is refused as unknown or as not allowed there, no text that is the same up to and with this token derives anything.
-- Refusals for a limit are not of this kind: a seventeenth system variable may be named `Environment`, as the third header begins
abbrev pub RefusedTokenIsFinal : Type 0
RefusedTokenIsFinal =
    (text other : List ℕ) (f : TextFault) → form_of text ≡ refused f → (f.reason ≡ reason.Unknown) ⊎ (f.reason ≡ reason.Misplaced)
    → SameUpTo text other f.place → (c : Contents) → Derives other c → ⊥
