-- What reading promises beyond its definition, in terms of the grammar and of the logic.
use Rattle.std.specs.Prelude.{◌≡◌, ℕ, ◌<◌, ◌≤◌, true, ◌↔◌, List, length, Ok, Err, Result, slice_index_or}
use Rattle.faults.specs.declared.Fault.{Fault}
use Rattle.temporal.specs.Formula.{Formula as Tree, bot, top, from, holds}
use Rattle.temporal.specs.Written.{Written, Valuation, Says, exactly}
use Rattle.temporal.specs.Game.{Spec, WellFormed}
use Rattle.temporal.specs.Parts.{parts_of}
use Rattle.formulas.specs.Trees.{trees, ordered as in_order}
use Rattle.grammar.specs.Numbering.{environment_names, system_names}
use Rattle.grammar.specs.Sections.{Contents}
use Rattle.grammar.specs.Shows.{Derives}
use Rattle.rules.specs.Read.{View, formulas_of, view_of}

-- the formula that a number stands for
abbrev pub formula_at : View → ℕ → Tree
formula_at v k = slice_index_or (trees v.formulas) k bot

-- the game that a specification states
abbrev pub game_of : View → Spec
game_of v = record {
  environment = length (environment_names v.names);
  system = length (system_names v.names);
  initial = formula_at v v.initial;
  safety = formula_at v v.safety;
  third = formula_at v v.third;
}

-- a text is accepted exactly if the grammar derives contents from it that have at most 256 formulas, and reads as them
abbrev pub ReadsAsDerived : List ℕ → Result View Fault → Type 0
ReadsAsDerived text (Ok v) = (c : Contents) × Derives text c × (length (formulas_of c) ≤ 256) × (v ≡ view_of c)
ReadsAsDerived text (Err f) = (c : Contents) → Derives text c → 256 < length (formulas_of c)

-- a formula in normal form holds, at each step of each sequence of valuations, exactly where the written formula does
abbrev pub SaysTheSame : Tree → Written → Type 0
SaysTheSame f w = (σ : ℕ → Valuation) (t : ℕ) → (holds (from t (λ k. exactly (σ k))) f ≡ true) ↔ Says σ t w

-- the initial and the safety formula of an accepted text mean what the text writes
abbrev pub KeepsMeaning : List ℕ → Result View Fault → Type 0
KeepsMeaning text (Ok v) =
    (c : Contents) → Derives text c → SaysTheSame (game_of v).initial c.initial × SaysTheSame (game_of v).safety c.safety
KeepsMeaning text (Err f) = Unit {0}

-- the game of an accepted text is well formed: formulas in normal form, and some input is permitted
abbrev pub StatesGame : Result View Fault → Type 0
StatesGame (Ok v) = WellFormed (game_of v)
StatesGame (Err f) = Unit {0}

-- what every specification keeps:
--   game          its game is well formed
--   free          no input is ruled out: the third part is true
--   parts         its formulas are exactly the parts of the game's two formulas, each once
--   few           they are at most 256
--   ordered       parts come before wholes
--   initial       the initial formula's number is in range
--   safety        so is the safety formula's
--   environment   there are at most 16 environment variables
--   system        and at most 16 system variables
pub record SoundView (v : View) : Type 0 where
  pub game : WellFormed (game_of v)
  pub free : (game_of v).third ≡ top
  pub parts : trees v.formulas ≡ parts_of (game_of v).initial (game_of v).safety
  pub few : length v.formulas ≤ 256
  pub ordered : in_order v.formulas ≡ true
  pub initial : v.initial < length v.formulas
  pub safety : v.safety < length v.formulas
  pub environment : length (environment_names v.names) ≤ 16
  pub system : length (system_names v.names) ≤ 16
