-- A card marked by the definitions alone, from the bytes of its text on; and short words to write texts and cards with.
use Rattle.std.specs.Prelude.{ℕ, List, [], ◌∷◌, ◌++◌, Some, None, Ok, Err, codes, Option, Result}
use Rattle.faults.specs.declared.Fault.{Fault as TextFault}
use Rattle.rules.specs.Read.{View, reads}
use Rattle.rules.specs.Laws.{game_of}
use Rattle.tableau.specs.Conditions.{Fault, fault_at}
use Rattle.tableau.specs.Judge.{Verdict, judge}
use Rattle.records.specs.declared.FormulaRecord.{FormulaRecord}
use Rattle.records.specs.declared.NodeRecord.{NodeRecord}
use Rattle.records.specs.declared.MoveRecord.{MoveRecord}
use Rattle.records.specs.Raw.{RawCard, model}

-- ── marking ──
-- none where the text is refused
abbrev pub marked_by : Result View TextFault → RawCard → Option (Result (Verdict × ℕ) Fault)
marked_by (Ok v) c = Some (judge (game_of v) (model c))
marked_by (Err f) c = None

abbrev pub marked : List ℕ → RawCard → Option (Result (Verdict × ℕ) Fault)
marked text c = marked_by (reads text) c

-- a text, a card, and what marking has to give
pub record Case : Type 0 where
  pub text : List ℕ
  pub card : RawCard
  pub outcome : Result (Verdict × ℕ) Fault

-- ── texts ──
abbrev line : List ℕ → List ℕ → List ℕ
line bytes text = bytes ++ (10 ∷ text)

abbrev pub rules : List ℕ → List ℕ → List ℕ
rules initial safety =
    line (codes "Initial Formula") (line initial (line (codes "Safety Formula") (line safety (
    line (codes "Environment Global Constraints") (line (codes "True") [])))))

-- ── entries ──
abbrev pub entry : ℕ → ℕ → ℕ → ℕ → ℕ → ℕ → FormulaRecord
entry k v a b n m = record { kind = k; variable = v; a = a; b = b; n = n; m = m }

abbrev pub ff : FormulaRecord
ff = entry 0 0 0 0 0 0

abbrev pub tt' : FormulaRecord
tt' = entry 1 0 0 0 0 0

abbrev pub is : ℕ → FormulaRecord
is v = entry 2 v 0 0 0 0

abbrev pub is_not : ℕ → FormulaRecord
is_not v = entry 3 v 0 0 0 0

abbrev pub and : ℕ → ℕ → FormulaRecord
and a b = entry 4 0 a b 0 0

abbrev pub or : ℕ → ℕ → FormulaRecord
or a b = entry 5 0 a b 0 0

abbrev pub X : ℕ → ℕ → FormulaRecord
X n a = entry 6 0 a 0 n 0

abbrev pub G : ℕ → ℕ → ℕ → FormulaRecord
G n m a = entry 7 0 a 0 n m

abbrev pub F : ℕ → ℕ → ℕ → FormulaRecord
F n m a = entry 8 0 a 0 n m

-- the variables s and p_e
abbrev pub s : ℕ
s = 16

abbrev pub p : ℕ
p = 0

-- ── nodes and moves ──
-- label entries from the first on, so many; moves from the first on, so many
abbrev pub at : ℕ → ℕ → ℕ → ℕ → NodeRecord
at first_label labels first_move moves = record {
  first_label = first_label;
  label_count = labels;
  first_move = first_move;
  move_count = moves;
}

-- environment mask and values, system mask and values, target
abbrev pub move : ℕ → ℕ → ℕ → ℕ → ℕ → MoveRecord
move e ev y yv t = record { env_mask = e; env_values = ev; sys_mask = y; sys_values = yv; target = t }

-- the end, as a file writes it
abbrev pub the_end : ℕ
the_end = 65535

-- ── cards and cases ──
abbrev pub open' : List FormulaRecord → List ℕ → List NodeRecord → List MoveRecord → RawCard
open' fs ls ns ms = record { kind = 1; formulas = fs; labels = ls; nodes = ns; moves = ms }

abbrev pub closed' : List FormulaRecord → List ℕ → List NodeRecord → List MoveRecord → RawCard
closed' fs ls ns ms = record { kind = 2; formulas = fs; labels = ls; nodes = ns; moves = ms }

abbrev pub accepts : List ℕ → RawCard → Verdict → ℕ → Case
accepts text card verdict depth = record { text = text; card = card; outcome = Ok (verdict, depth) }

abbrev pub refuses : List ℕ → RawCard → ℕ → ℕ → ℕ → Case
refuses text card number list place = record { text = text; card = card; outcome = Err (fault_at number list place) }

-- the initial formula is true
abbrev pub always_true : List ℕ → List ℕ
always_true safety = rules (codes "True") safety
