-- How the records of a card stand in bytes, and how they are read. A number of two bytes has its low byte first.
use Rattle.std.specs.Prelude.{ℕ, zero, suc, ◌+◌, ◌*◌, ◌/◌, ◌%◌, List, [], ◌∷◌, slice_index}
use Rattle.records.specs.declared.FormulaRecord.{FormulaRecord}
use Rattle.records.specs.declared.NodeRecord.{NodeRecord}
use Rattle.records.specs.declared.MoveRecord.{MoveRecord}

-- ── reading: bytes past the end count as 0 ──
abbrev pub byte_at : List ℕ → ℕ → ℕ
byte_at bs p = slice_index bs p

abbrev pub word_at : List ℕ → ℕ → ℕ
word_at bs p = byte_at bs p + byte_at bs (p + 1) * 256

abbrev pub formula_at : List ℕ → ℕ → FormulaRecord
formula_at bs p = record {
  kind = byte_at bs p;
  variable = byte_at bs (p + 1);
  a = word_at bs (p + 2);
  b = word_at bs (p + 4);
  n = word_at bs (p + 6);
  m = word_at bs (p + 8);
}

abbrev pub node_at : List ℕ → ℕ → NodeRecord
node_at bs p = record {
  first_label = word_at bs p;
  label_count = word_at bs (p + 2);
  first_move = word_at bs (p + 4);
  move_count = word_at bs (p + 6);
}

abbrev pub move_at : List ℕ → ℕ → MoveRecord
move_at bs p = record {
  env_mask = word_at bs p;
  env_values = word_at bs (p + 2);
  sys_mask = word_at bs (p + 4);
  sys_values = word_at bs (p + 6);
  target = word_at bs (p + 8);
}

-- so many entries of `size` bytes each, the first of them at byte p
abbrev pub entries : {X : Type 0} → (ℕ → X) → ℕ → ℕ → ℕ → List X
entries read size p zero = []
entries read size p (suc n) = read p ∷ entries read size (p + size) n

-- ── writing ──
abbrev pub word_bytes : ℕ → List ℕ
word_bytes n = n % 256 ∷ n / 256 ∷ []

abbrev pub formula_bytes : FormulaRecord → List ℕ
formula_bytes f =
    f.kind ∷ f.variable ∷ f.a % 256 ∷ f.a / 256 ∷ f.b % 256 ∷ f.b / 256 ∷ f.n % 256 ∷ f.n / 256 ∷ f.m % 256 ∷ f.m / 256 ∷ []

abbrev pub node_bytes : NodeRecord → List ℕ
node_bytes r =
    r.first_label % 256 ∷ r.first_label / 256 ∷ r.label_count % 256 ∷ r.label_count / 256
    ∷ r.first_move % 256 ∷ r.first_move / 256 ∷ r.move_count % 256 ∷ r.move_count / 256 ∷ []

abbrev pub move_bytes : MoveRecord → List ℕ
move_bytes r =
    r.env_mask % 256 ∷ r.env_mask / 256 ∷ r.env_values % 256 ∷ r.env_values / 256
    ∷ r.sys_mask % 256 ∷ r.sys_mask / 256 ∷ r.sys_values % 256 ∷ r.sys_values / 256
    ∷ r.target % 256 ∷ r.target / 256 ∷ []
