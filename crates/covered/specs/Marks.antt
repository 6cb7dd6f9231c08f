-- How marks spread over the entries of a list of records: entry i of a list of marks is true if formula i is marked.
use Rattle.std.specs.Prelude.{ℕ, suc, Bool, true, false, cond, ◌&&◌, ◌||◌, List, [], ◌∷◌, ◌==◌, nat_le, slice_index_or, slice_set}
use Rattle.records.specs.declared.FormulaRecord.{FormulaRecord}

-- is entry i marked? An entry past the end is not
abbrev pub marked : List Bool → ℕ → Bool
marked ms i = slice_index_or ms i false

-- the marks with one more
abbrev pub mark : List Bool → ℕ → List Bool
mark ms i = slice_set ms i true

abbrev pub mark_if : Bool → List Bool → ℕ → List Bool
mark_if b ms i = cond b (mark ms i) ms

-- ── what is held: from the last record to the first ──
abbrev pub is_conjunction : FormulaRecord → Bool
is_conjunction r = r.kind == 4

-- r is record i: if it is marked and a conjunction, both parts are marked
abbrev pub spread : ℕ → FormulaRecord → List Bool → List Bool
spread i r ms = cond (marked ms i && is_conjunction r) (mark (mark ms r.a) r.b) ms

-- the records from number i on
abbrev pub held_from : List FormulaRecord → ℕ → List Bool → List Bool
held_from [] i ms = ms
held_from (r ∷ rs) i ms = spread i r (held_from rs (suc i) ms)

abbrev pub held_marks : List FormulaRecord → List Bool → List Bool
held_marks rs ms = held_from rs 0 ms

-- ── what is covered by a G or an F that is held ──
abbrev pub is_range : FormulaRecord → Bool
is_range r = r.kind == 7 || r.kind == 8

-- the range of one record includes that of the other
abbrev pub includes : FormulaRecord → FormulaRecord → Bool
includes outer inner = nat_le outer.n inner.n && nat_le inner.m outer.m

-- h is a G over a range that includes r's, or an F over a range inside r's
abbrev pub stronger : FormulaRecord → FormulaRecord → Bool
stronger h r = cond (h.kind == 7) (includes h r) (cond (h.kind == 8) (includes r h) false)

-- both are G or both are F, of one body, and h says at least as much
abbrev pub covers_range : FormulaRecord → FormulaRecord → Bool
covers_range h r = h.kind == r.kind && (h.a == r.a && stronger h r)

-- marks what h covers so, among the records from number i on
abbrev pub range_from : FormulaRecord → List FormulaRecord → ℕ → List Bool → List Bool
range_from h [] i ms = ms
range_from h (r ∷ rs) i ms = range_from h rs (suc i) (mark_if (covers_range h r) ms i)

-- all are the records, hs what is held: the same for record i, which is h, if it is held and a G or an F
abbrev pub range_if : List FormulaRecord → List Bool → ℕ → FormulaRecord → List Bool → List Bool
range_if all hs i h ms = cond (marked hs i && is_range h) (range_from h all 0 ms) ms

-- the same for each record from number i on
abbrev pub ranges_from : List FormulaRecord → List Bool → List FormulaRecord → ℕ → List Bool → List Bool
ranges_from all hs [] i ms = ms
ranges_from all hs (h ∷ rs) i ms = ranges_from all hs rs (suc i) (range_if all hs i h ms)

abbrev pub ranges_marks : List FormulaRecord → List Bool → List Bool → List Bool
ranges_marks rs hs ms = ranges_from rs hs rs 0 ms

-- ── what is covered through its parts: from the first record to the last ──
-- true; a conjunction both of whose parts are marked; a disjunction one of whose parts is
abbrev pub parts_cover : FormulaRecord → List Bool → Bool
parts_cover r ms =
    cond (r.kind == 1) true
    (cond (r.kind == 4) (marked ms r.a && marked ms r.b)
    (cond (r.kind == 5) (marked ms r.a || marked ms r.b) false))

-- or anything, where everything is covered
abbrev pub follows : Bool → FormulaRecord → List Bool → Bool
follows everything r ms = everything || parts_cover r ms

-- the records from number i on
abbrev pub joined_from : Bool → List FormulaRecord → ℕ → List Bool → List Bool
joined_from everything [] i ms = ms
joined_from everything (r ∷ rs) i ms = joined_from everything rs (suc i) (mark_if (follows everything r ms) ms i)

-- hs is what is held; if that is false, entry 0, everything is covered
abbrev pub covered_marks : List FormulaRecord → List Bool → List Bool
covered_marks rs hs = joined_from (marked hs 0) rs 0 (ranges_marks rs hs hs)
