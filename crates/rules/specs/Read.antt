-- What reading a text gives: a specification, or the refusal.
use Rattle.std.specs.Prelude.{ℕ, true, cond, ◌||◌, List, map, length, Ok, Err, Result, nat_lt}
use Rattle.faults.specs.declared.Buffer.TheVariants as buffer
use Rattle.faults.specs.declared.Reason.TheVariants as reason
use Rattle.faults.specs.declared.Fault.{Fault}
use Rattle.faults.specs.declared.Fault.TheVariants.{Text, Short}
use Rattle.names.specs.declared.Name.{Name}
use Rattle.temporal.specs.Formula.{Formula as Tree}
use Rattle.temporal.specs.Written.{normal}
use Rattle.temporal.specs.Parts.{parts_of}
use Rattle.formulas.specs.declared.Formula.{Formula}
use Rattle.formulas.specs.Trees.{place_of, entry_of}
use Rattle.grammar.specs.Sections.{Contents, Form, formed, refused, form_of}

-- a specification as its calls show it: the names of its variables in order of first appearance, its formulas as entries that
-- name their parts by number, and the numbers of the initial formula, the safety formula and the third part
pub record View : Type 0 where
  pub names : List Name
  pub formulas : List Formula
  pub initial : ℕ
  pub safety : ℕ
  pub third : ℕ

-- the normal forms of the initial and of the safety formula
abbrev pub initial_of : Contents → Tree
initial_of c = normal true c.initial

abbrev pub safety_of : Contents → Tree
safety_of c = normal true c.safety

-- false, true, and both formulas with all their parts, parts first, each once
abbrev pub formulas_of : Contents → List Tree
formulas_of c = parts_of (initial_of c) (safety_of c)

-- the third part is true, which is formula 1
abbrev pub view_of : Contents → View
view_of c = record {
  names = c.names;
  formulas = map (entry_of (formulas_of c)) (formulas_of c);
  initial = place_of (initial_of c) (formulas_of c);
  safety = place_of (safety_of c) (formulas_of c);
  third = 1;
}

-- at most 256 formulas; more are refused at the end of the text
abbrev pub counted : ℕ → Contents → Result View Fault
counted end c =
    cond (nat_lt 256 (length (formulas_of c))) (Err (Text (record { reason = reason.Formulas; place = end }))) (Ok (view_of c))

abbrev pub viewed : ℕ → Form → Result View Fault
viewed end (refused f) = Err (Text f)
viewed end (formed c) = counted end c

-- what a text reads as
abbrev pub reads : List ℕ → Result View Fault
reads text = viewed (length text) (form_of text)

-- each kind of key needs 2,048 slots; that is judged before the text
abbrev pub reads_with : ℕ → ℕ → List ℕ → Result View Fault
reads_with name_slots formula_slots text =
    cond (nat_lt name_slots 2048 || nat_lt formula_slots 2048) (Err (Short buffer.Index)) (reads text)
