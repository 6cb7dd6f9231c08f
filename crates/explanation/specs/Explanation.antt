-- How a text was read, as lines of text: each the bytes of the line, without its line end.
use Rattle.std.specs.Prelude.{ℕ, ◌+◌, ◌-◌, cond, List, [], ◌∷◌, ◌++◌, Some, None, Ok, Err, codes, decimal, Option, Result, nat_lt}
use Rattle.std.specs.List.{slice_get}
use Rattle.faults.specs.declared.Fault.{Fault}
use Rattle.faults.specs.Numbers.{fault_number, fault_place}
use Rattle.names.specs.declared.Name.{Name}
use Rattle.names.specs.Words.{word_of}
use Rattle.formulas.specs.declared.Formula.{Formula}
use Rattle.formulas.specs.declared.Formula.TheVariants as entry
use Rattle.grammar.specs.Numbering.{environment_names, system_names}
use Rattle.rules.specs.Read.{View}

-- the name of a variable: 0 to 15 are the environment's, the system's begin at 16
abbrev pub variable_at : List Name → ℕ → Option Name
variable_at names v = cond (nat_lt v 16) (slice_get (environment_names names) v) (slice_get (system_names names) (v - 16))

-- its word; every variable of a specification has one
abbrev pub word_in : Option Name → List ℕ
word_in None = []
word_in (Some x) = word_of x

abbrev pub variable_text : List Name → ℕ → List ℕ
variable_text names v = word_in (variable_at names v)

-- a formula, with its parts by their numbers and its variable by name
abbrev pub formula_text : List Name → Formula → List ℕ
formula_text names entry.False = codes "False"
formula_text names entry.True = codes "True"
formula_text names (entry.Variable v) = variable_text names v
formula_text names (entry.Negated v) = codes "-" ++ variable_text names v
formula_text names (entry.And a b) = decimal a ++ codes " & " ++ decimal b
formula_text names (entry.Or a b) = decimal a ++ codes " | " ++ decimal b
formula_text names (entry.Next n a) = codes "X[" ++ decimal n ++ codes "] " ++ decimal a
formula_text names (entry.Always n m a) = codes "G[" ++ decimal n ++ codes "," ++ decimal m ++ codes "] " ++ decimal a
formula_text names (entry.Eventually n m a) = codes "F[" ++ decimal n ++ codes "," ++ decimal m ++ codes "] " ++ decimal a

-- the lines, one of each kind
abbrev pub environment_line : ℕ → Name → List ℕ
environment_line i x = codes "environment " ++ decimal i ++ codes " " ++ word_of x

abbrev pub system_line : ℕ → Name → List ℕ
system_line i x = codes "system " ++ decimal i ++ codes " " ++ word_of x

abbrev pub formula_line : List Name → ℕ → Formula → List ℕ
formula_line names k e = codes "formula " ++ decimal k ++ codes " " ++ formula_text names e

abbrev pub initial_line : ℕ → List ℕ
initial_line k = codes "initial " ++ decimal k

abbrev pub safety_line : ℕ → List ℕ
safety_line k = codes "safety " ++ decimal k

abbrev pub refused_line : Fault → List ℕ
refused_line f = codes "refused " ++ decimal (fault_number f) ++ codes " byte " ++ decimal (fault_place f)

-- a line for each element, numbered from i
abbrev pub numbered : {A : Type 0} → (ℕ → A → List ℕ) → ℕ → List A → List (List ℕ)
numbered line i [] = []
numbered line i (x ∷ xs) = line i x ∷ numbered line (i + 1) xs

-- the parts of an explanation: each kind of variables, the formulas, and which of these are the initial and the safety formula
abbrev pub environment_lines : View → List (List ℕ)
environment_lines v = numbered environment_line 0 (environment_names v.names)

abbrev pub system_lines : View → List (List ℕ)
system_lines v = numbered system_line 0 (system_names v.names)

abbrev pub formula_lines : View → List (List ℕ)
formula_lines v = numbered (formula_line v.names) 0 v.formulas

abbrev pub root_lines : View → List (List ℕ)
root_lines v = initial_line v.initial ∷ safety_line v.safety ∷ []

abbrev pub specification_lines : View → List (List ℕ)
specification_lines v = environment_lines v ++ system_lines v ++ formula_lines v ++ root_lines v

-- the lines that explain how a text was read
abbrev pub explanation : Result View Fault → List (List ℕ)
explanation (Ok v) = specification_lines v
explanation (Err f) = refused_line f ∷ []
