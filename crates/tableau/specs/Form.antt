-- The form of a card's entries, as tests.
use Rattle.std.specs.Prelude.{ℕ, ◌+◌, ◌^◌, Bool, false, ◌&&◌, ◌||◌, ◌==◌, bit_and, nat_le, nat_lt}
use Rattle.temporal.specs.Game.{Spec}
use Rattle.tableau.specs.Moves.{Move}
use Rattle.tableau.specs.Card.{Entry, Node, by_kind}

-- environment variables are 0 to 15, system variables 16 to 31, as far as the specification has them
abbrev pub variable_formed : Spec → ℕ → Bool
variable_formed spec v = (nat_lt v 16 && nat_lt v spec.environment) || (nat_le 16 v && nat_lt v (16 + spec.system))

-- a part of entry i is no constant and stands before it
abbrev pub part_formed : ℕ → ℕ → Bool
part_formed i a = nat_le 2 a && nat_lt a i

-- the fields that a kind does not use are 0
abbrev pub constant_formed : Entry → Bool
constant_formed f = f.variable == 0 && (f.a == 0 && (f.b == 0 && (f.n == 0 && f.m == 0)))

abbrev pub literal_formed : Spec → Entry → Bool
literal_formed spec f = variable_formed spec f.variable && (f.a == 0 && (f.b == 0 && (f.n == 0 && f.m == 0)))

abbrev pub pair_formed : ℕ → Entry → Bool
pair_formed i f = (part_formed i f.a && part_formed i f.b) && (f.variable == 0 && (f.n == 0 && f.m == 0))

-- X[n]: n is 1 to 4,095
abbrev pub next_formed : ℕ → Entry → Bool
next_formed i f =
    ((nat_le 1 f.n && nat_le f.n 4095) && part_formed i f.a) && (f.variable == 0 && (f.b == 0 && f.m == 0))

-- G[n,m] and F[n,m]: n is at most m, and m at most 4,095
abbrev pub range_formed : ℕ → Entry → Bool
range_formed i f = ((nat_le f.n f.m && nat_le f.m 4095) && part_formed i f.a) && (f.variable == 0 && f.b == 0)

-- entry 0 is false and entry 1 is true; a constant again at a later entry is of good form, and refused as an equal
abbrev pub formula_formed : Spec → ℕ → Entry → Bool
formula_formed spec i f =
    (nat_le 2 i || f.kind == i)
    && by_kind f.kind (constant_formed f) (constant_formed f) (literal_formed spec f) (literal_formed spec f)
    (pair_formed i f) (pair_formed i f) (next_formed i f) (range_formed i f) (range_formed i f) false

-- a label entry is the number of one of the formulas
abbrev pub label_formed : ℕ → ℕ → Bool
label_formed formulas l = nat_lt l formulas

-- first plus count is at most the list's count, and there is a move
abbrev pub node_formed : ℕ → ℕ → Node → Bool
node_formed labels moves x =
    nat_le (x.first_label + x.label_count) labels && (nat_le (x.first_move + x.move_count) moves && nat_le 1 x.move_count)

-- values lie inside masks, masks inside the specification's variables
abbrev pub move_formed : Spec → Move → Bool
move_formed spec m =
    (bit_and m.env_values m.env_mask == m.env_values) && (bit_and m.sys_values m.sys_mask == m.sys_values
    && (nat_lt m.env_mask (2 ^ spec.environment) && nat_lt m.sys_mask (2 ^ spec.system)))
