-- Written types that are tuples.
-- Source: project's choice.
use Rattle.std.specs.Prelude.{◌≡◌}
use Rattle.nll_mir_grammar.specs.WrittenTypes.{WrittenType, WrittenTypes, tuple, none}

-- the types of a tuple
abbrev pub parts : WrittenType → WrittenTypes
parts (tuple ts) = ts
parts _ = none

-- the type is a tuple
abbrev pub IsTuple : WrittenType → Type 0
IsTuple t = t ≡ tuple (parts t)
