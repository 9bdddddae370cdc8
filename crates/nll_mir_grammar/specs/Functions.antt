-- Whether a function is written in a type: version 1 of MIR texts knows none. Source: project's
-- choice; docs/FORMATS.md says the same in prose.
use Rattle.std.specs.Prelude.{Bool, true, false, ◌||◌}
use Rattle.nll_mir_grammar.specs.WrittenTypes.{WrittenType, WrittenTypes, Arguments, int, reference}
use Rattle.nll_mir_grammar.specs.WrittenTypes.{tuple, named, function, none, more, no_argument}
use Rattle.nll_mir_grammar.specs.WrittenTypes.{region_argument, type_argument}
use Rattle.nll_mir_grammar.specs.declared.type_text.TypePiece.{TypePiece}
use Rattle.nll_mir_grammar.specs.declared.type_text.TypePiece.TheVariants as pieces

-- The type is a function, or a function is written in a part of it.
abbrev mutual
  pub has_function : WrittenType → Bool
  has_function int = false
  has_function (reference r m t) = has_function t
  has_function (tuple ts) = have_function ts
  has_function (named n args) = arguments_have_function args
  has_function (function ts t) = true

  pub have_function : WrittenTypes → Bool
  have_function none = false
  have_function (more t ts) = has_function t || have_function ts

  pub arguments_have_function : Arguments → Bool
  arguments_have_function no_argument = false
  arguments_have_function (region_argument r args) = arguments_have_function args
  arguments_have_function (type_argument t args) = has_function t || arguments_have_function args

-- the piece makes a function
abbrev pub is_function : TypePiece → Bool
is_function pieces.Function = true
is_function _ = false
