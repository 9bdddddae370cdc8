-- The grammars of the parts of a line.
-- Source: project's choice. Only private contracts cite this file.
use Rattle.std.specs.Prelude.{◌≡◌, ℕ, ◌<◌, Bool, true, false, List, [], ◌∷◌, map, codes}
use Rattle.std.specs.Prelude.{length, Option, Some, None}
use Rattle.std.specs.List.{AllByRecursion}
use Rattle.nll_text.specs.Tokens.{Token, word, sign}
use Rattle.nll_types.specs.Places.{PlacePath}
use Rattle.nll_types.specs.Operands.{Operand, constant, copied, moved}
use Rattle.nll_types.specs.declared.place.Projection.{Projection}
use Rattle.nll_types.specs.declared.parameter.Parameter.{Parameter}
use Rattle.nll_types.specs.declared.parameter.Sign.{Sign}
use Rattle.nll_mir_grammar.specs.WrittenTypes.{WrittenName, WrittenType, WrittenTypes, tuple}
use Rattle.nll_mir_grammar.specs.WrittenTypes.{spelled}
use Rattle.nll_mir_grammar.specs.WrittenTypes.{mutability, HasNames, IsFree, is_capital}
use Rattle.nll_text.specs.Grammars.{Grammar, HasNone, IsNotNext, prefixed, regions}
use Rattle.nll_mir_grammar.specs.Grammars.{behind_token, pair, MayFollowAll}
use Rattle.nll_mir_grammar.specs.MirForms.{block_word, spelled_projection}
use Rattle.nll_mir_grammar.specs.MirForms.{spelled_place, spelled_operand, spelled_marks}
use Rattle.nll_mir_grammar.specs.MirForms.{spelled_parameters, spelled_exits, spelled_wheres}
use Rattle.nll_mir_grammar.specs.MirForms.{WrittenParameter, region_parameter, type_parameter}
use Rattle.nll_mir_grammar.specs.MirForms.{spelled_parameter, sign_token, drop_mark, IsShortNumber}
use Rattle.nll_mir_grammar.specs.MirForms.{IsWritableProjection, IsWritablePlace}
use Rattle.nll_mir_grammar.specs.MirForms.{IsWritableOperand, IsWritableParameter, IsWritableUnwind}

-- ---- words

-- the name of a type
abbrev pub names : Grammar WrittenName
names = record {
  spells = λ n. word n ∷ [];
  IsAllowed = λ n. is_capital n ≡ true;
  MayFollow = λ n r. Unit {0};
}

-- a variable
abbrev pub variables : Grammar ℕ
variables = prefixed (codes "_")

-- a block
abbrev pub block_names : Grammar ℕ
block_names = prefixed (codes "bb")

-- ---- places and operands

-- a projection
abbrev pub projections : Grammar Projection
projections = record {
  spells = spelled_projection;
  IsAllowed = IsWritableProjection;
  MayFollow = λ p r. Unit {0};
}

-- a place
abbrev pub places : Grammar PlacePath
places = record {
  spells = spelled_place;
  IsAllowed = IsWritablePlace;
  MayFollow = λ p r. HasNone projections r;
}

-- these may follow the operand
abbrev pub MayFollowOperand : Operand → List Token → Type 0
MayFollowOperand constant r = Unit {0}
MayFollowOperand (copied p) r = HasNone projections r
MayFollowOperand (moved p) r = HasNone projections r

-- an operand
abbrev pub operands : Grammar Operand
operands = record {
  spells = spelled_operand;
  IsAllowed = IsWritableOperand;
  MayFollow = MayFollowOperand;
}

-- ---- types

-- a type
abbrev pub types : Grammar WrittenType
types = record { spells = spelled; IsAllowed = HasNames; MayFollow = λ t r. IsFree r }

-- types as a tuple's
abbrev pub tuples : Grammar WrittenTypes
tuples = record {
  spells = λ ts. spelled (tuple ts);
  IsAllowed = λ ts. HasNames (tuple ts);
  MayFollow = λ ts r. IsFree r;
}

-- an operand and the type of its parameter
abbrev pub arguments : Grammar (Operand × WrittenType)
arguments = pair operands (behind_token (sign 58) types)

-- ---- marks

-- these may follow a mark, or come where there is none
abbrev pub MayFollowMark : Token → Bool → List Token → Type 0
MayFollowMark t true r = Unit {0}
MayFollowMark t false r = IsNotNext t r

-- a mark, where there is one
abbrev pub marks : (Bool → List Token) → Token → Grammar Bool
marks spells t = record {
  spells = spells;
  IsAllowed = λ m. Unit {0};
  MayFollow = MayFollowMark t;
}

-- `mut`, or nothing
abbrev pub mutabilities : Grammar Bool
mutabilities = marks mutability (word (codes "mut"))

-- `drop`, or nothing
abbrev pub drop_marks : Grammar Bool
drop_marks = marks drop_mark (word (codes "drop"))

-- these may follow the parameter
abbrev pub MayFollowParameter : WrittenParameter → List Token → Type 0
MayFollowParameter (region_parameter a p) r = MayFollowMark (sign 63) p.may_dangle r
MayFollowParameter (type_parameter n p) r = MayFollowMark (sign 63) p.may_dangle r

-- the sign of a parameter
abbrev pub signs : Grammar Sign
signs = record {
  spells = λ s. sign_token s ∷ [];
  IsAllowed = λ s. Unit {0};
  MayFollow = λ s r. Unit {0};
}

-- the marks of a parameter
abbrev pub parameter_marks : Grammar Parameter
parameter_marks = record {
  spells = spelled_marks;
  IsAllowed = λ p. Unit {0};
  MayFollow = λ p r. MayFollowMark (sign 63) p.may_dangle r;
}

-- a parameter of a struct
abbrev pub parameters : Grammar WrittenParameter
parameters = record {
  spells = spelled_parameter;
  IsAllowed = IsWritableParameter;
  MayFollow = MayFollowParameter;
}

-- ---- lists

-- these may follow the parameters
abbrev pub MayFollowParameters : List WrittenParameter → List Token → Type 0
MayFollowParameters [] r = IsNotNext (sign 60) r
MayFollowParameters (p ∷ ps) r = Unit {0}

-- the parameters of a struct
abbrev pub parameter_lists : Grammar (List WrittenParameter)
parameter_lists = record {
  spells = spelled_parameters;
  IsAllowed = λ ps. AllByRecursion IsWritableParameter ps;
  MayFollow = MayFollowParameters;
}

-- of two regions the first must outlive the second
abbrev pub bounds : Grammar (WrittenName × WrittenName)
bounds = pair regions (behind_token (sign 58) regions)

-- these may follow the bounds of a call
abbrev pub MayFollowBounds : List (WrittenName × WrittenName) → List Token → Type 0
MayFollowBounds [] r = IsNotNext (word (codes "where")) r
MayFollowBounds (w ∷ ws) r = MayFollowAll bounds (w ∷ ws) r

-- the bounds of a call
abbrev pub bound_lists : Grammar (List (WrittenName × WrittenName))
bound_lists = record {
  spells = spelled_wheres;
  IsAllowed = λ ws. Unit {0};
  MayFollow = MayFollowBounds;
}

-- the blocks of a switch
abbrev pub block_lists : Grammar (List ℕ)
block_lists = record {
  spells = λ bs. map block_word bs;
  IsAllowed = λ bs. (0 < length bs) × AllByRecursion IsShortNumber bs;
  MayFollow = λ bs r. HasNone block_names r;
}

-- ---- where a terminator goes on

-- these may follow the exits
abbrev pub MayFollowUnwind : Option ℕ → List Token → Type 0
MayFollowUnwind None r = IsNotNext (word (codes "unwind")) r
MayFollowUnwind (Some b) r = Unit {0}

-- the block where a terminator goes on, and that where it unwinds
abbrev pub exits : Grammar (ℕ × Option ℕ)
exits = record {
  spells = λ e. spelled_exits e.0 e.1;
  IsAllowed = λ e. IsShortNumber e.0 × IsWritableUnwind e.1;
  MayFollow = λ e r. MayFollowUnwind e.1 r;
}
