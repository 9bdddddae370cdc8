-- A written type as the code keeps it: pieces in the order of its text. Each begins something or
-- makes a type of what was made last; so a reference comes before the type that it points to, and
-- other parts before what they are parts of.
-- Source: project's choice.
use Rattle.std.specs.Prelude.{◌≡◌, Bool, List, [], ◌∷◌, ◌++◌, map}
use Rattle.nll_mir_grammar.specs.WrittenTypes.{WrittenName, WrittenType, WrittenTypes, Arguments}
use Rattle.nll_mir_grammar.specs.WrittenTypes.{int, reference, tuple, named, function, none, more}
use Rattle.nll_mir_grammar.specs.WrittenTypes.{no_argument, region_argument, type_argument}
use Rattle.nll_mir_grammar.specs.declared.type_text.TypePiece.{TypePiece}
use Rattle.nll_mir_grammar.specs.declared.type_text.TypePiece.TheVariants as kept

-- A piece, without where its name lies in memory.
pub data Piece : Type 0 where
  make_int : Piece
  -- a reference to the type that is made next
  begin_reference : Bool → WrittenName → Piece
  -- a row of no arguments
  begin_row : Piece
  -- the region goes to the end of the row, or the type that was made last
  add_region : WrittenName → Piece
  add_type : Piece
  -- the tuple of the row
  make_tuple : Piece
  -- a name with the row as its arguments
  make_named : WrittenName → Piece
  -- the function of the row, whose result is the type that was made last
  make_function : Piece

-- the piece that a value of the program stands for
abbrev pub plain : TypePiece → Piece
plain kept.Int = make_int
plain (kept.Reference m r) = begin_reference m r.now
plain kept.Row = begin_row
plain (kept.Region r) = add_region r.now
plain kept.Part = add_type
plain kept.Tuple = make_tuple
plain (kept.Named n) = make_named n.now
plain kept.Function = make_function

-- ---- the pieces of a type

abbrev mutual
  -- the pieces that make a type
  pub piece_steps : WrittenType → List Piece
  piece_steps int = make_int ∷ []
  piece_steps (reference r m t) = begin_reference m r ∷ piece_steps t
  piece_steps (tuple ts) = begin_row ∷ part_steps ts ++ make_tuple ∷ []
  piece_steps (named n args) = begin_row ∷ argument_steps args ++ make_named n ∷ []
  piece_steps (function ts t) = begin_row ∷ part_steps ts ++ piece_steps t ++ make_function ∷ []

  -- the pieces that make each type of a row, and append it to the row
  pub part_steps : WrittenTypes → List Piece
  part_steps none = []
  part_steps (more t ts) = piece_steps t ++ add_type ∷ part_steps ts

  -- the pieces that append arguments to a row
  pub argument_steps : Arguments → List Piece
  argument_steps no_argument = []
  argument_steps (region_argument r args) = add_region r ∷ argument_steps args
  argument_steps (type_argument t args) = piece_steps t ++ add_type ∷ argument_steps args

-- ---- the type of pieces

-- What is begun and not complete: a row with the arguments read so far, or a reference whose type
-- comes next.
pub data Begun : Type 0 where
  row : Arguments → Begun
  waiting : Bool → WrittenName → Begun

-- what is made so far, the newest first: types, and what is begun
abbrev pub MadePieces : Type 0
MadePieces = List WrittenType × List Begun

-- the newest type; an `int` where there is none
abbrev pub type_on_top : List WrittenType → WrittenType
type_on_top [] = int
type_on_top (t ∷ ts) = t

-- the newest row of arguments; no argument where no row is newest
abbrev pub row_on_top : List Begun → Arguments
row_on_top [] = no_argument
row_on_top (row args ∷ begun) = args
row_on_top (waiting m r ∷ begun) = no_argument

-- the type with the references around it that wait for it
abbrev pub with_waiting : WrittenType → List Begun → WrittenType
with_waiting t [] = t
with_waiting t (row args ∷ begun) = t
with_waiting t (waiting m r ∷ begun) = with_waiting (reference r m t) begun

-- what is begun, without the references that wait for the next type
abbrev pub without_waiting : List Begun → List Begun
without_waiting [] = []
without_waiting (row args ∷ begun) = row args ∷ begun
without_waiting (waiting m r ∷ begun) = without_waiting begun

-- the type is complete, and with it the references that wait for it
abbrev pub with_type : WrittenType → MadePieces → MadePieces
with_type t m = (with_waiting t m.1 ∷ m.0, without_waiting m.1)

-- what lies below the newest
abbrev pub below_newest : {X : Type 0} → List X → List X
below_newest [] = []
below_newest (x ∷ xs) = xs

-- arguments, and then others
abbrev pub joined_arguments : Arguments → Arguments → Arguments
joined_arguments no_argument us = us
joined_arguments (region_argument r ts) us = region_argument r (joined_arguments ts us)
joined_arguments (type_argument t ts) us = type_argument t (joined_arguments ts us)

-- the types among arguments
abbrev pub types_among : Arguments → WrittenTypes
types_among no_argument = none
types_among (region_argument r args) = types_among args
types_among (type_argument t args) = more t (types_among args)

-- what a piece makes of what is made so far
abbrev pub after_piece : Piece → MadePieces → MadePieces
after_piece make_int m = with_type int m
after_piece (begin_reference mutable r) m = (m.0, waiting mutable r ∷ m.1)
after_piece begin_row m = (m.0, row no_argument ∷ m.1)
after_piece (add_region r) m = (
  m.0,
  row (joined_arguments (row_on_top m.1) (region_argument r no_argument))
      ∷ below_newest m.1,
)
after_piece add_type m = (
  below_newest m.0,
  row (joined_arguments (row_on_top m.1) (type_argument (type_on_top m.0) no_argument))
      ∷ below_newest m.1,
)
after_piece make_tuple m = with_type (tuple (types_among (row_on_top m.1))) (m.0, below_newest m.1)
after_piece (make_named n) m = with_type (named n (row_on_top m.1)) (m.0, below_newest m.1)
after_piece make_function m =
    with_type (function (types_among (row_on_top m.1)) (type_on_top m.0))
    (below_newest m.0, below_newest m.1)

-- what pieces make of what is made so far
abbrev pub made : MadePieces → List Piece → MadePieces
made m [] = m
made m (p ∷ ps) = made (after_piece p m) ps

-- the type that pieces make
abbrev pub type_made : List Piece → WrittenType
type_made ps = type_on_top (made ([], []) ps).0

-- the type that pieces of the program say
abbrev pub written : List TypePiece → WrittenType
written ps = type_made (map plain ps)

-- The pieces are those of a type.
abbrev pub IsType : List TypePiece → Type 0
IsType ps = map plain ps ≡ piece_steps (written ps)
