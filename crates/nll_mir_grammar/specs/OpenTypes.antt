-- A type that is read in part: what is begun and not yet complete, and what may come next.
-- Source: project's choice. Only private contracts cite this file.
use Rattle.std.specs.Prelude.{◌≡◌, ◌⊎◌, ℕ, Bool, true, false, List, [], ◌∷◌, ◌++◌, ◌<◌, ◌≤◌, ◌+◌}
use Rattle.std.specs.Prelude.{◌*◌, length, reverse, map, codes}
use Rattle.nll_text.specs.Tokens.{Token, word, region, arrow, sign}
use Rattle.nll_mir_grammar.specs.WrittenTypes.{WrittenName, WrittenType, WrittenTypes, Arguments}
use Rattle.nll_mir_grammar.specs.WrittenTypes.{reference, tuple, named, function, none, more}
use Rattle.nll_mir_grammar.specs.WrittenTypes.{no_argument, region_argument, type_argument}
use Rattle.nll_mir_grammar.specs.WrittenTypes.{spelled, spelled_more_parts}
use Rattle.nll_mir_grammar.specs.WrittenTypes.{spelled_more_arguments, is_capital}
use Rattle.nll_mir_grammar.specs.WrittenTypes.{HasNames, HaveNames, ArgumentsHaveNames, IsFree}
use Rattle.nll_mir_grammar.specs.TypeTexts.{Piece, begin_reference, begin_row, piece_steps}
use Rattle.nll_mir_grammar.specs.TypeTexts.{part_steps, argument_steps, joined_arguments, plain}
use Rattle.nll_mir_grammar.specs.declared.type_text.TypePiece.{TypePiece}
use Rattle.nll_mir_grammar.specs.declared.fronts.Front.{Front}
use Rattle.nll_mir_grammar.specs.declared.fronts.Front.TheVariants as fronts
use Rattle.nll_mir_grammar.specs.declared.opens.State.{State}
use Rattle.nll_mir_grammar.specs.declared.opens.State.TheVariants.{Want, WantArgument, Have}
use Rattle.nll_mir_grammar.specs.declared.opens.State.TheVariants.{Inside, WantArrow}
use Rattle.nll_mir_grammar.specs.declared.opens.Open.{Open}
use Rattle.nll_mir_grammar.specs.declared.opens.Open.TheVariants as opens

-- ---- the tokens at the beginning of a type

-- The tokens begin like this, and then come others.
abbrev pub BeginsType : Front → List Token → List Token → Type 0
BeginsType fronts.Int ts rest = ts ≡ word (codes "int") ∷ rest
BeginsType fronts.Unit ts rest = ts ≡ sign 40 ∷ sign 41 ∷ rest
BeginsType fronts.Tuple ts rest =
    (ts ≡ sign 40 ∷ rest) × ((others : List Token) → rest ≡ sign 41 ∷ others → ⊥)
BeginsType (fronts.Reference r true) ts rest =
    ts ≡ sign 38 ∷ region r.now ∷ word (codes "mut") ∷ rest
BeginsType (fronts.Reference r false) ts rest =
    (ts ≡ sign 38 ∷ region r.now ∷ rest)
    × ((others : List Token) → rest ≡ word (codes "mut") ∷ others → ⊥)
BeginsType (fronts.Generic n) ts rest =
    (is_capital n.now ≡ true) × (ts ≡ word n.now ∷ sign 60 ∷ rest)
BeginsType (fronts.Name n) ts rest =
    (is_capital n.now ≡ true) × (ts ≡ word n.now ∷ rest) × IsFree rest
BeginsType fronts.Thunk ts rest = ts ≡ word (codes "fn") ∷ sign 40 ∷ sign 41 ∷ rest
BeginsType fronts.Function ts rest =
    (ts ≡ word (codes "fn") ∷ sign 40 ∷ rest)
    × ((others : List Token) → rest ≡ sign 41 ∷ others → ⊥)

-- No type begins like this.
pub record IsNoFront (ts : List Token) : Type 0 where
  pub int : (rest : List Token) → ts ≡ word (codes "int") ∷ rest → ⊥
  pub bracket : (rest : List Token) → ts ≡ sign 40 ∷ rest → ⊥
  pub reference : (q : WrittenName) (rest : List Token) → ts ≡ sign 38 ∷ region q ∷ rest → ⊥
  pub name : (s : WrittenName) (rest : List Token) → is_capital s ≡ true → ts ≡ word s ∷ rest → ⊥
  pub function : (rest : List Token) → ts ≡ word (codes "fn") ∷ sign 40 ∷ rest → ⊥

-- ---- what is begun and not complete

-- A reference, whose type comes next; a tuple, with the parts read so far; a name's arguments; a
-- function, with the arguments read so far; a function with these arguments, whose result comes
-- next.
pub data Frame : Type 0 where
  behind : WrittenName → Bool → Frame
  parts : WrittenTypes → Frame
  arguments : WrittenName → Arguments → Frame
  inputs : WrittenTypes → Frame
  output : WrittenTypes → Frame

-- types, and then others
abbrev pub joined_types : WrittenTypes → WrittenTypes → WrittenTypes
joined_types none us = us
joined_types (more t ts) us = more t (joined_types ts us)

-- the tokens begin with a type, which `<` may follow, and then come others
pub record ReadsType (tokens : List Token) (t : WrittenType) (rest : List Token) : Type 0 where
  pub joins : tokens ≡ spelled t ++ rest
  pub names : HasNames t

-- Types of a row are read, the others follow, and what all of them make goes on.
abbrev pub TypesGoOn :
    WrittenTypes → List Token → (WrittenTypes → List Token → Type 0) → Type 0
TypesGoOn done ts Then =
    (us : WrittenTypes) × (mid : List Token) × (ts ≡ spelled_more_parts us ++ mid) × HaveNames us
    × Then (joined_types done us) mid

-- The result of a function with these arguments comes after an arrow, and the function goes on.
abbrev pub ResultGoesOn :
    (WrittenType → List Token → Type 0) → WrittenTypes → List Token → Type 0
ResultGoesOn Then us ts =
    (mid : List Token) × (ts ≡ arrow ∷ mid)
    × ((u : WrittenType) × (other : List Token) × ReadsType mid u other
    × Then (function us u) other)

-- A part or an argument of the frame is complete, the others follow, and what all of them make goes
-- on.
abbrev pub RowGoesOn : Frame → List Token → (WrittenType → List Token → Type 0) → Type 0
RowGoesOn (parts done) ts Then = TypesGoOn done ts (λ us mid. Then (tuple us) mid)
RowGoesOn (arguments n done) ts Then =
    (us : Arguments) × (mid : List Token) × (ts ≡ spelled_more_arguments us ++ mid)
    × ArgumentsHaveNames us × Then (named n (joined_arguments done us)) mid
RowGoesOn (inputs done) ts Then = TypesGoOn done ts (ResultGoesOn Then)
RowGoesOn _ ts Then = ⊥

-- A type is complete; the frames, the innermost first, go on and are closed. The whole type comes
-- out, and after it the rest, which begins with no `<`.
abbrev pub Closes : List Frame → WrittenType → List Token → WrittenType → List Token → Type 0
Closes [] t ts whole rest = (t ≡ whole) × (ts ≡ rest) × IsFree rest
Closes (behind r m ∷ frames) t ts whole rest = Closes frames (reference r m t) ts whole rest
Closes (parts done ∷ frames) t ts whole rest =
    RowGoesOn (parts (joined_types done (more t none))) ts (λ u us. Closes frames u us whole rest)
Closes (arguments n done ∷ frames) t ts whole rest =
    RowGoesOn (arguments n (joined_arguments done (type_argument t no_argument))) ts
    (λ u us. Closes frames u us whole rest)
Closes (inputs done ∷ frames) t ts whole rest =
    RowGoesOn (inputs (joined_types done (more t none))) ts (λ u us. Closes frames u us whole rest)
Closes (output done ∷ frames) t ts whole rest = Closes frames (function done t) ts whole rest

-- A part or an argument of the innermost frame is complete, and the frames go on.
abbrev pub GoesInside : List Frame → List Token → WrittenType → List Token → Type 0
GoesInside [] ts whole rest = ⊥
GoesInside (f ∷ frames) ts whole rest = RowGoesOn f ts (λ u us. Closes frames u us whole rest)

-- A type comes, and the frames go on.
abbrev pub FramesGoOn : List Frame → List Token → WrittenType → List Token → Type 0
FramesGoOn frames ts whole rest =
    (t : WrittenType) × (mid : List Token) × ReadsType ts t mid × Closes frames t mid whole rest

-- A region comes as an argument of the innermost frame, and the frames go on.
abbrev pub GoesOnWithRegion : List Frame → List Token → WrittenType → List Token → Type 0
GoesOnWithRegion (arguments n done ∷ frames) ts whole rest =
    (q : WrittenName) × (mid : List Token) × (ts ≡ region q ∷ mid)
    × GoesInside (arguments n (joined_arguments done (region_argument q no_argument)) ∷ frames) mid
    whole rest
GoesOnWithRegion _ ts whole rest = ⊥

-- The tokens complete what is begun: the whole type comes out, and after it the rest. Where a type
-- is complete, it is `t`.
abbrev pub FinishesType :
    State → List Frame → WrittenType → List Token → WrittenType → List Token → Type 0
FinishesType Want frames t ts whole rest = FramesGoOn frames ts whole rest
FinishesType WantArgument frames t ts whole rest =
    GoesOnWithRegion frames ts whole rest ⊎ FramesGoOn frames ts whole rest
FinishesType Have frames t ts whole rest = Closes frames t ts whole rest
FinishesType Inside frames t ts whole rest = GoesInside frames ts whole rest
FinishesType WantArrow frames t ts whole rest =
    (mid : List Token) × (ts ≡ arrow ∷ mid) × FramesGoOn frames mid whole rest

-- From here and from there the same types come out.
pub record Steps (s : State) (frames : List Frame) (t : WrittenType) (ts : List Token)
    (s' : State) (frames' : List Frame) (t' : WrittenType) (ts' : List Token) : Type 0 where
  pub there :
      (whole : WrittenType) (rest : List Token) →
      FinishesType s frames t ts whole rest → FinishesType s' frames' t' ts' whole rest
  pub back :
      (whole : WrittenType) (rest : List Token) →
      FinishesType s' frames' t' ts' whole rest → FinishesType s frames t ts whole rest

-- No type comes out.
abbrev pub IsStuck : State → List Frame → WrittenType → List Token → Type 0
IsStuck s frames t ts =
    (whole : WrittenType) (rest : List Token) → FinishesType s frames t ts whole rest → ⊥

-- ---- pieces, and what is open

-- the pieces of what is begun, the innermost frame's last
abbrev pub begun : List Frame → List Piece
begun [] = []
begun (behind r m ∷ frames) = begun frames ++ begin_reference m r ∷ []
begun (parts done ∷ frames) = begun frames ++ begin_row ∷ part_steps done
begun (arguments n done ∷ frames) = begun frames ++ begin_row ∷ argument_steps done
begun (inputs done ∷ frames) = begun frames ++ begin_row ∷ part_steps done
begun (output done ∷ frames) = begun frames ++ begin_row ∷ part_steps done

-- the pieces of the type that is complete, where one is
abbrev pub complete : State → WrittenType → List Piece
complete Have t = piece_steps t
complete _ t = []

-- The frame is what is open, with something that is read of it.
abbrev pub IsOpen : Open → Frame → Type 0
IsOpen opens.Tuple f = (done : WrittenTypes) × (f ≡ parts done)
IsOpen (opens.Arguments n) f = (done : Arguments) × (f ≡ arguments n.now done)
IsOpen opens.Inputs f = (done : WrittenTypes) × (f ≡ inputs done)
IsOpen opens.Output f = (done : WrittenTypes) × (f ≡ output done)

-- The frames are what is open, and references among it, both the innermost first. A reference isn't
-- kept: it is complete as soon as its type is.
abbrev pub AreOpen : List Open → List Frame → Type 0
AreOpen os (behind r m ∷ frames) = AreOpen os frames
AreOpen [] [] = Unit {0}
AreOpen (o ∷ os) (f ∷ frames) = IsOpen o f × AreOpen os frames
AreOpen _ _ = ⊥

-- The state fits the frames: a reference is innermost only where its type comes next or is
-- complete.
abbrev pub IsFitting : State → List Frame → Type 0
IsFitting WantArgument (behind r m ∷ frames) = ⊥
IsFitting Inside (behind r m ∷ frames) = ⊥
IsFitting _ frames = Unit {0}

-- The pieces are those of the frames, and of the type where one is complete; the frames are what is
-- open, the innermost last.
pub record AreRead (s : State) (frames : List Frame) (t : WrittenType) (ps : List TypePiece)
    (opened : List Open) : Type 0 where
  pub pieces : map plain ps ≡ begun frames ++ complete s t
  pub are_open : AreOpen (reverse opened) frames
  pub fits : IsFitting s frames

-- how many steps that take no token may come, apart from those that complete a function
abbrev pub pending : State → ℕ
pending WantArgument = 1
pending Have = 1
pending _ = 0

-- From these frames and this type the code reached others, and the same types come out.
pub record ReachesFrames (s : State) (frames : List Frame) (t : WrittenType) (ts : List Token)
    (s' : State) (ps' : List TypePiece) (opened' : List Open) (ts' : List Token) : Type 0 where
  pub frames' : List Frame
  pub t' : WrittenType
  pub same : Steps s frames t ts s' frames' t' ts'
  pub read : AreRead s' frames' t' ps' opened'

-- The step takes some of the tokens or none, these are left, and the same types come out.
pub record GoesFurther (s : State) (frames : List Frame) (t : WrittenType) (opened : List Open)
    (ts : List Token) (s' : State) (ps' : List TypePiece) (opened' : List Open)
    (rest : List Token) : Type 0 where
  pub falls :
      length opened' + pending s' + 4 * length rest < length opened + pending s + 4 * length ts
  pub comes : ReachesFrames s frames t ts s' ps' opened' rest

-- A type began like this, and the same types come out.
pub record IsBegun (front : Front) (frames : List Frame) (t : WrittenType) (opened : List Open)
    (s' : State) (ps' : List TypePiece) (opened' : List Open) : Type 0 where
  pub comes :
      (ts rest : List Token) → BeginsType front ts rest
      → ReachesFrames Want frames t ts s' ps' opened' rest
  pub few : length opened' + pending s' ≤ length opened + 2

-- A complete type became a part of the innermost thing that was open, or completed it, and the
-- same types come out.
pub record IsCompleted (frames : List Frame) (t : WrittenType) (opened : List Open)
    (s' : State) (ps' : List TypePiece) (opened' : List Open) : Type 0 where
  pub comes : (ts : List Token) → ReachesFrames Have frames t ts s' ps' opened' ts
  pub few : length opened' + pending s' ≤ length opened

-- the innermost frame takes a region
abbrev pub takes_region : List Frame → Bool
takes_region (arguments _ _ ∷ frames) = true
takes_region _ = false

-- The sign closes what is innermost in the frames, which has parts, and this may come after a
-- comma.
abbrev pub EndsWith : List Frame → ℕ → State → Type 0
EndsWith (parts _ ∷ frames) c s = (c ≡ 41) × (s ≡ Want)
EndsWith (arguments _ _ ∷ frames) c s = (c ≡ 62) × (s ≡ WantArgument)
EndsWith (inputs _ ∷ frames) c s = (c ≡ 41) × (s ≡ Want)
EndsWith _ c s = ⊥

-- The innermost thing that was open is closed by this sign, and the same types come out.
pub record IsInnermostClosed (frames : List Frame) (t : WrittenType) (c : ℕ) (opened : List Open)
    (s' : State) (ps' : List TypePiece) (opened' : List Open) : Type 0 where
  pub comes : (ts : List Token) → ReachesFrames Inside frames t (sign c ∷ ts) s' ps' opened' ts
  pub few : length opened' + pending s' ≤ length opened + 1
