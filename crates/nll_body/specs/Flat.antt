-- Statements in flat lists: what a statement consists of goes by numbers.
-- Source: project's choice.
use Rattle.std.specs.Prelude.{ℕ, ◌-◌, ◌^◌, nat_lt, if◌then◌else◌, List, [], map, take, drop}
use Rattle.std.specs.Prelude.{Some, None, option_map, unwrap_or, slice_get}
use Rattle.nll_types.specs.Places.{PlacePath}
use Rattle.nll_types.specs.Operands.{Operand, constant, copied, moved}
use Rattle.nll_types.specs.declared.place.Projection.{Projection}
use Rattle.nll_types.specs.declared.typed.Typed.{Typed}
use Rattle.nll_body.specs.Statements.{Statement, assign, borrow, make, read, live, dead, nop}
use Rattle.nll_body.specs.Statements.{goto, switch, drop as dropping, call, return, stop}
use Rattle.nll_body.specs.declared.flat.Slice.{Slice}
use Rattle.nll_body.specs.declared.flat.PartPlace.{PartPlace}
use Rattle.nll_body.specs.declared.flat.FlatOperand.{FlatOperand}
use Rattle.nll_body.specs.declared.flat.FlatOperand.TheVariants.{Const, Copy, Move}
use Rattle.nll_body.specs.declared.flat.FlatMake.{FlatMake}
use Rattle.nll_body.specs.declared.flat.FlatCall.{FlatCall}
use Rattle.nll_body.specs.declared.flat.FlatSwitch.{FlatSwitch}
use Rattle.nll_body.specs.declared.flat.Stmt.{Stmt}
use Rattle.nll_body.specs.declared.flat.Stmt.TheVariants as flat

-- The lists: the statement or terminator at each point, and what these consist of.
pub record StatementLists : Type 0 where
  pub points : List Stmt
  pub parts : List PartPlace
  pub projections : List Projection
  pub operands : List FlatOperand
  pub arguments : List (FlatOperand × Typed)
  pub pairs : List (ℕ × ℕ)
  pub blocks : List ℕ
  pub makes : List FlatMake
  pub calls : List FlatCall
  pub switches : List FlatSwitch

-- the slice of a list, as far as the list goes
abbrev pub sliced : {X : Type 0} → List X → Slice → List X
sliced xs s = take s.count (drop s.first xs)

-- So many places have the numbers of variables, whose wholes they are. Those behind them are what
-- projections take of a variable, in the order of the list of these.
abbrev pub first_part : ℕ
first_part = 2 ^ 31

-- the whole variable
abbrev pub whole : ℕ → PlacePath
whole x = record { variable = x; projections = [] }

-- what projections take of a variable
abbrev pub part_in : StatementLists → PartPlace → PlacePath
part_in l p = record { variable = p.variable; projections = sliced l.projections p.projections }

-- the place of a number; behind the list it is a whole variable
abbrev pub path_in : StatementLists → ℕ → PlacePath
path_in l n = if nat_lt n first_part then whole n
    else unwrap_or (option_map (part_in l) (slice_get l.parts (n - first_part))) (whole n)

-- an operand whose place goes by its number
abbrev pub operand_in : StatementLists → FlatOperand → Operand
operand_in l Const = constant
operand_in l (Copy n) = copied (path_in l n)
operand_in l (Move n) = moved (path_in l n)

-- an argument whose place goes by its number
abbrev pub argument_in : StatementLists → FlatOperand × Typed → Operand × Typed
argument_in l a = (operand_in l a.0, a.1)

-- what is made of operands
abbrev pub make_in : StatementLists → FlatMake → Statement ℕ Typed
make_in l m = make (path_in l m.place) m.ty (map (operand_in l) (sliced l.operands m.operands))

-- a call with arguments and pairs
abbrev pub call_in : StatementLists → FlatCall → Statement ℕ Typed
call_in l c =
    call (path_in l c.place) (map (argument_in l) (sliced l.arguments c.arguments)) c.result
    (sliced l.pairs c.wheres) c.target c.unwind

-- a switch to blocks
abbrev pub switch_in : StatementLists → FlatSwitch → Statement ℕ Typed
switch_in l s = switch (operand_in l s.operand) (sliced l.blocks s.blocks)

-- what a number stands for in a list of these; behind the list it is a `nop`
abbrev pub listed : {X : Type 0} → (X → Statement ℕ Typed) → List X → ℕ → Statement ℕ Typed
listed meant xs n = unwrap_or (option_map meant (slice_get xs n)) nop

-- a statement, with what its numbers stand for
abbrev pub statement_in : StatementLists → Stmt → Statement ℕ Typed
statement_in l (flat.Assign p op) = assign (path_in l p) (operand_in l op)
statement_in l (flat.Borrow m p r q) = borrow (path_in l p) r m (path_in l q)
statement_in l (flat.Make n) = listed (make_in l) l.makes n
statement_in l (flat.Read p) = read (path_in l p)
statement_in l (flat.Live x) = live x
statement_in l (flat.Dead x) = dead x
statement_in l flat.Nop = nop
statement_in l (flat.Goto b) = goto b
statement_in l (flat.Switch n) = listed (switch_in l) l.switches n
statement_in l (flat.Drop x b) = dropping x b None
statement_in l (flat.DropUnwind x b unwind) = dropping x b (Some unwind)
statement_in l (flat.Call n) = listed (call_in l) l.calls n
statement_in l flat.Return = return
statement_in l flat.Stop = stop

-- the statements and terminators, one at each point
abbrev pub statements_in : StatementLists → List (Statement ℕ Typed)
statements_in l = map (statement_in l) l.points
