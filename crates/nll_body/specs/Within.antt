-- Numbers that stand for something in flat lists, which may grow.
-- Source: project's choice.
use Rattle.std.specs.Prelude.{◌≡◌, ℕ, ◌+◌, ◌<◌, ◌≤◌, ◌++◌, List, length, map, All}
use Rattle.nll_types.specs.Operands.{Operand}
use Rattle.nll_types.specs.Places.{PlacePath}
use Rattle.nll_sets.specs.Prefix.{IsPrefix}
use Rattle.nll_types.specs.declared.typed.Typed.{Typed}
use Rattle.nll_body.specs.Flat.{StatementLists, argument_in, first_part, operand_in, path_in}
use Rattle.nll_body.specs.Flat.{sliced, statement_in}
use Rattle.nll_body.specs.Statements.{Statement}
use Rattle.nll_body.specs.declared.flat.Slice.{Slice}
use Rattle.nll_body.specs.declared.flat.FlatOperand.{FlatOperand}
use Rattle.nll_body.specs.declared.flat.FlatOperand.TheVariants.{Const, Copy, Move}
use Rattle.nll_body.specs.declared.flat.FlatMake.{FlatMake}
use Rattle.nll_body.specs.declared.flat.FlatCall.{FlatCall}
use Rattle.nll_body.specs.declared.flat.FlatSwitch.{FlatSwitch}
use Rattle.nll_body.specs.declared.flat.Stmt.{Stmt}
use Rattle.nll_body.specs.declared.flat.Stmt.TheVariants as flat

-- the slice lies in the list
abbrev pub IsSlice : {X : Type 0} → List X → Slice → Type 0
IsSlice xs s = s.first + s.count ≤ length xs

-- the number is that of a variable, or of a place in the list
abbrev pub IsPlaceIn : StatementLists → ℕ → Type 0
IsPlaceIn l n = n < first_part + length l.parts

-- the operand's place has such a number
abbrev pub IsOperandIn : StatementLists → FlatOperand → Type 0
IsOperandIn l Const = Unit {0}
IsOperandIn l (Copy n) = IsPlaceIn l n
IsOperandIn l (Move n) = IsPlaceIn l n

-- what is made has a place and operands in the lists
abbrev pub IsMakeIn : StatementLists → FlatMake → Type 0
IsMakeIn l m = IsPlaceIn l m.place × IsSlice l.operands m.operands

-- the call has a place, arguments and pairs in the lists
abbrev pub IsCallIn : StatementLists → FlatCall → Type 0
IsCallIn l c =
    IsPlaceIn l c.place × IsSlice l.arguments c.arguments × IsSlice l.pairs c.wheres

-- the switch has an operand and blocks in the lists
abbrev pub IsSwitchIn : StatementLists → FlatSwitch → Type 0
IsSwitchIn l s = IsOperandIn l s.operand × IsSlice l.blocks s.blocks

-- each number in the statement stands for something
abbrev pub IsStatementIn : StatementLists → Stmt → Type 0
IsStatementIn l (flat.Assign p op) = IsPlaceIn l p × IsOperandIn l op
IsStatementIn l (flat.Borrow m p r q) = IsPlaceIn l p × IsPlaceIn l q
IsStatementIn l (flat.Make n) = n < length l.makes
IsStatementIn l (flat.Read p) = IsPlaceIn l p
IsStatementIn l (flat.Switch n) = n < length l.switches
IsStatementIn l (flat.Call n) = n < length l.calls
IsStatementIn l _ = Unit {0}

-- Each number in the lists stands for something.
pub record AreWithin (l : StatementLists) : Type 0 where
  pub parts : All (λ p. IsSlice l.projections p.projections) l.parts
  pub operands : All (IsOperandIn l) l.operands
  pub arguments : All (λ a. IsOperandIn l a.0) l.arguments
  pub makes : All (IsMakeIn l) l.makes
  pub calls : All (IsCallIn l) l.calls
  pub switches : All (IsSwitchIn l) l.switches
  pub points : All (IsStatementIn l) l.points

-- Each list but that of the points goes on from what it was.
pub record ListsGoOn (old new : StatementLists) : Type 0 where
  pub parts : IsPrefix old.parts new.parts
  pub projections : IsPrefix old.projections new.projections
  pub operands : IsPrefix old.operands new.operands
  pub arguments : IsPrefix old.arguments new.arguments
  pub pairs : IsPrefix old.pairs new.pairs
  pub blocks : IsPrefix old.blocks new.blocks
  pub makes : IsPrefix old.makes new.makes
  pub calls : IsPrefix old.calls new.calls
  pub switches : IsPrefix old.switches new.switches

-- The points stay, and each other list goes on from what it was.
pub record ListsGrow (old new : StatementLists) : Type 0 where
  pub points : new.points ≡ old.points
  pub lists : ListsGoOn old new

-- Places are added: the lists of what projections take of variables go on.
pub record AddsPlaces (old new : StatementLists) : Type 0 where
  pub others : new ≡ record old { parts = new.parts; projections = new.projections }
  pub parts : IsPrefix old.parts new.parts
  pub projections : IsPrefix old.projections new.projections

-- the number stands for this place
abbrev pub IsNumberOf : StatementLists → PlacePath → ℕ → Type 0
IsNumberOf l p n = IsPlaceIn l n × (path_in l n ≡ p)

-- the numbers stand for this operand
abbrev pub IsFlatOperand : StatementLists → Operand → FlatOperand → Type 0
IsFlatOperand l o op = IsOperandIn l op × (operand_in l op ≡ o)

-- the slice of the list is this
abbrev pub IsListedSlice : {X : Type 0} → List X → List X → Slice → Type 0
IsListedSlice xs ys s = IsSlice xs s × (sliced xs s ≡ ys)

-- the slice of the operands stands for these
abbrev pub AreFlatOperands : StatementLists → List Operand → Slice → Type 0
AreFlatOperands l os s = IsSlice l.operands s × (map (operand_in l) (sliced l.operands s) ≡ os)

-- the slice of the arguments stands for these
abbrev pub AreFlatArguments : StatementLists → List (Operand × Typed) → Slice → Type 0
AreFlatArguments l os s = IsSlice l.arguments s × (map (argument_in l) (sliced l.arguments s) ≡ os)

-- The arguments of calls are those that there were, and then these.
abbrev pub AddsArguments : StatementLists → StatementLists → List (Operand × Typed) → Type 0
AddsArguments old new as' =
    map (argument_in new) new.arguments ≡ map (argument_in old) old.arguments ++ as'

-- the numbers stand for this statement
abbrev pub IsFlatStatement : StatementLists → Statement ℕ Typed → Stmt → Type 0
IsFlatStatement l i s = IsStatementIn l s × (statement_in l s ≡ i)
