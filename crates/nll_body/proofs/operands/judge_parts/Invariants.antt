use Rattle.std.proofs.Common.{◌≡◌, List, length, Some}
use Rattle.std.specs.Prelude.{◌&&◌}
use Rattle.nll_types.specs.Declarations.{structs_of}
use Rattle.nll_types.specs.Rows.{shape_numbers}
use Rattle.nll_types.specs.Shapes.{shape_of}
use Rattle.nll_types.specs.Table.{shape_in}
use Rattle.nll_types.specs.Tables.{AddsShapes, HaveShapes}
use Rattle.nll_types.specs.Types.{TypeTree, TypeTrees}
use Rattle.nll_body.specs.Judging.{operand_at}
use Rattle.nll_body.specs.TypePairs.{parts_of_type}
use Rattle.nll_body.proofs.JudgedLemmas.{IsSoFar}
use Rattle.nll_body.proofs.OperandLemmas.{left_declared, left_fits, left_small}
use Rattle.nll_body.proofs.operands.judge_parts.Given as goal

abbrev pub invariant-loop-place : goal.invariant-loop-place
invariant-loop-place l = AddsShapes l.fn.table l.table
    × ((l.judged.declared && left_declared (operand_at l.places) (length l.places.variables.now) l.operands l.place)
    ≡ left_declared (operand_at l.places) (length l.places.variables.now) l.operands 0)
    × ((types : List TypeTree) (t : TypeTree) (ts : TypeTrees)
    → HaveShapes l.fn.table.shapes (shape_numbers l.places.variables.now) types
    → shape_in l.fn.table.shapes l.shape ≡ shape_of t → parts_of_type (structs_of l.fn.table.structs) t ≡ Some ts
    → IsSoFar l.judged
    (left_fits (structs_of l.fn.table.structs) types (operand_at l.places) l.operands ts l.place)
    (left_small (structs_of l.fn.table.structs) types (operand_at l.places) l.operands ts l.place)
    (left_fits (structs_of l.fn.table.structs) types (operand_at l.places) l.operands ts 0)
    (left_small (structs_of l.fn.table.structs) types (operand_at l.places) l.operands ts 0))
