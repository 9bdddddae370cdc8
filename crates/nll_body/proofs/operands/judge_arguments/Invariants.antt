use Rattle.std.proofs.Common.{◌≡◌, List, length, map, drop}
use Rattle.std.specs.Prelude.{◌&&◌}
use Rattle.nll_types.specs.Declarations.{structs_of}
use Rattle.nll_types.specs.Rows.{shape_numbers}
use Rattle.nll_types.specs.Tables.{AddsShapes, HaveShapes}
use Rattle.nll_types.specs.Types.{TypeTree}
use Rattle.nll_types.specs.declared.typed.Typed.{Typed}
use Rattle.nll_body.specs.Judging.{operand_at}
use Rattle.nll_body.proofs.JudgedLemmas.{IsSoFar}
use Rattle.nll_body.proofs.OperandLemmas.{left_declared, rest_fits, rest_small}
use Rattle.nll_body.proofs.operands.judge_arguments.Given as goal

abbrev pub invariant-loop-place : goal.invariant-loop-place
invariant-loop-place l = AddsShapes l.fn.table l.table
    × ((l.judged.declared
    && left_declared (λ a. operand_at l.places a.0) (length l.places.variables.now) l.arguments l.place)
    ≡ left_declared (λ a. operand_at l.places a.0) (length l.places.variables.now) l.arguments 0)
    × ((types : List TypeTree) (g : Typed → TypeTree)
    → HaveShapes l.fn.table.shapes (shape_numbers l.places.variables.now) types
    → HaveShapes l.fn.table.shapes (shape_numbers (map (λ a. a.1) l.arguments)) (map (λ a. g a.1) l.arguments)
    → IsSoFar l.judged
    (rest_fits (structs_of l.fn.table.structs) types (λ a. operand_at l.places a.0) (λ a. g a.1)
    (drop l.place l.arguments))
    (rest_small (structs_of l.fn.table.structs) types (λ a. operand_at l.places a.0) (λ a. g a.1)
    (drop l.place l.arguments))
    (rest_fits (structs_of l.fn.table.structs) types (λ a. operand_at l.places a.0) (λ a. g a.1) l.arguments)
    (rest_small (structs_of l.fn.table.structs) types (λ a. operand_at l.places a.0) (λ a. g a.1) l.arguments))
