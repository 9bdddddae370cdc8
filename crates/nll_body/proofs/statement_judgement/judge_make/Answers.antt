use Rattle.std.proofs.Common.{◌≡◌, ◌&&◌, map, Some, ap, ◌∙◌, arith}
use Rattle.std.specs.List.{list_all, flat_map}
use Rattle.nll_types.specs.Declarations.{structs_of}
use Rattle.nll_types.specs.Operands.{place_in}
use Rattle.nll_types.specs.Places.{type_of, small_prefixes}
use Rattle.nll_types.specs.Shapes.{is_small, shape_of}
use Rattle.nll_types.specs.Table.{shape_in}
use Rattle.nll_types.proofs.ShapingLemmas.{grows_then}
use Rattle.nll_types.proofs.NumberLemmas.{below_later, shapes_later, shape_later}
use Rattle.nll_body.specs.Flat.{sliced}
use Rattle.nll_body.specs.Judging.{operand_at, path_at}
use Rattle.nll_body.specs.TypePairs.{beside_parts, operand_types, parts_of_type}
use Rattle.nll_body.specs.Typing.{parts_are_small}
use Rattle.nll_body.proofs.MeetingLemmas.{judged_as}
use Rattle.nll_body.proofs.JudgedLemmas.{both_judged, make_order, last_agrees, target_first}
use Rattle.nll_body.proofs.statement_judgement.judge_make.Goals as goal

pub returns-clause-judged : goal.returns-clause-judged
returns-clause-judged c = λ types f g h e.
    let made = c.args.make.now in
    let structs = structs_of c.args.table.now.structs in
    let t = g made.ty in
    let p = path_at c.args.places.now made.place in
    let ops = map (operand_at c.args.places.now) (sliced c.args.places.now.statements.now.operands made.operands) in
    let shape : shape_in c.args.table.now.shapes made.ty.shape ≡ shape_of t = cc in
    let parts = (rw c.operands-operands.ensures at c.in_ok-parts.ensures.judged) types t h shape in
    let grown = c.judge_parts.ensures.grows in
    let result =
    (rw grown.structs at c.in_ok-result.ensures.judged) types t
    (shapes_later _ _ _ types grown.extends c.requires.variables h)
    (shape_later _ _ _ t grown.extends (c.requires.written 0 (omega arith)) shape) in
    let places = list_all (small_prefixes structs types) (flat_map place_in ops) in
    let pairs = beside_parts (operand_types structs types ops) (parts_of_type structs t) in
    judged_as (last_agrees pairs (Some t) (type_of structs types p))
    (make_order places (parts_are_small (parts_of_type structs t)) (is_small t) (small_prefixes structs types p))
    (both_judged _ _ _ _ _ _ _ parts result c.and.ensures.fits c.and.ensures.small)

pub returns-clause-grows : goal.returns-clause-grows
returns-clause-grows c = grows_then _ _ _ c.judge_parts.ensures.grows c.judge_given.ensures.grows

pub returns-in_err-result-clause-grows : goal.returns-in_err-result-clause-grows
returns-in_err-result-clause-grows c = grows_then _ _ _ c.judge_parts.ensures.grows c.judge_given.ensures.grows

pub judge_given-requires-clause-variables : goal.judge_given-requires-clause-variables
judge_given-requires-clause-variables c = below_later _ _ _ c.judge_parts.ensures.grows.extends c.requires.variables

pub judge_parts-requires-clause-variables : goal.judge_parts-requires-clause-variables
judge_parts-requires-clause-variables c = c.requires.variables

pub judge_parts-requires-clause-shape : goal.judge_parts-requires-clause-shape
judge_parts-requires-clause-shape c = c.requires.written 0 (omega arith)

pub judge_given-requires-clause-shape : goal.judge_given-requires-clause-shape
judge_given-requires-clause-shape c =
    let longer = c.judge_parts.ensures.grows.extends.longer in
    let below = c.requires.written 0 (omega arith) in
    omega arith

pub returns-clause-declared : goal.returns-clause-declared
returns-clause-declared c =
    target_first _ _ _ _ c.in_ok-result.ensures.declared
    (c.and.ensures.declared ∙ ap (λ z. z && c.in_ok-result.result.declared)
    (rw c.operands-operands.ensures at c.in_ok-parts.ensures.declared))
