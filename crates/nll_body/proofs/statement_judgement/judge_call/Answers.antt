use Rattle.std.proofs.Common.{◌&&◌, length, ap, ◌∙◌}
use Rattle.std.specs.List.{flat_map}
use Rattle.nll_types.specs.Declarations.{structs_of}
use Rattle.nll_types.specs.Operands.{place_in}
use Rattle.nll_types.proofs.ShapingLemmas.{grows_then}
use Rattle.nll_types.proofs.NumberLemmas.{below_later, shapes_later, shape_later}
use Rattle.nll_body.specs.Flat.{operand_in, sliced}
use Rattle.nll_body.specs.Judging.{have_variables, operand_at, path_at}
use Rattle.nll_body.proofs.EffectLemmas.{operands_same}
use Rattle.nll_body.proofs.MeetingLemmas.{judged_as}
use Rattle.nll_body.proofs.JudgedLemmas.{both_judged, target_first}
use Rattle.nll_body.proofs.CallLemmas.{arguments_mapped, call_below, call_shapes, call_fits, call_small, types_kept}
use Rattle.nll_body.proofs.statement_judgement.judge_call.Goals as goal

pub returns-clause-judged : goal.returns-clause-judged
returns-clause-judged c = λ types f g h e.
    let l = c.args.places.now.statements.now in
    let called = c.args.call.now in
    let structs = structs_of c.args.table.now.structs in
    let xs = sliced l.arguments called.arguments in
    let t = g called.result in
    let p = path_at c.args.places.now called.place in
    let grown = c.judge_arguments.ensures.grows in
    let shapes = call_shapes c.args.table.now.shapes g xs called.result (rw (types_kept (operand_in l) xs) at e) in
    let inputs = (rw c.arguments-arguments.ensures at c.in_ok-inputs.ensures.judged) types g h shapes.0 in
    let below = call_below _ xs called.result (rw (types_kept (operand_in l) xs) at c.requires.written) in
    let result =
    (rw grown.structs at c.in_ok-result.ensures.judged) types t
    (shapes_later _ _ _ types grown.extends c.requires.variables h)
    (shape_later _ _ _ t grown.extends below.1 shapes.1) in
    rw (← arguments_mapped (operand_in l) g xs)
    (judged_as (call_fits structs types (λ a. operand_at c.args.places.now a.0) (λ a. g a.1) xs t p)
    (call_small structs types (λ a. operand_at c.args.places.now a.0) (λ a. g a.1) xs t p)
    (both_judged _ _ _ _ _ _ _ inputs result c.and.ensures.fits c.and.ensures.small))

pub returns-clause-grows : goal.returns-clause-grows
returns-clause-grows c = grows_then _ _ _ c.judge_arguments.ensures.grows c.judge_given.ensures.grows

pub returns-in_err-result-clause-grows : goal.returns-in_err-result-clause-grows
returns-in_err-result-clause-grows c = grows_then _ _ _ c.judge_arguments.ensures.grows c.judge_given.ensures.grows

pub judge_given-requires-clause-variables : goal.judge_given-requires-clause-variables
judge_given-requires-clause-variables c =
    below_later _ _ _ c.judge_arguments.ensures.grows.extends c.requires.variables

pub judge_arguments-requires-clause-variables : goal.judge_arguments-requires-clause-variables
judge_arguments-requires-clause-variables c = c.requires.variables

pub judge_arguments-requires-clause-written : goal.judge_arguments-requires-clause-written
judge_arguments-requires-clause-written c =
    let l = c.args.places.now.statements.now in
    let xs = sliced l.arguments c.args.call.now.arguments in
    rw c.arguments-arguments.ensures
    (call_below _ xs c.args.call.now.result (rw (types_kept (operand_in l) xs) at c.requires.written)).0

pub judge_given-requires-clause-shape : goal.judge_given-requires-clause-shape
judge_given-requires-clause-shape c =
    let l = c.args.places.now.statements.now in
    let xs = sliced l.arguments c.args.call.now.arguments in
    (call_below _ xs c.args.call.now.result (below_later _ _ _ c.judge_arguments.ensures.grows.extends
    (rw (types_kept (operand_in l) xs) at c.requires.written))).1

pub returns-clause-declared : goal.returns-clause-declared
returns-clause-declared c =
    let l = c.args.places.now.statements.now in
    let xs = sliced l.arguments c.args.call.now.arguments in
    target_first _ _ _ _ c.in_ok-result.ensures.declared
    (c.and.ensures.declared ∙ ap (λ z. z && c.in_ok-result.result.declared)
    ((rw c.arguments-arguments.ensures at c.in_ok-inputs.ensures.declared)
    ∙ ap (λ ops. have_variables (length c.args.places.now.variables.now) (flat_map place_in ops))
    (operands_same (operand_in l) xs)))
