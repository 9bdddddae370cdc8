use Rattle.std.proofs.Common.{◌<◌, ◌≤◌, length, arith}
use Rattle.std.proofs.lemmas.List.{get_or_default}
use Rattle.nll_types.specs.Declarations.{structs_of}
use Rattle.nll_body.specs.Judging.{operand_at}
use Rattle.nll_types.proofs.ShapingLemmas.{grows_then}
use Rattle.nll_types.proofs.NumberLemmas.{below_later, shapes_later, shape_later}
use Rattle.nll_body.proofs.OperandLemmas.{argument_below, argument_shape, arguments_more, arguments_all, declared_more, declared_all}
use Rattle.nll_body.proofs.operands.judge_arguments.Goals as goal

pub loop-place-preserved : goal.loop-place-preserved
loop-place-preserved c =
    let on = c.loop-place.invariant in
    let structs = structs_of c.args.table.now.structs in
    let xs = c.args.arguments.now in
    let k = c.loop-place.place in
    let within : k < length xs = omega arith in (
      grows_then _ _ _ on.0 c.judge_operand.ensures.grows,
      declared_more (λ a. operand_at c.args.places.now a.0) (length c.args.places.now.variables.now) xs k _ _ _ _ _
          within (get_or_default xs k _ _ within) on.1 c.in_ok-one.ensures.declared c.and-judged.ensures.declared,
      λ types f h e.
          let judged =
          (rw on.0.structs at c.in_ok-one.ensures.judged) types _
          (shapes_later _ _ _ types on.0.extends c.requires.variables h)
          (shape_later _ _ _ _ on.0.extends
          (argument_below _ xs k _ within (get_or_default xs k _ _ within) c.requires.written)
          (argument_shape c.args.table.now.shapes f xs k _ within (get_or_default xs k _ _ within) e)) in
          arguments_more structs types (λ a. operand_at c.args.places.now a.0)
          (λ a. f a.1) xs k _ c.loop-place.judged c.in_ok-one.one _ _ _ within (get_or_default xs k _ _ within)
          (on.2 types f h e) judged c.and-judged.ensures.fits c.and-judged.ensures.small,
    )

pub judge_operand-requires-clause-shape : goal.judge_operand-requires-clause-shape
judge_operand-requires-clause-shape c =
    let xs = c.args.arguments.now in
    let k = c.loop-place.place in
    let within : k < length xs = omega arith in
    argument_below _ xs k _ within (get_or_default xs k _ _ within)
    (below_later _ _ _ c.loop-place.invariant.0.extends c.requires.written)

pub returns-clause-judged : goal.returns-clause-judged
returns-clause-judged c = λ types f h e.
    let past : length c.args.arguments.now ≤ c.loop-place.place = omega arith in
    arguments_all (structs_of c.args.table.now.structs) types (λ a. operand_at c.args.places.now a.0)
    (λ a. f a.1) c.args.arguments.now c.loop-place.place c.loop-place.judged _ _ past
    (c.loop-place.invariant.2 types f h e)

pub returns-clause-grows : goal.returns-clause-grows
returns-clause-grows c = c.loop-place.invariant.0

pub judge_operand-requires-clause-variables : goal.judge_operand-requires-clause-variables
judge_operand-requires-clause-variables c = below_later _ _ _ c.loop-place.invariant.0.extends c.requires.variables

pub returns-in_err-one-clause-grows : goal.returns-in_err-one-clause-grows
returns-in_err-one-clause-grows c = grows_then _ _ _ c.loop-place.invariant.0 c.judge_operand.ensures.grows

pub returns-clause-declared : goal.returns-clause-declared
returns-clause-declared c =
    let past : length c.args.arguments.now ≤ c.loop-place.place = omega arith in
    declared_all (λ a. operand_at c.args.places.now a.0) (length c.args.places.now.variables.now) c.args.arguments.now
    c.loop-place.place _ _ past c.loop-place.invariant.1
