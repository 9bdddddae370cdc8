use Rattle.std.proofs.Common.{◌<◌, ◌≤◌, length, sym, refl, ap, arith}
use Rattle.std.specs.Prelude.{◌&&◌, Option, map}
use Rattle.std.specs.List.{list_all, flat_map}
use Rattle.std.proofs.lemmas.List.{get_or_default}
use Rattle.nll_types.specs.Declarations.{structs_of}
use Rattle.nll_types.specs.Operands.{place_in}
use Rattle.nll_types.specs.Places.{small_prefixes}
use Rattle.nll_types.specs.Types.{TypeTrees}
use Rattle.nll_types.proofs.ShapingLemmas.{grows_then}
use Rattle.nll_body.specs.Judging.{operand_at}
use Rattle.nll_body.specs.TypePairs.{operand_types}
use Rattle.nll_body.specs.Typing.{parts_are_small}
use Rattle.nll_types.proofs.NumberLemmas.{below_later, shapes_later, shape_later}
use Rattle.nll_body.proofs.MeetingLemmas.{judged_as}
use Rattle.nll_body.proofs.OperandLemmas.{declared_all, declared_more, makes, makes_none, no_part, part_shape, parts_there, parts_counted, part_behind, parts_more, parts_all, row_next}
use Rattle.nll_body.proofs.operands.judge_parts.Goals as goal

pub returns-then-not-has_parts-clause-judged : goal.returns-then-not-has_parts-clause-judged
returns-then-not-has_parts-clause-judged c = λ types t h e.
    judged_as (sym (makes_none (structs_of c.args.table.now.structs) types t (operand_at c.args.places.now)
    c.args.operands.now c.has_parts.result (c.has_parts.ensures t e) c.if-not-has_parts.true)) refl
    (c.unfit.ensures.judged _)

pub loop-place-preserved : goal.loop-place-preserved
loop-place-preserved c =
    let on = c.loop-place.invariant in
    let structs = structs_of c.args.table.now.structs in
    let ops = c.args.operands.now in
    let k = c.loop-place.place in
    let within : k < length ops = omega arith in (
      grows_then _ _ _ on.0 (grows_then _ _ _ c.part.ensures.grows c.judge_operand.ensures.grows),
      declared_more (operand_at c.args.places.now) (length c.args.places.now.variables.now) ops k _ _ _ _ _ within
          (get_or_default ops k _ _ within) on.1 c.in_ok-one.ensures.declared c.and-judged.ensures.declared,
      λ types t ts h e is.
          let has = (c.has_parts.ensures t e).0 c.if-not-has_parts.false in
          let count = parts_counted structs t (length ops) ts has is in
          let row = row_next ts k (omega arith) in
          let at = rw (c.in-Some.is, on.0.structs) at c.in_ok-part.ensures.at in
          let grown = grows_then _ _ _ on.0 c.part.ensures.grows in
          let judged =
          (rw grown.structs at c.in_ok-one.ensures.judged) types row.0
          (shapes_later _ _ _ types grown.extends c.requires.variables h)
          (part_shape structs c.loop-place.table.shapes c.part.new.self.shapes c.args.shape c.in-Some.part k t row.0 at
          (shape_later _ _ _ t on.0.extends c.requires.shape e) (part_behind structs t ts k row.0 is row.1)) in
          parts_more structs types (operand_at c.args.places.now) ops ts k _ row.0 c.loop-place.judged
          c.in_ok-one.one _ _ _ within (get_or_default ops k _ _ within) row.2
          (on.2 types t ts h e is) judged c.and-judged.ensures.fits c.and-judged.ensures.small,
    )

pub returns-clause-judged : goal.returns-clause-judged
returns-clause-judged c = λ types t h e.
    let on = c.loop-place.invariant in
    let structs = structs_of c.args.table.now.structs in
    let ops = c.args.operands.now in
    let has = (c.has_parts.ensures t e).0 c.if-not-has_parts.false in
    let parts = parts_there structs t (length ops) has in
    let op = operand_at c.args.places.now in
    let past : length ops ≤ c.loop-place.place = omega arith in
    let judged =
    parts_all structs types op ops parts.0 c.loop-place.place c.loop-place.judged _ _ past parts.2
    (on.2 types t parts.0 h e parts.1) in
    judged_as (ap (makes (operand_types structs types (map op ops))) (sym parts.1))
    (ap (λ (z : Option TypeTrees). list_all (small_prefixes structs types) (flat_map place_in (map op ops))
    && parts_are_small z) (sym parts.1)) judged

pub returns-clause-grows : goal.returns-clause-grows
returns-clause-grows c = c.loop-place.invariant.0

pub judge_operand-requires-clause-variables : goal.judge_operand-requires-clause-variables
judge_operand-requires-clause-variables c =
    below_later _ _ _ (grows_then _ _ _ c.loop-place.invariant.0 c.part.ensures.grows).extends c.requires.variables

pub returns-in_err-part-clause-grows : goal.returns-in_err-part-clause-grows
returns-in_err-part-clause-grows c = grows_then _ _ _ c.loop-place.invariant.0 c.part.ensures.grows

pub returns-in_err-one-clause-grows : goal.returns-in_err-one-clause-grows
returns-in_err-one-clause-grows c =
    grows_then _ _ _ c.loop-place.invariant.0 (grows_then _ _ _ c.part.ensures.grows c.judge_operand.ensures.grows)

pub returns-in_default-clause-grows : goal.returns-in_default-clause-grows
returns-in_default-clause-grows c = grows_then _ _ _ c.loop-place.invariant.0 c.part.ensures.grows

pub returns-in_default-clause-judged : goal.returns-in_default-clause-judged
returns-in_default-clause-judged c = λ types t h e.
    let on = c.loop-place.invariant in
    let structs = structs_of c.args.table.now.structs in
    let k = c.loop-place.place in
    let n = length c.args.operands.now in
    let has = (c.has_parts.ensures t e).0 c.if-not-has_parts.false in
    let parts = parts_there structs t n has in
    let count = parts_counted structs t n parts.0 has parts.1 in
    let row = row_next parts.0 k (omega arith) in
    absurd (no_part structs c.loop-place.table.shapes c.args.shape k t row.0
    (rw (c.in_default.is, on.0.structs) at c.in_ok-part.ensures.at)
    (shape_later _ _ _ t on.0.extends c.requires.shape e) (part_behind structs t parts.0 k row.0 parts.1 row.1))

pub returns-clause-declared : goal.returns-clause-declared
returns-clause-declared c =
    let past : length c.args.operands.now ≤ c.loop-place.place = omega arith in
    declared_all (operand_at c.args.places.now) (length c.args.places.now.variables.now) c.args.operands.now
    c.loop-place.place _ _ past c.loop-place.invariant.1
