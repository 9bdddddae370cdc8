use Rattle.std.proofs.Common.{◌∙◌, Some, ap, arith, length, sym}
use Rattle.std.proofs.lemmas.Option.{slice_get-get_or}
use Rattle.nll_rules.proofs.RowListLemmas.{part_whole}
use Rattle.nll_rules.proofs.TypeRowLemmas.{no_type, part_between, starts_counted, type_there}
use Rattle.nll_rules.proofs.part_rows.tuple_part.Goals as goal
use Rattle.nll_rules.proofs.part_rows.tuple_part.Goals.{then-place-parts-via-then-place-parts, then-place-parts-via-else-place-parts+then-place-starts}

pub returns-then-place-parts : goal.returns-then-place-parts
returns-then-place-parts c ts at count row =
    let l = starts_counted c.args.starts.now ts at in
    elim c.then-place-parts.branch [
      | then-place-parts-via-then-place-parts w ↦ no_type ts c.args.place (omega (arith, w.if-place-parts.true))
      | then-place-parts-via-else-place-parts+then-place-starts w ↦
          no_type ts c.args.place (omega (arith, w.if-place-starts.true))
    ]

pub returns : goal.returns
returns c ts at count row =
    let there = type_there ts c.args.place (omega (arith, c.if-place-parts.false)) in
    let b = part_between _ c.args.starts.now ts c.args.place there.0 at row there.1 in
    let part = c.slice.ensures.row b.onward b.within in (
      there.0,
      there.1,
      slice_get-get_or c.args.parts.now c.args.place 0 c.if-place-parts.false ∙ ap Some (sym c.slice.ensures.shape),
      part.0 ∙ b.part,
      ap length part.0 ∙ part_whole _ _ _ b.onward b.within ∙ sym part.1,
    )
