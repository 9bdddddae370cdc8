use Rattle.std.proofs.Common.{◌≤◌, length, arith}
use Rattle.std.specs.Prelude.{slice_index}
use Rattle.std.proofs.lemmas.List.{take_all, take_more}
use Rattle.std.proofs.lemmas.List.Sums.{sum_by_push}
use Rattle.nll_types.proofs.shapes.count.Goals as goal

pub loop-part-preserved : goal.loop-part-preserved
loop-part-preserved c =
    let more = take_more c.args.parts.now c.loop-part.part-index 0 c.loop-part-test.true in
    rw (more, sum_by_push (λ p. slice_index c.args.sizes.now p))
    (omega (arith, c.loop-part.invariant, c.min.ensures, c.min-all.ensures))

pub returns : goal.returns
returns c =
    let past : length c.args.parts.now ≤ c.loop-part.part-index = omega arith in
    rw (take_all c.loop-part.part-index c.args.parts.now past) at c.loop-part.invariant
