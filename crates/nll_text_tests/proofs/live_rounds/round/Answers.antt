use Rattle.std.proofs.Common.{arith}
use Rattle.nll_text_tests.proofs.LiveRoundLemmas.{rounding_first, rounding_more, rounding_closed}
use Rattle.nll_text_tests.proofs.live_rounds.round.Goals as goal

pub loop-point-init : goal.loop-point-init
loop-point-init c = rounding_first c.args.body.now c.args.variable c.args.flags.now.items

pub loop-point-preserved : goal.loop-point-preserved
loop-point-preserved c =
    rounding_more c.args.body.now c.args.variable _ _ _ _ _ _ c.loop-point.invariant c.visit-new.ensures.flags
    c.visit-new.ensures.same c.visit-new.ensures.fewer c.visit-new.ensures.closed

pub returns-clause-closed : goal.returns-clause-closed
returns-clause-closed c =
    rounding_closed c.args.body.now c.args.variable _ _ _ c.loop-point.point (omega arith) c.loop-point.invariant
