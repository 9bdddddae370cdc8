use Rattle.std.proofs.Common.{◌-◌, arith}
use Rattle.std.specs.Prelude.{slice_index}
use Rattle.nll_problem.specs.Graph.{IsNext}
use Rattle.nll_live.proofs.ChainLemmas.{alone_before, chain_step}
use Rattle.nll_live.proofs.chains.start_of.Goals as goal

pub returns-then-points-point-clause-chain : goal.returns-then-points-point-clause-chain
returns-then-points-point-clause-chain c =
    chain_step (IsNext c.args.previous.now) (slice_index c.args.starts.now (c.args.point - 1))
    (c.args.point - 1) c.args.point (omega arith)
    (c.requires.starts.chain (c.args.point - 1) (omega arith))
    (alone_before (IsNext c.args.previous.now) c.previous_of-points.result.now c.args.point
    c.previous_of-points.ensures.each (omega arith) (omega arith) c.if-points-point.true)
