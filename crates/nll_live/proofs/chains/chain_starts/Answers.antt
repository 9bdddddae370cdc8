use Rattle.std.proofs.Common.{◌≡◌, ◌+◌, ℕ, subst, sym, arith}
use Rattle.nll_problem.specs.Graph.{IsNext}
use Rattle.nll_live.specs.Chains.{HaveStarts}
use Rattle.nll_live.proofs.ChainLemmas.{starts_step}
use Rattle.nll_live.proofs.chains.chain_starts.Goals as goal

pub loop-point-preserved : goal.loop-point-preserved
loop-point-preserved c =
    subst (HaveStarts (IsNext c.args.previous.now) (c.loop-point.point + 1)) (sym c.in_ok-push.ensures.items)
    (starts_step (IsNext c.args.previous.now) c.loop-point.point c.loop-point.starts.items c.start_of-start.result
    c.loop-point.invariant c.start_of-start.ensures.before c.start_of-start.ensures.chain)

pub returns : goal.returns
returns c =
    let all : c.loop-point.point ≡ c.args.points = omega arith in
    subst (λ (n : ℕ). HaveStarts (IsNext c.args.previous.now) n c.loop-point.starts.items) all c.loop-point.invariant
