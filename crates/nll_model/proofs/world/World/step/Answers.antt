use Rattle.nll_model.proofs.ReplayLemmas.{after_step}
use Rattle.nll_model.proofs.world.World.step.Goals as goal

pub invariant_of-self : goal.invariant_of-self
invariant_of-self c =
    after_step c.self.inside.problem.now c.self.inside.cut.now c.self.inside.state c.apply-result.new.self c.args.event
    c.apply-result.result c.is_err-self-inside.result c.apply-result.ensures.does c.apply-result.ensures.orderly
    (c.self.invariant.1 c.if-self.false) c.self.invariant.0 c.is_err-self-inside.ensures.value

pub returns-clause-lawful : goal.returns-clause-lawful
returns-clause-lawful c =
    (after_step c.self.inside.problem.now c.self.inside.cut.now c.self.inside.state c.apply-result.new.self c.args.event
    c.apply-result.result c.is_err-self-inside.result c.apply-result.ensures.does c.apply-result.ensures.orderly
    (c.self.invariant.1 c.if-self.false) c.self.invariant.0 c.is_err-self-inside.ensures.value).1

pub returns-clause-orderly : goal.returns-clause-orderly
returns-clause-orderly c =
    (after_step c.self.inside.problem.now c.self.inside.cut.now c.self.inside.state c.apply-result.new.self c.args.event
    c.apply-result.result c.is_err-self-inside.result c.apply-result.ensures.does c.apply-result.ensures.orderly
    (c.self.invariant.1 c.if-self.false) c.self.invariant.0 c.is_err-self-inside.ensures.value).0
