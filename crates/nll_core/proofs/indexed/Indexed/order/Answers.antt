use Rattle.std.proofs.Common.{subst}
use Rattle.std.specs.Prelude.{IfOk}
use Rattle.nll_problem.specs.Problem.{Problem}
use Rattle.nll_core.specs.Worklist.{AreRegions}
use Rattle.nll_core.proofs.indexed.Indexed.order.Goals as goal

pub returns : goal.returns
returns c =
    subst (λ (q : Problem). IfOk c.order_of.result (λ order. AreRegions q order.items)) c.self.view_is
    c.order_of.ensures
