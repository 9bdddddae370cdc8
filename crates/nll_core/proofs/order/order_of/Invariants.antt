use Rattle.nll_core.specs.Order.{IsDescent}
use Rattle.nll_core.proofs.order.order_of.Given as goal

abbrev pub invariant-loop-root : goal.invariant-loop-root
invariant-loop-root l =
    IsDescent l.problem.regions l.descent
