use Rattle.nll_core.specs.Order.{IsDescent}
use Rattle.nll_core.proofs.order.descend.Given as goal

abbrev pub invariant-loop : goal.invariant-loop
invariant-loop l =
    IsDescent l.regions l.descent
