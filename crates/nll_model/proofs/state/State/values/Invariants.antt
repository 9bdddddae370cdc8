use Rattle.nll_model.proofs.SaysLemmas.{AreSaid}
use Rattle.nll_model.proofs.state.State.values.Given as goal

abbrev pub invariant-loop-number : goal.invariant-loop-number
invariant-loop-number l = AreSaid l.problem l.cut l.self l.number l.sets.items
