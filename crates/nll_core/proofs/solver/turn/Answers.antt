use Rattle.std.proofs.Common.{ℕ, set, false, ap}
use Rattle.nll_core.proofs.WorklistLemmas.{ok_turns}
use Rattle.nll_core.proofs.solver.turn.Goals as goal

pub returns-clause-turns : goal.returns-clause-turns
returns-clause-turns c =
    ok_turns c.args.problem.now c.args.sub c.args.values.now c.visit.new.values c.args.marks.now.items _
    c.visit.new.marks.items c.visit.result c.requires.width c.requires.tracked
    (ap (λ (i : ℕ). set c.args.marks.now.items i false) c.sub.view_is) c.visit.ensures.visits c.visit.ensures.met
