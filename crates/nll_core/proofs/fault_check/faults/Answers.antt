use Rattle.std.proofs.Common.{◌≡◌, subst, arith}
use Rattle.nll_core.specs.Outliving.{FindsUpTo}
use Rattle.nll_core.proofs.FaultLemmas.{finds_no_row, finds_all, no_fault}
use Rattle.nll_core.proofs.fault_check.faults.Goals.{then-holds_foreign_end+in_ok-add_faults, else-holds_foreign_end}
use Rattle.nll_core.proofs.fault_check.faults.Goals as goal

pub loop-longer-preserved : goal.loop-longer-preserved
loop-longer-preserved c =
    elim c.if-holds_foreign_end.branch [
      | then-holds_foreign_end+in_ok-add_faults w ↦ rw w.faults-is w.in_ok-add_faults.ensures
      | else-holds_foreign_end w ↦ rw w.faults-is
          (finds_no_row c.args.problem.now c.args.values.now _ _ c.loop-longer.invariant
          (no_fault c.args.problem.now c.args.values.now c.loop-longer.longer
          (c.holds_foreign_end.ensures w.if-holds_foreign_end.false)))
    ]

pub returns : goal.returns
returns c =
    let all : c.loop-longer.longer ≡ c.args.problem.now.graph.universals = omega arith in
    record {
      exact = finds_all c.args.problem.now c.args.values.now _
          (subst (λ n. FindsUpTo c.args.problem.now c.args.values.now c.loop-longer.faults.items n 0) all
          c.loop-longer.invariant);
    }
