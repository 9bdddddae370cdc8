use Rattle.std.proofs.Common.{List, Contains, subst}
use Rattle.nll_problem.specs.declared.at.At.{At}
use Rattle.nll_tests.proofs.frontiers.write_grown.Goals as goal

pub loop-run-preserved : goal.loop-run-preserved
loop-run-preserved c = record {
  width = c.in_ok-grow.ensures.width;
  fits = c.in_ok-grow.ensures.fits;
  whole = c.in_ok-grow.ensures.whole;
  starts = λ p h. c.loop-run.invariant.starts p (subst (λ (ps : List At). Contains ps p) c.grow.ensures.starts h);
  reached = c.in_ok-grow.ensures.reached;
}
