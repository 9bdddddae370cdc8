use Rattle.std.proofs.Common.{refl, ⊎_elim, rules, arith}
use Rattle.std.proofs.lemmas.Bool.{cases_lt}
use Rattle.nll_problem.proofs.fact_lists.has_run.Goals as goal

pub loop-point-init : goal.loop-point-init
loop-point-init c = record {
  behind = omega arith;
  covered = λ p low high. absurd (omega (arith, low, high));
}

pub returns-then-end-point : goal.returns-then-end-point
returns-then-end-point c = (
  λ h. absurd (search rules),
  λ there.
      let own = there c.loop-point.point (refl, c.loop-point.invariant.behind, c.loop-point-test.true) in
      absurd (omega (arith, c.reach-end.ensures.begun own, c.if-end-point.true)),
)

pub loop-point-preserved : goal.loop-point-preserved
loop-point-preserved c = record {
  behind = omega (arith, c.loop-point.invariant.behind, c.reach-end.ensures.behind);
  covered = λ p low high. ⊎_elim
      (λ own. c.loop-point.invariant.covered p low own)
      (λ past. c.reach-end.ensures.covered p past high)
      (cases_lt p c.loop-point.point);
}

pub returns : goal.returns
returns c = (
  λ _ p own. c.loop-point.invariant.covered p own.1 (omega (arith, own.2, c.loop-point-test.false)),
  λ _. search rules,
)
