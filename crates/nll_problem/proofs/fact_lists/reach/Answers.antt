use Rattle.std.proofs.Common.{◌≡◌, ◌≤◌, ℕ, sym, ap, ◌∙◌, subst, ⊎_elim, arith}
use Rattle.std.proofs.lemmas.Bool.{cases_lt}
use Rattle.std.proofs.lemmas.List.{get_or_default}
use Rattle.nll_problem.specs.BaseRuns.{IsInBaseRun}
use Rattle.nll_problem.specs.Merging.{run_at}
use Rattle.nll_problem.specs.declared.base_run.BaseRun.{BaseRun}
use Rattle.nll_problem.proofs.MergingLemmas.{in_first, no_run}
use Rattle.nll_problem.proofs.fact_lists.reach.Goals as goal

pub loop-run-init : goal.loop-run-init
loop-run-init c = record {
  behind = omega arith;
  covered = λ p low high. absurd (omega (arith, low, high));
  begun = λ k low. absurd (omega (arith, low));
}

pub loop-run-preserved : goal.loop-run-preserved
loop-run-preserved c =
    let runs = c.args.runs.now in
    let i = c.loop-run.run-index in
    let before = c.loop-run.invariant in
    let on = c.reach_on-end.ensures in
    let behind : c.args.point ≤ c.reach_on-end.result = omega (arith, before.behind, on.behind) in record {
      behind = behind;
      covered = λ p low high. ⊎_elim
          (λ own. before.covered p low own)
          (λ past. (c.run-item.result, (i, c.loop-run-test.true, sym c.run-item.is), on.covered p past high))
          (cases_lt p c.loop-run.end);
      begun = λ k low own. ⊎_elim
          (λ old. omega (arith, before.begun k old own, on.behind))
          (λ last. on.begun c.args.point before.behind
          (subst (λ (t : BaseRun). IsInBaseRun t c.args.region c.args.point)
          (at_end k (omega (arith, low, last))) own))
          (cases_lt k i);
    }
  where
    at_end : (k : ℕ) → k ≡ c.loop-run.run-index → run_at c.args.runs.now k ≡ c.run-item.result
    at_end k is = ap (run_at c.args.runs.now) is
        ∙ (get_or_default c.args.runs.now c.loop-run.run-index no_run c.run-item.result c.loop-run-test.true
        ∙ sym c.run-item.is)

pub returns-clause-covered : goal.returns-clause-covered
returns-clause-covered c = c.loop-run.invariant.covered

pub returns-clause-begun : goal.returns-clause-begun
returns-clause-begun c = λ h.
    let at = (in_first c.args.runs.now c.args.region c.args.point).0 h in
    c.loop-run.invariant.begun at.0 (omega (arith, at.1, c.loop-run-test.false)) at.2

pub returns-clause-behind : goal.returns-clause-behind
returns-clause-behind c = c.loop-run.invariant.behind
