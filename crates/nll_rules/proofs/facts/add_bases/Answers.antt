use Rattle.std.proofs.Common.{ℕ, ◌-◌, ◌<◌, ◌≤◌, List, ap, refl, sym, subst, arith}
use Rattle.std.proofs.lemmas.List.{take_all}
use Rattle.nll_problem.specs.BaseRuns.{IsProper}
use Rattle.nll_problem.specs.Problem.{Problem}
use Rattle.nll_problem.specs.declared.base_run.BaseRun.{BaseRun}
use Rattle.nll_problem.proofs.BaseRunLemmas.{run_there}
use Rattle.nll_rules.specs.Adding.{AddsBases}
use Rattle.nll_rules.proofs.AddingLemmas.{bases_none, bases_more}
use Rattle.nll_rules.proofs.facts.add_bases.Goals as goal
use Rattle.nll_rules.proofs.facts.add_bases.Goals.{After-run-item}

pub loop-run-init : goal.loop-run-init
loop-run-init c = bases_none c.args.builder.now

-- the run is of a region and of points of the problem
known : (c : After-run-item) → IsProper c.run-item.result
    → (c.run-item.result.region < c.loop-run.builder.regions)
    × (c.run-item.result.end ≤ c.loop-run.builder.graph.points)
known c proper =
    let run = c.run-item.result in
    let kept = c.loop-run.invariant.others in
    let there = run_there c.args.runs.now c.loop-run.run-index run c.loop-run-test.true c.run-item.is in
    let old = c.requires run.region (run.end - 1) (
      run,
      there,
      (
        refl,
        omega (arith, proper),
        omega
            (arith, proper),
      ),
    ) in (
      subst (λ (n : ℕ). run.region < n) (sym (ap (λ (q : Problem). q.regions) kept)) old.0,
      subst (λ (n : ℕ). run.end ≤ n) (sym (ap (λ (q : Problem). q.graph.points) kept)) (omega (arith, old.1)),
    )

pub add_run-requires-clause-region : goal.add_run-requires-clause-region
add_run-requires-clause-region c = λ proper. (known (goal.at.add_run-requires-clause-region c).After-run-item proper).0

pub add_run-requires-clause-points : goal.add_run-requires-clause-points
add_run-requires-clause-points c = λ proper. (known (goal.at.add_run-requires-clause-points c).After-run-item proper).1

pub loop-run-preserved : goal.loop-run-preserved
loop-run-preserved c =
    bases_more c.args.runs.now c.loop-run.run-index c.run-item.result c.loop-run-test.true c.run-item.is
    c.args.builder.now c.loop-run.builder c.add_run.new.builder c.loop-run.invariant c.in_ok-add_run.ensures.ok
    c.add_run.ensures.others

pub returns-clause-ok : goal.returns-clause-ok
returns-clause-ok c =
    subst (λ (xs : List BaseRun). AddsBases xs c.args.builder.now c.loop-run.builder)
    (take_all c.loop-run.run-index c.args.runs.now (omega arith)) c.loop-run.invariant
