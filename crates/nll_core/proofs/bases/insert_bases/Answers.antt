use Rattle.std.proofs.Common.{◌-◌, ◌<◌, Contains, List, subst, sym, refl, arith}
use Rattle.std.proofs.lemmas.List.{take_all}
use Rattle.nll_problem.specs.BaseRuns.{IsInBaseRuns}
use Rattle.nll_problem.specs.declared.base_run.BaseRun.{BaseRun}
use Rattle.nll_problem.proofs.BaseRunLemmas.{run_there}
use Rattle.nll_core.proofs.SolverLemmas.{listing_first, listing_more}
use Rattle.nll_core.proofs.bases.insert_bases.Goals as goal
use Rattle.nll_core.proofs.bases.insert_bases.Goals.{After-run-item}

-- the run is one of the problem's
there : (c : After-run-item) → Contains c.base_runs-runs.result.now c.run-item.result
there c =
    run_there c.base_runs-runs.result.now c.loop-run.run-index c.run-item.result c.loop-run-test.true c.run-item.is

proper : (c : After-run-item) → c.run-item.result.first < c.run-item.result.end
proper c = c.base_runs-runs.ensures.least.proper c.run-item.result (there c)

-- and so its last point is a base element
last : (c : After-run-item) → Contains c.args.problem.now.bases (c.run-item.result.region, c.run-item.result.end - 1)
last c =
    (c.base_runs-runs.ensures.each c.run-item.result.region (c.run-item.result.end - 1)).0
    (c.run-item.result, there c, (refl, omega (arith, proper c), omega (arith, proper c)))

pub insert_run-requires-clause-region : goal.insert_run-requires-clause-region
insert_run-requires-clause-region c =
    let range =
    c.base_runs-runs.ensures.sound.bases_in_range _ _
    (last (goal.at.insert_run-requires-clause-region c).After-run-item) in
    omega (arith, range.0, c.loop-run.invariant.gains.width, c.requires.regions)

pub points-requires : goal.points-requires
points-requires c = proper (goal.at.points-requires c).After-run-item

pub insert_run-requires-clause-proper : goal.insert_run-requires-clause-proper
insert_run-requires-clause-proper c =
    omega (
      arith,
      proper (goal.at.insert_run-requires-clause-proper c).After-run-item,
      c.points.ensures.first,
      c.points.ensures.last,
    )

pub insert_run-requires-clause-below : goal.insert_run-requires-clause-below
insert_run-requires-clause-below c =
    let range =
    c.base_runs-runs.ensures.sound.bases_in_range _ _
    (last (goal.at.insert_run-requires-clause-below c).After-run-item) in
    omega (
      arith,
      range.1,
      c.points.ensures.last,
      c.loop-run.invariant.gains.widths c.run-item.result.region,
      c.requires.elements c.run-item.result.region range.0,
    )

pub loop-run-init : goal.loop-run-init
loop-run-init c = listing_first c.args.problem.now c.base_runs-runs.result.now c.args.values.now

pub loop-run-preserved : goal.loop-run-preserved
loop-run-preserved c =
    listing_more c.args.problem.now c.base_runs-runs.result.now _ _ _ c.loop-run.run-index c.run-item.result
    c.points.result c.points.ensures.first c.points.ensures.last c.loop-run-test.true c.run-item.is
    c.base_runs-runs.ensures.each c.loop-run.invariant c.in_ok-insert_run.ensures.gains
    c.in_ok-insert_run.ensures.covers

pub returns-clause-covers : goal.returns-clause-covers
returns-clause-covers c = λ r e h. c.loop-run.invariant.covers r e
    (subst (λ (xs : List BaseRun). IsInBaseRuns xs r e)
    (sym (take_all c.loop-run.run-index c.base_runs-runs.result.now (omega arith)))
    ((c.base_runs-runs.ensures.each r e).1 h))
