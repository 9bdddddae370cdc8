use Rattle.std.proofs.Common.{◌<◌, ◌≤◌, ap, refl, rules}
use Rattle.std.proofs.lemmas.Bool.{false≢true}
use Rattle.nll_problem.specs.BaseRuns.{AddsRun, IsProper, facts_of_runs}
use Rattle.nll_problem.specs.Bases.{distinct}
use Rattle.nll_problem.specs.Problem.{problem_of}
use Rattle.nll_problem.proofs.BaseLemmas.{distinct_once}
use Rattle.nll_problem.proofs.BaseRunLemmas.{adds_run, all_there, proper_push}
use Rattle.nll_problem.proofs.ProblemLemmas.{sound_run}
use Rattle.nll_problem.proofs.builder.ProblemBuilder.base_run.Goals as goal

pub invariant_of-self : goal.invariant_of-self
invariant_of-self c = rw c.in_err-push_run.ensures.err c.self.invariant

pub invariant_of-self-2 : goal.invariant_of-self-2
invariant_of-self-2 c =
    let items = c.self.inside.bases.items in
    let adds : AddsRun (distinct (facts_of_runs items)) (distinct (facts_of_runs c.push_run.new.runs.items))
    c.args.run =
    rw c.in_ok-push_run.ensures.ok (adds_run items c.args.run) in
    let region : c.args.run.region < c.args.self.now.regions = search rules in
    let proper : IsProper c.args.run = search rules in
    let points : c.args.run.end ≤ c.args.self.now.graph.points = search rules in (
      sound_run _ c.self.invariant.0 _ c.args.run (λ r p. (adds.each r p).0)
          (distinct_once (facts_of_runs c.push_run.new.runs.items))
          (rw (← c.self.view_is) at region) (rw (← c.self.view_is) at points),
      c.self.invariant.1,
      λ run h. proper_push items c.args.run c.self.invariant.2 proper run (c.push_run.ensures.each run h),
    )

pub returns-clause-ok : goal.returns-clause-ok
returns-clause-ok c =
    rw (← c.self.view_is, c.in_ok-push_run.ensures.ok) (adds_run c.self.inside.bases.items c.args.run)

pub returns-in_err-push_run-clause-repeated : goal.returns-in_err-push_run-clause-repeated
returns-in_err-push_run-clause-repeated c = λ due there.
    absurd (false≢true (c.in_err-push_run.ensures.repeated
    ((all_there c.self.inside.bases.items c.args.run).0 (rw (← c.self.view_is) at there))))

pub returns-clause-repeated : goal.returns-clause-repeated
returns-clause-repeated c =
    let items = c.self.inside.bases.items in
    let adds : AddsRun (distinct (facts_of_runs items)) (distinct (facts_of_runs c.push_run.new.runs.items))
    c.args.run =
    rw c.in_ok-push_run.ensures.ok (adds_run items c.args.run) in
    rw (← c.self.view_is) (λ due there. (
      refl,
      ap (λ xs. problem_of c.self.inside.graph c.self.inside.regions xs c.self.inside.constraints.items
          (distinct c.self.inside.outlives.items)) (adds.repeated there),
    ))
