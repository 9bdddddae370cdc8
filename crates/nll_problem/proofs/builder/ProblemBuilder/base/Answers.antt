use Rattle.std.proofs.Common.{◌≡◌, ℕ, ◌+◌, ◌-◌, ◌<◌, List, Contains, length, set, ap, refl, sym, subst, ◌∙◌, arith}
use Rattle.std.proofs.lemmas.Bool.{false≢true}
use Rattle.std.proofs.lemmas.List.{get_or_default}
use Rattle.std.proofs.lemmas.List.Elements.{Contains-get_or}
use Rattle.nll_problem.specs.Answers.{AddsFact}
use Rattle.nll_problem.specs.BaseRuns.{IsProper, facts_of_runs}
use Rattle.nll_problem.specs.Bases.{distinct}
use Rattle.nll_problem.specs.Merging.{RunGoesOn, run_at}
use Rattle.nll_problem.specs.Problem.{problem_of}
use Rattle.nll_problem.specs.declared.base_run.BaseRun.{BaseRun}
use Rattle.nll_problem.proofs.BaseLemmas.{distinct_once}
use Rattle.nll_problem.proofs.BaseRunLemmas.{adds_next, adds_one, one_there, proper_next, proper_push}
use Rattle.nll_problem.proofs.MergingLemmas.{no_run}
use Rattle.nll_problem.proofs.ProblemLemmas.{sound_bases}
use Rattle.nll_problem.proofs.builder.ProblemBuilder.base.Goals as goal
use Rattle.nll_problem.proofs.builder.ProblemBuilder.base.Goals.{After-index_mut}

goes : (c : After-index_mut) → RunGoesOn c.self.inside.bases.items c.args.region c.args.point
goes c =
    subst (λ (xs : List BaseRun). RunGoesOn xs c.args.region c.args.point) c.as_slice.ensures.value
    (c.goes_on.ensures.0 c.if-goes_on.true)

place_is : (c : After-index_mut) → c.len-last.result - 1 ≡ length c.self.inside.bases.items - 1
place_is c = omega (arith, c.len-last.ensures)

-- the last run, with the point where it ends
abbrev longer : (c : After-index_mut) → BaseRun
longer c =
    record { region = c.index_mut.result.now.region; first = c.index_mut.result.now.first; end = c.args.point + 1 }

last_is : (c : After-index_mut) → c.index_mut.result.now
    ≡ run_at c.self.inside.bases.items (length c.self.inside.bases.items - 1)
last_is c =
    let items = c.self.inside.bases.items in
    let low : c.len-last.result - 1 < length items = omega (arith, c.len-last.ensures, (goes c).0) in
    c.index_mut.ensures.value ∙ (get_or_default items (c.len-last.result - 1) c.index_mut.result.now no_run low
    ∙ ap (run_at items) (place_is c))

longer_is : (c : After-index_mut) → longer c
    ≡ record (run_at c.self.inside.bases.items (length c.self.inside.bases.items - 1)) { end = c.args.point + 1 }
longer_is c = ap (λ (run : BaseRun). record run { end = c.args.point + 1 }) (last_is c)

longer_proper : (c : After-index_mut) → IsProper (longer c)
longer_proper c =
    let items = c.self.inside.bases.items in
    let g = goes c in
    let last : BaseRun = run_at items (length items - 1) in
    let proper : IsProper last =
    c.self.invariant.2 last (Contains-get_or items (length items - 1) no_run (omega (arith, g.0))) in
    omega (arith, proper, g.2, ap (λ (run : BaseRun). run.first) (last_is c))

adds_end : (c : After-index_mut) → AddsFact (distinct (facts_of_runs c.self.inside.bases.items))
    (distinct (facts_of_runs (set c.self.inside.bases.items (c.len-last.result - 1) (longer c))))
    (c.args.region, c.args.point)
adds_end c =
    let items = c.self.inside.bases.items in
    subst (λ (k : ℕ). AddsFact (distinct (facts_of_runs items)) (distinct (facts_of_runs (set items k (longer c))))
    (c.args.region, c.args.point)) (sym (place_is c))
    (adds_next items (goes c).0 (longer c) c.args.region c.args.point c.self.invariant.2 (goes c).1 (goes c).2
    (longer_is c))

pub invariant_of-self : goal.invariant_of-self
invariant_of-self c =
    let d = (goal.at.invariant_of-self c).After-index_mut in
    let region : c.args.region < c.self.inside.regions = omega arith in
    let point : c.args.point < c.self.inside.graph.points = omega arith in (
      sound_bases _ c.self.invariant.0 _ c.args.region c.args.point (λ x. ((adds_end d).each x).0)
          (distinct_once (facts_of_runs (set c.self.inside.bases.items (c.len-last.result - 1) (longer d)))) region
          point,
      c.self.invariant.1,
      subst (λ (k : ℕ). (run : BaseRun) → Contains (set c.self.inside.bases.items k (longer d)) run → IsProper run)
          (sym (place_is d))
          (proper_next c.self.inside.bases.items (goes d).0 (longer d) c.self.invariant.2 (longer_proper d)),
    )

pub returns-then-goes_on-clause-ok : goal.returns-then-goes_on-clause-ok
returns-then-goes_on-clause-ok c =
    rw (← c.self.view_is) (adds_end (goal.at.returns-then-goes_on-clause-ok c).After-index_mut)

pub invariant_of-self-in_err-push_run : goal.invariant_of-self-in_err-push_run
invariant_of-self-in_err-push_run c = rw c.in_err-push_run.ensures.err c.self.invariant

pub invariant_of-self-2 : goal.invariant_of-self-2
invariant_of-self-2 c =
    let items = c.self.inside.bases.items in
    let adds : AddsFact (distinct (facts_of_runs items)) (distinct (facts_of_runs c.push_run.new.runs.items))
    (c.args.region, c.args.point) =
    rw c.in_ok-push_run.ensures.ok (adds_one items c.args.region c.args.point) in
    let region : c.args.region < c.self.inside.regions = omega arith in
    let point : c.args.point < c.self.inside.graph.points = omega arith in (
      sound_bases _ c.self.invariant.0 _ c.args.region c.args.point (λ x. (adds.each x).0)
          (distinct_once (facts_of_runs c.push_run.new.runs.items)) region point,
      c.self.invariant.1,
      λ run h. proper_push items (record { region = c.args.region; first = c.args.point; end = c.args.point + 1 })
          c.self.invariant.2 (omega arith) run (c.push_run.ensures.each run h),
    )

pub returns-clause-ok : goal.returns-clause-ok
returns-clause-ok c =
    rw (← c.self.view_is, c.in_ok-push_run.ensures.ok) (adds_one c.self.inside.bases.items c.args.region c.args.point)

pub returns-then-goes_on-clause-repeated : goal.returns-then-goes_on-clause-repeated
returns-then-goes_on-clause-repeated c =
    let adds = adds_end (goal.at.returns-then-goes_on-clause-repeated c).After-index_mut in
    rw (← c.self.view_is) (λ due there. (
      refl,
      ap (λ xs. problem_of c.self.inside.graph c.self.inside.regions xs c.self.inside.constraints.items
          (distinct c.self.inside.outlives.items)) (adds.repeated there),
    ))

pub returns-in_err-push_run-clause-repeated : goal.returns-in_err-push_run-clause-repeated
returns-in_err-push_run-clause-repeated c = λ due there.
    absurd (false≢true (c.in_err-push_run.ensures.repeated
    (one_there c.self.inside.bases.items c.args.region c.args.point (rw (← c.self.view_is) at there))))

pub returns-clause-repeated : goal.returns-clause-repeated
returns-clause-repeated c =
    let items = c.self.inside.bases.items in
    let adds : AddsFact (distinct (facts_of_runs items)) (distinct (facts_of_runs c.push_run.new.runs.items))
    (c.args.region, c.args.point) =
    rw c.in_ok-push_run.ensures.ok (adds_one items c.args.region c.args.point) in
    rw (← c.self.view_is) (λ due there. (
      refl,
      ap (λ xs. problem_of c.self.inside.graph c.self.inside.regions xs c.self.inside.constraints.items
          (distinct c.self.inside.outlives.items)) (adds.repeated there),
    ))
