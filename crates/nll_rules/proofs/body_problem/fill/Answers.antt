use Rattle.std.proofs.Common.{◌≡◌, ℕ, List, Contains, ap, sym, inl, inr, ⊎_elim, ◌∙◌, arith, length, subst}
use Rattle.nll_problem.specs.BaseRuns.{IsInBaseRuns}
use Rattle.nll_problem.specs.declared.base_run.BaseRun.{BaseRun}
use Rattle.std.proofs.lemmas.Result.{err_from_is_err_and}
use Rattle.nll_body.specs.Bodies.{BodyText}
use Rattle.nll_problem.specs.Building.{bare_problem}
use Rattle.nll_problem.specs.GraphBuilding.{bare_graph}
use Rattle.nll_problem.specs.Problem.{Problem}
use Rattle.nll_rules.specs.Adding.{AddsOutlives}
use Rattle.nll_rules.proofs.WholeLemmas.{AreSteps, known_points, known_regions, known_bases, based_points, based_regions, whole, whole_refused}
use Rattle.nll_rules.proofs.body_problem.fill.Goals as goal
use Rattle.nll_rules.proofs.body_problem.fill.Goals.{After-add_regions, In_ok-add_outlives, In_ok-add_bases}

-- the problem of a body's points and universal regions alone
abbrev bare : BodyText → Problem
bare body = bare_problem (bare_graph (length body.points) body.universals)

pub add_regions-requires-clause-universals : goal.add_regions-requires-clause-universals
add_regions-requires-clause-universals c = ap (λ (q : Problem). q.regions) c.requires ∙ sym c.universals.ensures

pub add_regions-requires-clause-more : goal.add_regions-requires-clause-more
add_regions-requires-clause-more c =
    omega (arith, c.points.ensures.sound.all_universals, c.universals.ensures, c.regions.ensures)

pub add_regions-requires-clause-few : goal.add_regions-requires-clause-few
add_regions-requires-clause-few c = omega (arith, c.points.ensures.sound.region_limit, c.regions.ensures)

-- the problem of the graph with all regions
counted : (c : After-add_regions) → c.add_regions.new.builder
    ≡ record (bare c.args.body.now) { regions = length c.args.body.now.names }
counted c =
    c.add_regions.ensures
    ∙ (ap (λ (q : Problem). record q { regions = c.regions.result }) c.requires
    ∙ ap (λ n. record (bare c.args.body.now) { regions = n }) c.regions.ensures)

pub add_outlives-requires : goal.add_outlives-requires
add_outlives-requires c =
    let d = (goal.at.add_outlives-requires c).After-add_regions in
    let universals = ap (λ (q : Problem). q.graph.universals) (counted d) in
    rw (c.outlives.ensures, universals) c.points.ensures.sound.known_universals

known : (c : In_ok-add_outlives) → AddsOutlives c.args.body.now.outlives c.add_regions.new.builder
    c.add_outlives.new.builder
known c = rw (← c.outlives.ensures) c.in_ok-add_outlives.ensures.ok

pub add_bases-requires : goal.add_bases-requires
add_bases-requires c =
    let d = goal.at.add_bases-requires c in
    let counted = counted d.After-add_regions in
    let facts = known d.In_ok-add_outlives in
    rw (
      c.as_slice.ensures.value,
      known_regions c.args.body.now c.add_regions.new.builder c.add_outlives.new.builder counted facts,
      known_points c.args.body.now c.add_regions.new.builder c.add_outlives.new.builder counted facts,
    ) c.in_ok-live.ensures.within

steps : (c : In_ok-add_bases) → AreSteps c.args.body.now c.add_regions.new.builder c.add_outlives.new.builder
    c.add_bases.new.builder
steps c =
    let regions =
    c.add_regions.ensures
    ∙ (ap (λ (q : Problem). record q { regions = c.regions.result }) c.requires
    ∙ ap (λ n. record (bare c.args.body.now) { regions = n }) c.regions.ensures) in
    let facts : AddsOutlives c.args.body.now.outlives c.add_regions.new.builder c.add_outlives.new.builder =
    rw (← c.outlives.ensures) c.in_ok-add_outlives.ensures.ok in
    record {
      regions = regions;
      outlives = facts;
      others = c.in_ok-add_bases.ensures.ok.others;
      bases = λ r p.
          let live = c.in_ok-live.ensures.each r p in
          let each = c.in_ok-add_bases.ensures.ok.each r p in
          let none = known_bases c.args.body.now c.add_regions.new.builder c.add_outlives.new.builder regions
          facts in (
            λ h. live.0 (subst (λ (xs : List BaseRun). IsInBaseRuns xs r p) c.as_slice.ensures.value
                (⊎_elim
                (λ old. absurd (let no = subst (λ (xs : List (ℕ × ℕ)). Contains xs (r, p)) none old in
                omega (arith, no.1)))
                (λ new. new)
                (each.0 h))),
            λ b. each.1 (inr (subst (λ (xs : List BaseRun). IsInBaseRuns xs r p) (sym c.as_slice.ensures.value)
                (live.1 b))),
          );
    }

pub add_constraints-requires-clause-points : goal.add_constraints-requires-clause-points
add_constraints-requires-clause-points c =
    based_points _ _ _ _ (steps (goal.at.add_constraints-requires-clause-points c).In_ok-add_bases)

pub add_constraints-requires-clause-regions : goal.add_constraints-requires-clause-regions
add_constraints-requires-clause-regions c =
    based_regions _ _ _ _ (steps (goal.at.add_constraints-requires-clause-regions c).In_ok-add_bases)

pub returns-clause-ok : goal.returns-clause-ok
returns-clause-ok c =
    whole _ _ _ _ (steps (goal.at.returns-clause-ok c).In_ok-add_bases) c.add_constraints.new.builder
    c.in_ok-add_constraints.ensures.ok

pub returns-in_err-add_constraints-clause-err : goal.returns-in_err-add_constraints-clause-err
returns-in_err-add_constraints-clause-err c =
    let p = err_from_is_err_and c.from_residual-in_err-add_constraints.result
    c.from_residual-in_err-add_constraints.ensures.1 in
    rw (p.1, p.2) (whole_refused _ _ _ _
    (steps (goal.at.returns-in_err-add_constraints-clause-err c).In_ok-add_bases) _
    c.in_err-add_constraints.ensures.err)

pub returns-in_err-add_outlives-clause-err : goal.returns-in_err-add_outlives-clause-err
returns-in_err-add_outlives-clause-err c =
    let p = err_from_is_err_and c.from_residual.result c.from_residual.ensures.1 in
    rw (p.1, p.2) (inl c.in_err-add_outlives.ensures.err)

pub returns-in_err-add_bases-clause-err : goal.returns-in_err-add_bases-clause-err
returns-in_err-add_bases-clause-err c =
    let p = err_from_is_err_and c.from_residual-in_err-add_bases.result
    c.from_residual-in_err-add_bases.ensures.1 in
    rw (p.1, p.2) (inl c.in_err-add_bases.ensures.err)
