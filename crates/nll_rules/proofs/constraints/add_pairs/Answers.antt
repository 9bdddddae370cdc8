use Rattle.std.proofs.Common.{ℕ, ◌<◌, slice_index_or, List, Contains, take, ap, sym, ◌∙◌, subst, arith}
use Rattle.std.proofs.lemmas.List.{take_more, take_all}
use Rattle.std.proofs.lemmas.List.Elements.{Contains-get_or}
use Rattle.std.proofs.lemmas.Result.{err_from_is_err_and}
use Rattle.nll_problem.specs.Problem.{Problem}
use Rattle.nll_rules.specs.Adding.{AddsConstraints, IsPairOfRegions, IsOfPair, IsOfPairs}
use Rattle.nll_rules.proofs.AddingLemmas.{pair_none, pair_more, pair_refused, pairs_none, pairs_more, pairs_refused}
use Rattle.nll_rules.proofs.constraints.add_pairs.Goals as goal
use Rattle.nll_rules.proofs.constraints.add_pairs.Goals.{After-pair-item, In-loop-point}

pub loop-pair-init : goal.loop-pair-init
loop-pair-init c = pairs_none c.args.points.now c.args.builder.now

-- the pair is one of these
listed : (c : After-pair-item) → Contains c.args.pairs.now c.pair-item.result
listed c = (c.loop-pair.pair-index, c.loop-pair-test.true, sym c.pair-item.is)

pub loop-point-init : goal.loop-point-init
loop-point-init c = pair_none c.pair-item.result c.loop-pair.builder

-- it is of regions of the problem
regions : (c : In-loop-point) → IsPairOfRegions c.pair-item.result c.loop-point.builder
regions c =
    subst (λ (n : ℕ). (c.pair-item.result.0 < n) × (c.pair-item.result.1 < n))
    (sym (ap (λ (q : Problem). q.regions) c.loop-point.invariant.others
    ∙ ap (λ (q : Problem). q.regions) c.loop-pair.invariant.others))
    (c.requires.regions c.pair-item.result (c.loop-pair.pair-index, c.loop-pair-test.true, sym c.pair-item.is))

pub add_constraint-requires-clause-at : goal.add_constraint-requires-clause-at
add_constraint-requires-clause-at c =
    let p = slice_index_or c.args.points.now c.loop-point.point-index 0 in
    subst (λ (n : ℕ). p < n) (sym (ap (λ (q : Problem). q.graph.points) c.loop-point.invariant.others
    ∙ ap (λ (q : Problem). q.graph.points) c.loop-pair.invariant.others))
    (c.requires.points p (Contains-get_or c.args.points.now c.loop-point.point-index 0 c.loop-point-test.true))

pub add_constraint-requires-clause-sup : goal.add_constraint-requires-clause-sup
add_constraint-requires-clause-sup c = (regions (goal.at.add_constraint-requires-clause-sup c).In-loop-point).0

pub add_constraint-requires-clause-sub : goal.add_constraint-requires-clause-sub
add_constraint-requires-clause-sub c = (regions (goal.at.add_constraint-requires-clause-sub c).In-loop-point).1

pub loop-point-preserved : goal.loop-point-preserved
loop-point-preserved c =
    let n = c.loop-point.point-index in
    let p = slice_index_or c.args.points.now n 0 in
    rw (take_more c.args.points.now n 0 c.loop-point-test.true)
    (pair_more (take n c.args.points.now) p c.pair-item.result c.loop-pair.builder c.loop-point.builder
    c.add_constraint.new.builder c.loop-point.invariant c.in_ok-add_constraint.ensures.ok)

pub loop-pair-preserved : goal.loop-pair-preserved
loop-pair-preserved c =
    let n = c.loop-pair.pair-index in
    let x = c.pair-item.result in
    let all = subst (λ (xs : List ℕ). AddsConstraints (IsOfPair xs x) c.loop-pair.builder c.loop-point.builder)
    (take_all c.loop-point.point-index c.args.points.now (omega arith)) c.loop-point.invariant in
    rw (take_more c.args.pairs.now n x c.loop-pair-test.true, ← c.pair-item.is)
    (pairs_more c.args.points.now (take n c.args.pairs.now) x c.args.builder.now c.loop-pair.builder
    c.loop-point.builder c.loop-pair.invariant all)

pub returns-clause-ok : goal.returns-clause-ok
returns-clause-ok c =
    subst (λ (xs : List (ℕ × ℕ)). AddsConstraints
    (IsOfPairs c.args.points.now xs) c.args.builder.now c.loop-pair.builder)
    (take_all c.loop-pair.pair-index c.args.pairs.now (omega arith)) c.loop-pair.invariant

pub returns-in_err-add_constraint-clause-err : goal.returns-in_err-add_constraint-clause-err
returns-in_err-add_constraint-clause-err c =
    let d = (goal.at.returns-in_err-add_constraint-clause-err c).After-pair-item in
    let n = c.loop-point.point-index in
    let p = slice_index_or c.args.points.now n 0 in
    let e = err_from_is_err_and c.from_residual.result c.from_residual.ensures.1 in
    rw (e.1, e.2) (pairs_refused c.args.points.now c.args.pairs.now c.loop-pair.pair-index c.pair-item.result
    c.args.builder.now c.loop-pair.builder _ c.loop-pair.invariant (listed d)
    (pair_refused c.args.points.now n p c.pair-item.result c.loop-pair.builder c.loop-point.builder _
    c.loop-point.invariant (Contains-get_or c.args.points.now n 0 c.loop-point-test.true)
    c.in_err-add_constraint.ensures.err))
