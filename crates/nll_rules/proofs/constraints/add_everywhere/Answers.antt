use Rattle.std.proofs.Common.{ℕ, ◌<◌, slice_index_or, List, take, ap, sym, subst, arith}
use Rattle.std.proofs.lemmas.List.{take_more, take_all}
use Rattle.std.proofs.lemmas.List.Elements.{Contains-get_or}
use Rattle.std.proofs.lemmas.Result.{err_from_is_err_and}
use Rattle.nll_problem.specs.Problem.{Problem}
use Rattle.nll_rules.specs.Adding.{AddsConstraints, IsOfPairsEverywhere}
use Rattle.nll_rules.proofs.AddingLemmas.{every_none, every_more, every_refused}
use Rattle.nll_rules.proofs.constraints.add_everywhere.Goals as goal

pub loop-pair-init : goal.loop-pair-init
loop-pair-init c = every_none c.args.builder.now

pub add_constraint-requires-clause-sup : goal.add_constraint-requires-clause-sup
add_constraint-requires-clause-sup c =
    let x = slice_index_or c.args.pairs.now c.loop-pair.pair-index (0, 0) in
    subst (λ (n : ℕ). x.0 < n) (sym (ap (λ (q : Problem). q.regions) c.loop-pair.invariant.others))
    (c.requires x (Contains-get_or c.args.pairs.now c.loop-pair.pair-index (0, 0) c.loop-pair-test.true)).0

pub add_constraint-requires-clause-sub : goal.add_constraint-requires-clause-sub
add_constraint-requires-clause-sub c =
    let x = slice_index_or c.args.pairs.now c.loop-pair.pair-index (0, 0) in
    subst (λ (n : ℕ). x.1 < n) (sym (ap (λ (q : Problem). q.regions) c.loop-pair.invariant.others))
    (c.requires x (Contains-get_or c.args.pairs.now c.loop-pair.pair-index (0, 0) c.loop-pair-test.true)).1

pub loop-pair-preserved : goal.loop-pair-preserved
loop-pair-preserved c =
    let n = c.loop-pair.pair-index in
    let x = slice_index_or c.args.pairs.now n (0, 0) in
    rw (take_more c.args.pairs.now n (0, 0) c.loop-pair-test.true)
    (every_more (take n c.args.pairs.now) x c.args.builder.now c.loop-pair.builder c.add_constraint.new.builder
    c.loop-pair.invariant c.in_ok-add_constraint.ensures.ok)

pub returns-clause-ok : goal.returns-clause-ok
returns-clause-ok c =
    subst (λ (xs : List (ℕ × ℕ)). AddsConstraints (IsOfPairsEverywhere xs) c.args.builder.now c.loop-pair.builder)
    (take_all c.loop-pair.pair-index c.args.pairs.now (omega arith)) c.loop-pair.invariant

pub returns-in_err-add_constraint-clause-err : goal.returns-in_err-add_constraint-clause-err
returns-in_err-add_constraint-clause-err c =
    let n = c.loop-pair.pair-index in
    let x = slice_index_or c.args.pairs.now n (0, 0) in
    let p = err_from_is_err_and c.from_residual.result c.from_residual.ensures.1 in
    rw (p.1, p.2) (every_refused c.args.pairs.now n x c.args.builder.now c.loop-pair.builder _ c.loop-pair.invariant
    (Contains-get_or c.args.pairs.now n (0, 0) c.loop-pair-test.true) c.in_err-add_constraint.ensures.err)
