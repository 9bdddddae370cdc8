use Rattle.std.proofs.Common.{◌≡◌, ◌⊎◌, ℕ, ◌<◌, Bool, true, false, not, slice_index_or, List, [], ◌∷◌, Some, None, take, ap, sym, subst, ⊎_elim, arith}
use Rattle.std.specs.Prelude.{◌&&◌}
use Rattle.std.proofs.lemmas.Bool.{false≢true, lt-ltb}
use Rattle.std.proofs.lemmas.List.{take_more, take_all}
use Rattle.std.proofs.lemmas.List.Elements.{Contains-get_or}
use Rattle.std.proofs.lemmas.Result.{err_from_is_err_and}
use Rattle.nll_problem.specs.Building.{first_error}
use Rattle.nll_problem.specs.declared.error.BuildError.{BuildError}
use Rattle.nll_problem.specs.declared.error.BuildError.TheVariants.{RegionRange, Memory}
use Rattle.nll_problem.specs.Problem.{Problem, IsUniversal}
use Rattle.nll_rules.specs.Adding.{AddsOutlives}
use Rattle.nll_rules.proofs.AddingLemmas.{outlives_none, outlives_more}
use Rattle.nll_rules.proofs.facts.add_outlives.Goals as goal
use Rattle.nll_rules.proofs.facts.add_outlives.Goals.{In-loop-fact}

-- a fact of two universal regions is refused for lack of memory alone
in_range : (x y : Bool) (e : BuildError) → x ≡ true → y ≡ true
    → (first_error ((not (x && y), RegionRange) ∷ []) ≡ Some e)
    ⊎ ((first_error ((not (x && y), RegionRange) ∷ []) ≡ None) × (e ≡ Memory)) → e ≡ Memory
in_range false y e one other answers = absurd (false≢true one)
in_range true false e one other answers = absurd (false≢true other)
in_range true true e one other answers = ⊎_elim (λ due. absurd cc) (λ none. none.1) answers

pub loop-fact-init : goal.loop-fact-init
loop-fact-init c = outlives_none c.args.builder.now

-- the fact is of universal regions
known : (c : In-loop-fact) → (let x = slice_index_or c.args.facts.now c.loop-fact.fact-index (0, 0) in
    IsUniversal c.loop-fact.builder x.0 × IsUniversal c.loop-fact.builder x.1)
known c =
    let x = slice_index_or c.args.facts.now c.loop-fact.fact-index (0, 0) in
    subst (λ (n : ℕ). (x.0 < n) × (x.1 < n))
    (sym (ap (λ (q : Problem). q.graph.universals) c.loop-fact.invariant.others))
    (c.requires x.0 x.1 (Contains-get_or c.args.facts.now c.loop-fact.fact-index (0, 0) c.loop-fact-test.true))

pub loop-fact-preserved : goal.loop-fact-preserved
loop-fact-preserved c =
    let n = c.loop-fact.fact-index in
    let x = slice_index_or c.args.facts.now n (0, 0) in
    rw (take_more c.args.facts.now n (0, 0) c.loop-fact-test.true)
    (outlives_more (take n c.args.facts.now) x c.args.builder.now c.loop-fact.builder c.outlives.new.self
    c.loop-fact.invariant c.in_ok-outlives.ensures.ok c.outlives.ensures.others)

pub returns-in_err-outlives-clause-err : goal.returns-in_err-outlives-clause-err
returns-in_err-outlives-clause-err c =
    let k = known (goal.at.returns-in_err-outlives-clause-err c).In-loop-fact in
    let p = err_from_is_err_and c.from_residual.result c.from_residual.ensures.1 in
    rw (p.1, p.2) (in_range _ _ _ (lt-ltb _ _ k.0) (lt-ltb _ _ k.1) c.in_err-outlives.ensures.answers)

pub returns-clause-ok : goal.returns-clause-ok
returns-clause-ok c =
    subst (λ (xs : List (ℕ × ℕ)). AddsOutlives xs c.args.builder.now c.loop-fact.builder)
    (take_all c.loop-fact.fact-index c.args.facts.now (omega arith)) c.loop-fact.invariant
