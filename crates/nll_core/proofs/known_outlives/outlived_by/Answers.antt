use Rattle.std.proofs.Common.{◌≡◌, ◌↔◌, ℕ, List, Bool, true, subst, sym}
use Rattle.nll_sets.specs.ElementSet.{flag}
use Rattle.nll_problem.specs.Faults.{IsKnown}
use Rattle.nll_core.proofs.known_outlives.outlived_by.Goals as goal

pub returns-clause-exact : goal.returns-clause-exact
returns-clause-exact c = λ b.
    let set =
    subst (λ (a : ℕ). (flag c.in_ok-search.search.reached b ≡ true) ↔ IsKnown c.args.problem.now a b)
    c.longer.view_is (c.in_ok-search.ensures.found b) in (
      λ h. set.0 (subst (λ (flags : List Bool). flag flags b ≡ true) c.into_parts-outlived.ensures.set h),
      λ h. subst (λ (flags : List Bool). flag flags b ≡ true) (sym c.into_parts-outlived.ensures.set) (set.1 h),
    )
