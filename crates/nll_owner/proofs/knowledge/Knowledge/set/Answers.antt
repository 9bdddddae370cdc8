use Rattle.std.proofs.Common.{sym, subst}
use Rattle.nll_core.specs.Search.{IsIn}
use Rattle.nll_owner.proofs.knowledge.Knowledge.set.Goals as goal

pub returns-clause-has : goal.returns-clause-has
returns-clause-has c = rw (← c.self.view_is) (λ r at x.
    let tells = c.self.invariant.held c.args.slot r x at in (
      λ h. tells.0 (subst (λ xs. IsIn xs x) c.set.ensures h),
      λ h. subst (λ xs. IsIn xs x) (sym c.set.ensures) (tells.1 h),
    ))
