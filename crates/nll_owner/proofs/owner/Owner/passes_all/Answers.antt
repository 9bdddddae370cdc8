use Rattle.std.proofs.Common.{◌≡◌, ⊎_elim, get_or, refl, sym, ap, ◌∙◌, subst, arith}
use Rattle.std.proofs.lemmas.Bool.{cases_eq, false≢true}
use Rattle.std.proofs.lemmas.List.{get_or_default}
use Rattle.nll_owner.specs.Owner.{Passes}
use Rattle.nll_owner.proofs.owner.Owner.passes_all.Goals as goal

pub loop-growth-init : goal.loop-growth-init
loop-growth-init c k g low is = absurd (omega (arith, low))

pub loop-growth-preserved : goal.loop-growth-preserved
loop-growth-preserved c k g low is = ⊎_elim
    (λ here.
    let same : g ≡ c.growth-item.result = sym is
    ∙ (ap (λ i. get_or c.args.growths.now i g) here
    ∙ (get_or_default c.args.growths.now c.loop-growth.growth-index g c.growth-item.result c.loop-growth-test.true
    ∙ sym c.growth-item.is)) in
    subst (Passes c.args.self.now.problem c.args.self.now.cut c.args.self.now.me c.args.from) (sym same)
    (c.passes.ensures.0 c.if-not-passes.false))
    (λ other. c.loop-growth.invariant k g (omega (arith, low, other)) is)
    (cases_eq k c.loop-growth.growth-index)

pub returns-then-not-passes : goal.returns-then-not-passes
returns-then-not-passes c = (
  λ h. absurd (false≢true h),
  λ all. absurd (false≢true (sym c.if-not-passes.true
      ∙ c.passes.ensures.1 (all c.growth-item.result
      (c.loop-growth.growth-index, c.loop-growth-test.true, sym c.growth-item.is)))),
)

pub returns : goal.returns
returns c = (λ _ g h. c.loop-growth.invariant h.0 g (omega (arith, h.1, c.loop-growth-test.false)) h.2, λ _. refl)
