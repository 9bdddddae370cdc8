use Rattle.std.proofs.Common.{◌≡◌, get_or, refl, sym, ap, subst, ◌∙◌, ⊎_elim, inr, arith}
use Rattle.std.proofs.lemmas.Bool.{cases_lt, false≢true}
use Rattle.std.proofs.lemmas.List.{get_or_default}
use Rattle.nll_problem.specs.Graph.{Graph}
use Rattle.nll_sets.specs.ElementSet.{flag}
use Rattle.nll_sets.specs.Runs.{no_run, IsWithin}
use Rattle.nll_core.specs.Lines.{IsJump}
use Rattle.nll_core.specs.declared.frontiers.landings.Landing.{Landing}
use Rattle.nll_core.proofs.ResumeLemmas.{no_landing, landing_at, jump_from, jump_return}
use Rattle.nll_core.proofs.frontiers.continuation.has_return.Goals as goal

pub has-requires : goal.has-requires
has-requires c =
    let own =
    landing_at c.args.lines.now c.args.landings.now c.requires.landings c.landing_in-returns.result.now _
    c.landing_in-returns.ensures c.loop-landing.landing-index no_landing c.loop-landing-test.true in
    omega (arith, jump_from c.args.lines.now c.points-points.ensures.sound _ _ own.0, c.requires.width)

pub returns-then-has : goal.returns-then-has
returns-then-has c =
    let landing = get_or c.landing_in-returns.result.now c.loop-landing.landing-index no_landing in
    let own =
    landing_at c.args.lines.now c.args.landings.now c.requires.landings c.landing_in-returns.result.now _
    c.landing_in-returns.ensures c.loop-landing.landing-index no_landing c.loop-landing-test.true in
    let to : landing.to ≡ c.args.lines.now.points = omega (arith, own.1.0, own.1.1, c.points-points.ensures.value) in (
      λ _. (
        landing.from,
        sym c.has.ensures ∙ c.if-has.true,
        jump_return c.args.lines.now c.points-points.ensures.sound landing.from
            (subst (IsJump c.args.lines.now landing.from) to own.0),
      ),
      λ _. refl,
    )

pub loop-run-preserved : goal.loop-run-preserved
loop-run-preserved c = λ k x below within back. ⊎_elim
    (λ earlier. c.loop-run.invariant k x earlier within back)
    (λ here.
    let same : k ≡ c.loop-run.run-index = omega (arith, below, here) in
    let inside = subst (λ i. IsWithin (get_or c.as_runs-run-items.result.now i no_run) x) same within in
    absurd (false≢true (sym c.if-has_return_in.false ∙ c.has_return_in.ensures.1 (x, inside, back))))
    (cases_lt k c.loop-run.run-index)

pub returns-then-returns-runs : goal.returns-then-returns-runs
returns-then-returns-runs c = (
  λ h. absurd (false≢true h),
  λ w.
      let i = (c.as_runs-run-items.ensures.make_up w.0).1 w.1 in
      absurd (c.loop-run.invariant i.0 w.0 (omega (arith, i.1, c.loop-run-test.false)) (i.2, i.3)
      (rw (← c.requires.landings) at w.2)),
)

pub returns : goal.returns
returns c = (
  λ h. absurd (false≢true h),
  λ w.
      let landing : Landing = record { to = c.args.lines.now.points; from = w.0 } in
      let jump : IsJump c.args.landings.now w.0 c.args.lines.now.points =
      subst (λ (g : Graph). IsJump g w.0 c.args.lines.now.points) (sym c.requires.landings) (inr (w.2, refl)) in
      let there =
      (c.landing_in-returns.ensures landing).1
      (jump, omega (arith, c.points-points.ensures.value), omega (arith, c.points-points.ensures.value)) in
      let is : get_or c.landing_in-returns.result.now there.0 no_landing ≡ landing =
      get_or_default c.landing_in-returns.result.now there.0 no_landing landing there.1 ∙ there.2 in
      let out = c.loop-landing.invariant there.0 (omega (arith, there.1, c.loop-landing-test.false)) in
      absurd (false≢true (sym out ∙ (ap (λ (l : Landing). flag c.args.reached.now l.from) is ∙ w.1))),
)
