use Rattle.std.proofs.Common.{get_or, sym, subst, ◌∙◌, arith}
use Rattle.std.proofs.lemmas.List.{get_or_default}
use Rattle.nll_problem.specs.Graph.{Graph}
use Rattle.nll_core.specs.Lines.{IsJump}
use Rattle.nll_core.specs.declared.frontiers.landings.Landing.{Landing}
use Rattle.nll_core.proofs.ResumeLemmas.{no_landing, landing_at, jump_from, landing_passed, landing_more, landing_end}
use Rattle.nll_core.proofs.frontiers.continuation.enter_landings.Goals as goal
use Rattle.nll_core.proofs.frontiers.continuation.enter_landings.Goals.{then-has+in_ok-enter_point, else-has}

pub has-requires : goal.has-requires
has-requires c =
    let own =
    landing_at c.args.lines.now c.args.landings.now c.requires.landings c.landing_in-landing-items.result.now
    c.args.part c.landing_in-landing-items.ensures c.loop-landing.landing-index no_landing c.loop-landing-test.true
    in
    omega (
      arith,
      jump_from c.args.lines.now c.points-points.ensures.sound _ _ own.0,
      c.requires.width,
      c.loop-landing.invariant.grows.width,
    )

pub enter_point-requires-clause-point : goal.enter_point-requires-clause-point
enter_point-requires-clause-point c =
    let own =
    landing_at c.args.lines.now c.args.landings.now c.requires.landings c.landing_in-landing-items.result.now
    c.args.part c.landing_in-landing-items.ensures c.loop-landing.landing-index no_landing c.loop-landing-test.true
    in
    omega (arith, own.1.1, c.requires.points)

pub enter_point-requires-clause-seen : goal.enter_point-requires-clause-seen
enter_point-requires-clause-seen c =
    c.requires.part _ (landing_at c.args.lines.now c.args.landings.now c.requires.landings
    c.landing_in-landing-items.result.now c.args.part c.landing_in-landing-items.ensures
    c.loop-landing.landing-index no_landing c.loop-landing-test.true).1

pub loop-landing-preserved : goal.loop-landing-preserved
loop-landing-preserved c =
    let list = c.landing_in-landing-items.result.now in
    let place = c.loop-landing.landing-index in
    let landing = get_or list place no_landing in
    let own =
    landing_at c.args.lines.now c.args.landings.now c.requires.landings list c.args.part
    c.landing_in-landing-items.ensures place no_landing c.loop-landing-test.true in
    elim c.if-has.branch [
      | then-has+in_ok-enter_point w ↦ rw w.reached-is (rw w.found-is (
          landing_more c.args.lines.now c.args.seen.now list c.args.reached.now c.args.found.now.items c.requires.inside
          c.loop-landing.reached _ c.loop-landing.found.items _ place landing
          (λ d. get_or_default list place d no_landing c.loop-landing-test.true) own.0
          (omega (arith, own.1.1, c.requires.points)) (c.requires.part _ own.1)
          (sym c.has.ensures ∙ w.if-has.true) c.loop-landing.invariant w.in_ok-enter_point.ensures.grows
          w.in_ok-enter_point.ensures.covers
          ))
      | else-has w ↦ rw w.reached-is (rw w.found-is (
          landing_passed c.args.lines.now c.args.seen.now list c.args.reached.now c.args.found.now.items
          c.loop-landing.reached c.loop-landing.found.items place landing
          (λ d. get_or_default list place d no_landing c.loop-landing-test.true)
          (sym c.has.ensures ∙ w.if-has.false) c.loop-landing.invariant
          ))
    ]

pub returns-clause-covers : goal.returns-clause-covers
returns-clause-covers c = λ x t from jump own.
    let landing : Landing = record { to = t; from = x } in
    landing_end c.args.lines.now c.args.seen.now c.landing_in-landing-items.result.now c.args.reached.now
    c.args.found.now.items c.loop-landing.reached c.loop-landing.found.items c.loop-landing.landing-index
    (omega (arith, c.loop-landing-test.false)) c.loop-landing.invariant landing
    ((c.landing_in-landing-items.ensures landing).1
    (subst (λ (g : Graph). IsJump g x t) (sym c.requires.landings) jump, own.0, own.1)) from
