use Rattle.std.proofs.Common.{◌≡◌, ◌∙◌, ◌↔◌, true, sym, subst}
use Rattle.nll_sets.specs.ElementSet.{flag}
use Rattle.nll_live.specs.Live.{IsLive}
use Rattle.nll_text_tests.specs.LiveRounds.{Flags}
use Rattle.nll_text_tests.proofs.LiveRoundLemmas.{flags_none, flags_append, rounds_exact}
use Rattle.nll_text_tests.proofs.live_rounds.live_by_rounds.Goals as goal

pub loop-init : goal.loop-init
loop-init c =
    subst (Flags c.args.body.now c.args.variable c.args.ends.now) (sym c.in_ok-flags.ensures.items)
    (flags_none c.args.body.now c.args.variable c.args.ends.now)

pub round-requires : goal.round-requires
round-requires c = c.loop.invariant.width ∙ c.requires

pub loop-preserved : goal.loop-preserved
loop-preserved c = flags_append c.args.body.now c.args.variable _ _ _ c.loop.invariant c.round.ensures.flags

pub loop-smaller : goal.loop-smaller
loop-smaller c = c.round.ensures.fewer c.loop-test.true

pub returns : goal.returns
returns c =
    λ p. subst (λ flags. (flag flags p ≡ true)
    ↔ IsLive c.args.body.now (λ q. flag c.args.ends.now q ≡ true) c.args.variable p)
    (sym (c.round.ensures.same c.loop-test.false))
    (rounds_exact c.args.body.now c.args.variable c.args.ends.now c.loop.flags.items c.loop.invariant
    (c.round.ensures.closed c.loop-test.false) p)
