use Rattle.nll_core.proofs.ResumeLemmas.{LandingOn}
use Rattle.nll_core.proofs.frontiers.continuation.enter_landings.Given as goal

abbrev pub invariant-loop-landing : goal.invariant-loop-landing
invariant-loop-landing l =
    LandingOn l.lines l.seen l.landing-items l.fn.reached l.reached l.fn.found.items l.found.items l.landing-index
