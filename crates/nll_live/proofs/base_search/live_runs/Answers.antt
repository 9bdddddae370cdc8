use Rattle.std.proofs.Common.{◌↔◌, subst}
use Rattle.nll_body.specs.Bodies.{BodyText}
use Rattle.nll_live.specs.Live.{IsBaseOf}
use Rattle.nll_problem.specs.BaseRuns.{IsInBaseRuns}
use Rattle.nll_live.proofs.AskLemmas.{base_within}
use Rattle.nll_live.proofs.base_search.live_runs.Goals as goal

pub returns-clause-each : goal.returns-clause-each
returns-clause-each c = λ r p.
    subst (λ (body : BodyText). IsInBaseRuns c.push_both-told.new.base_runs.items r p ↔ IsBaseOf body r p)
    c.in_ok-ways.ensures.body (c.in_ok-told.ensures r p)

pub returns-clause-within : goal.returns-clause-within
returns-clause-within c = λ r p h.
    base_within c.args.body.now c.points.ensures.sound r p
    (subst (λ (body : BodyText). IsBaseOf body r p) c.in_ok-ways.ensures.body ((c.in_ok-told.ensures r p).0 h))
