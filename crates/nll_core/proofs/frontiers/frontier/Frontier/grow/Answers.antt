use Rattle.std.proofs.lemmas.Result.{on_ok_weaker}
use Rattle.nll_core.proofs.ElementGrowthLemmas.{appends_widened}
use Rattle.nll_core.proofs.frontiers.frontier.Frontier.grow.Goals as goal

pub returns-clause-found : goal.returns-clause-found
returns-clause-found g c = rw (← c.self.view_is) (on_ok_weaker c.go_on-done.result
    (appends_widened c.self.inside.reached c.widen.new.self c.go_on-done.new.reached _ _ c.widen.ensures.same)
    c.go_on-done.ensures.found)
