use Rattle.std.proofs.Common.{◌<◌, length, sym, ◌∙◌, subst}
use Rattle.std.proofs.lemmas.Bool.{not-true, not-false}
use Rattle.nll_core.specs.Search.{Search}
use Rattle.nll_core.proofs.SearchLemmas.{visits_one, visits_again}
use Rattle.nll_core.proofs.search.Search.visit.Goals as goal

pub returns-in_ok-push : goal.returns-in_ok-push
returns-in_ok-push g c =
    let old : Search =
    record { reached = g.R.ElementSet.flags c.self.inside.reached; list = c.self.inside.list.items } in
    let within = subst (λ (search : Search). c.args.element < length search.reached) (sym c.self.view_is) c.requires in
    rw (c.in_ok-insert.ensures.ok, c.in_ok-push.ensures.items, ← c.self.view_is)
    (visits_one old c.args.element within (not-true _ (sym c.in_ok-insert.ensures.new ∙ c.if-branch.true)))

pub returns-else-branch : goal.returns-else-branch
returns-else-branch g c =
    let old : Search =
    record { reached = g.R.ElementSet.flags c.self.inside.reached; list = c.self.inside.list.items } in
    rw (c.in_ok-insert.ensures.ok, ← c.self.view_is)
    (visits_again old c.args.element (not-false _ (sym c.in_ok-insert.ensures.new ∙ c.if-branch.false)))
