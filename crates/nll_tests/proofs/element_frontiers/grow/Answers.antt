use Rattle.std.proofs.Common.{◌≡◌, false, not, sym, ap, rules}
use Rattle.nll_sets.specs.ElementSet.{flag}
use Rattle.nll_core.specs.Search.{IsIn}
use Rattle.nll_core.specs.Frontiers.{IsWithout}
use Rattle.nll_core.proofs.FrontierLemmas.{frontier_alike}
use Rattle.nll_core.proofs.ElementGrowthLemmas.{without_put}
use Rattle.nll_tests.proofs.element_frontiers.grow.Goals as goal

pub grow-requires-clause-reached : goal.grow-requires-clause-reached
grow-requires-clause-reached g c = λ _.
    let flags = g.S.ElementSet.flags c.args.seen.now in
    let more = g.S.ElementSet.flags c.insert.new.self in
    let lacks : flag flags c.args.element ≡ false = search rules in
    frontier_alike c.args.graph.now (IsIn flags) (IsWithout more c.args.element) c.args.frontier.now
    (without_put flags c.args.element more c.in_ok-insert.ensures.ok (ap not (sym lacks))) c.requires.reached
