use Rattle.nll_live.proofs.AskLemmas.{both_asked}
use Rattle.nll_live.proofs.base_search.push_both.Goals as goal

pub returns : goal.returns
returns c =
    both_asked c.args.ways.now.body.now c.push_kind.new.base_runs.items c.push_kind-2.new.base_runs.items
    (rw c.requires.nothing at c.in_ok-push_kind.ensures) c.in_ok-push_kind-2.ensures
