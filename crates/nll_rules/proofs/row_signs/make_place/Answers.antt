use Rattle.nll_rules.proofs.RowSignLemmas.{same_with_none}
use Rattle.nll_rules.proofs.row_signs.make_place.Goals as goal

pub loop-known-preserved : goal.loop-known-preserved
loop-known-preserved c k e =
    rw c.in_ok-push.ensures.items
    (same_with_none c.args.known.now.items c.loop-known.known.items k e (c.loop-known.invariant k e))

pub returns-in_err-push-clause-same : goal.returns-in_err-push-clause-same
returns-in_err-push-clause-same c k e = rw c.in_err-push.ensures.items (c.loop-known.invariant k e)
