use Rattle.std.proofs.Common.{◌≡◌, Some, slice_get, subst}
use Rattle.nll_run_tests.proofs.ListLemmas.{map_place}
use Rattle.nll_run_tests.proofs.watches.WatchedLedger.open.Goals as goal

pub returns-clause-shares : goal.returns-clause-shares
returns-clause-shares g c place share e =
    c.in_ok-inner.ensures.shares place share.inner
    (subst (λ xs. slice_get xs place ≡ Some share.inner) c.in_ok-shares.ensures
    (map_place (λ s. s.inner) c.in_ok-shares.shares.items place share e))
