use Rattle.nll_live.proofs.SetLemmas.{if_ok}
use Rattle.nll_live.proofs.base_elements.bases.Goals as goal

pub returns-clause-each : goal.returns-clause-each
returns-clause-each c = if_ok c.pairs_of-pairs.result _ _
    (λ v each r p.
    let runs = c.in_ok-base_runs.ensures.each r p in
    let each = rw c.as_slice.ensures.value at each in
    (λ h. runs.0 ((each r p).0 h), λ h. (each r p).1 (runs.1 h)))
    c.pairs_of-pairs.ensures.each

pub returns-clause-within : goal.returns-clause-within
returns-clause-within c = if_ok c.pairs_of-pairs.result _ _
    (λ v each r p h.
    let each = rw c.as_slice.ensures.value at each in
    c.in_ok-base_runs.ensures.within r p ((each r p).0 h))
    c.pairs_of-pairs.ensures.each
