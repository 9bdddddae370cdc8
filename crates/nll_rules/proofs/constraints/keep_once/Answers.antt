use Rattle.std.proofs.lemmas.List.Filters.{dedup_is}
use Rattle.nll_problem.specs.Building.{same_pair}
use Rattle.nll_problem.proofs.BaseLemmas.{distinct_same, finished_same}
use Rattle.nll_rules.proofs.constraints.keep_once.Goals as goal

pub returns-then-len-gt-FEW : goal.returns-then-len-gt-FEW
returns-then-len-gt-FEW c = rw (dedup_is same_pair _ _ c.dedup.ensures.filtered)
    (λ x. let kept = finished_same _ _ c.sort_unstable.ensures.permutation x in
    let all = distinct_same c.args.pairs.now.items x in
    (λ h. kept.0 (all.0 h), λ h. all.1 (kept.1 h)))
