use Rattle.std.proofs.Common.{◌≡◌, ◌≢◌, [], subst, sym, ⊎_elim}
use Rattle.std.proofs.lemmas.Bool.{cases_eq}
use Rattle.nll_owner.specs.Holding.{HasSet}
use Rattle.nll_owner_tests.proofs.holdings.write_taken.Goals as goal

pub returns : goal.returns
returns c = λ r set has. ⊎_elim
    (λ (same : r ≡ c.args.region).
    ([], subst (λ n. HasSet c.take-set.new.self n []) (sym same) c.take-set.ensures.gone))
    (λ (other : r ≢ c.args.region). (set, (c.take-set.ensures.others r set other).1 has))
    (cases_eq r c.args.region)
