-- Tables of a problem and its cut, where nothing but the lists of an owner changed.
use Rattle.std.proofs.Common.{◌≡◌, sym, subst}
use Rattle.nll_problem.specs.Problem.{Problem}
use Rattle.nll_cut.specs.Partition.{Cut}
use Rattle.nll_owner.specs.Tables.{OwnerTables, AreTables}

pub tables_still : (q p : Problem) (c d : Cut) (t : OwnerTables) → p ≡ q → d ≡ c → AreTables q c t → AreTables p d t
tables_still q p c d t same_problem same_cut are =
    subst (λ x. AreTables x d t) (sym same_problem) (subst (λ x. AreTables q x t) (sym same_cut) are)
