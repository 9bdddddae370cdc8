-- The sets that all owners give up at the end. Only private contracts cite this file. Source:
-- project's choice.
use Rattle.std.specs.Prelude.{◌≡◌, ℕ, ◌<◌, List, [], length, slice_index_or}
use Rattle.nll_problem.specs.Problem.{Problem}
use Rattle.nll_cut.specs.Partition.{Cut}
use Rattle.nll_mail.specs.declared.growth.Growth.{Growth}
use Rattle.nll_owner.specs.Logs.{log_of}
use Rattle.nll_owner.specs.Holding.{Holding, AreValuesOf}

-- the holding of owner i
abbrev pub holding_of : List Holding → ℕ → Holding
holding_of holdings i = slice_index_or holdings i (record { regions = []; sets = [] })

-- Each owner of the cut has a log and a holding, which has the values that the log says.
pub record HaveValuesOf (q : Problem) (c : Cut) (logs : List (List Growth))
    (holdings : List Holding) : Type 0 where
  pub logs_counted : length logs ≡ c.owners
  pub counted : length holdings ≡ c.owners
  pub each :
      (i : ℕ) → i < c.owners → AreValuesOf q c i (log_of logs i) (holding_of holdings i)
