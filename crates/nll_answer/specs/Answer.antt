-- The answer to a text.
-- Source: project's choice over RFC 2094, "Solving constraints" and "Layer 4: Named lifetimes".
use Rattle.std.specs.Prelude.{◌≡◌, ℕ, List, [], ◌∷◌}
use Rattle.nll_problem.specs.Problem.{Problem}
use Rattle.nll_problem.specs.Solution.{Least}
use Rattle.nll_problem.specs.Faults.{AreFaults}
use Rattle.nll_format.specs.Labels.{Labels}
use Rattle.nll_answer.specs.Report.{IsValuesReport, faults_report}
use Rattle.nll_answer.specs.declared.answers.Command.{Command}
use Rattle.nll_answer.specs.declared.answers.Command.TheVariants.{Values, Check}
use Rattle.nll_answer.specs.Texts.{IsMeaning}

-- 1 where there is a fault, else 0
abbrev pub status_of_faults : List (ℕ × ℕ) → ℕ
status_of_faults [] = 0
status_of_faults (fault ∷ faults) = 1

-- The report is that of the faults of the problem's least values, and the status says whether there
-- are any.
pub record IsCheckReport (q : Problem) (labels : Labels) (report : List ℕ) (status : ℕ)
    : Type 0 where
  pub faults : List (ℕ × ℕ)
  pub exact : AreFaults q (Least q) faults
  pub printed : report ≡ faults_report labels faults
  pub told : status ≡ status_of_faults faults

-- the report and the status are what the command asks of the problem
abbrev pub IsProblemAnswer : Command → Problem → Labels → List ℕ → ℕ → Type 0
IsProblemAnswer Values q labels report status =
    IsValuesReport q labels (Least q) report × (status ≡ 0)
IsProblemAnswer Check q labels report status = IsCheckReport q labels report status

-- The text means a problem, and the report and the status are what the command asks of it.
pub record IsAnswer (command : Command) (text report : List ℕ) (status : ℕ) : Type 0 where
  pub problem : Problem
  pub labels : Labels
  pub meaning : IsMeaning text problem labels
  pub answer : IsProblemAnswer command problem labels report status
