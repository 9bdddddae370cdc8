-- The answer of a run of owners, and why there is none.
-- Source: project's choice.
use Rattle.std.specs.Prelude.{ℕ, List}
use Rattle.nll_problem.specs.Problem.{Problem}
use Rattle.nll_format.specs.Labels.{Labels}
use Rattle.nll_cut.specs.Partition.{Cut}
use Rattle.nll_mail.specs.declared.growth.Growth.{Growth}
use Rattle.nll_owner.specs.Logs.{AreSoundLogs, log_of, part}
use Rattle.nll_run.specs.Outcome.{SayLeast}
use Rattle.run.specs.declared.error.RunError.{RunError}
use Rattle.run.specs.declared.error.RunError.TheVariants as run
use Rattle.nll_answer.specs.Answer.{IsProblemAnswer}
use Rattle.nll_answer.specs.declared.answers.Command.{Command}
use Rattle.nll_answer.specs.declared.error.AnswerError.{AnswerError}
use Rattle.nll_answer.specs.declared.error.AnswerError.TheVariants.{Text, Rule, Run, Memory}

-- Each owner of the cut has a log, which is well-formed, and well-supported by it and the parts of
-- the other logs that the owner reads. The log of each region's owner says exactly the least value,
-- and the report and the status are what the command asks of the problem.
pub record IsRunAnswer (command : Command) (q : Problem) (labels : Labels) (c : Cut)
    (report : List ℕ) (status : ℕ) : Type 0 where
  pub logs : List (List Growth)
  pub sound : AreSoundLogs q c logs (λ i j. part q c i (log_of logs j))
  pub logged : SayLeast q c logs
  pub answer : IsProblemAnswer command q labels report status

-- the error of an answer for that of a run: a thread that wasn't started, or a failed allocation
abbrev pub error_of_run : RunError → AnswerError
error_of_run run.Thread = Run run.Thread
error_of_run run.Memory = Memory

-- the error says that a thread wasn't started, or that an allocation failed
abbrev pub IsRunError : AnswerError → Type 0
IsRunError (Run run.Thread) = Unit {0}
IsRunError (Run run.Memory) = ⊥
IsRunError (Text error) = ⊥
IsRunError (Rule error) = ⊥
IsRunError Memory = Unit {0}
