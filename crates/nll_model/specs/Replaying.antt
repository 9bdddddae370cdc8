-- The replay of a schedule.
-- Source: project's choice.
use Rattle.std.specs.Prelude.{◌≡◌, ◌↔◌, ℕ, Bool, List, Option}
use Rattle.nll_problem.specs.Problem.{Problem}
use Rattle.nll_core.specs.Values.{IsHeld, IsShaped}
use Rattle.nll_cut.specs.Partition.{Cut}
use Rattle.nll_model.specs.State.{WorldState, IsFirst}
use Rattle.nll_model.specs.Events.{AreSteps}
use Rattle.nll_model.specs.Soundness.{IsLawful, LogSays}
use Rattle.nll_model.specs.declared.event.Event.{Event}
use Rattle.nll_model.specs.declared.outcome.Step.{Step}

-- The events lead from the first state to a last one by these answers; this is its balance, and the
-- values are what its logs say.
pub record IsReplay (q : Problem) (c : Cut) (events : List Event) (answers : List (Option Step))
    (balance : ℕ) (values : List (List Bool)) : Type 0 where
  pub first : WorldState
  pub last : WorldState
  pub begins : IsFirst q c first
  pub steps : AreSteps first events answers last
  pub lawful : IsLawful q c last
  pub ends : balance ≡ last.balance
  pub shaped : IsShaped q values
  pub says : (r e : ℕ) → IsHeld values r e ↔ LogSays c last r e
