-- The replay that a line asks for, and why there is none.
-- Source: project's choice.
use Rattle.std.specs.Prelude.{◌≡◌, ◌⊎◌, ℕ, List, Option, string_bytes}
use Rattle.nll_problem.specs.Problem.{Problem}
use Rattle.nll_format.specs.Labels.{Labels}
use Rattle.nll_format.specs.Text.{IsFaultOfText}
use Rattle.nll_cut.specs.Partition.{Cut}
use Rattle.nll_model.specs.declared.event.Event.{Event}
use Rattle.nll_lists.specs.ScheduleText.{schedule, MeansSchedule}
use Rattle.nll_answer.specs.ReplayReport.{IsReplayReport}
use Rattle.nll_command_line.specs.declared.options.Deal.{Deal}
use Rattle.nll_report.specs.Owners.{IsAskedCut, IsCutRefused, IsFileMeaning, IsFileTold}
use Rattle.nll_report.specs.Texts.{HoldsAt, Lacks}
use Rattle.nll_report.specs.declared.messages.Refusal.{Refusal}
use Rattle.nll_report.specs.declared.messages.Refusal.TheVariants.{CannotRead, ScheduleText, Memory}

-- a text of the schedule's file lists these events of this many owners
abbrev pub IsListedSchedule : HoldsAt → List ℕ → ℕ → List Event → Type 0
IsListedSchedule holds path count events =
    (text : List ℕ) × holds path text × MeansSchedule count text events

-- a text of the schedule's file lists events of this many owners, and the report is that of their
-- replay by the owners of this cut of the problem's regions
abbrev pub IsListedReplay : HoldsAt → ℕ → List ℕ → List ℕ → Problem → Labels → Cut → Type 0
IsListedReplay holds count schedule report problem labels cut =
    (events : List Event) × IsListedSchedule holds schedule count events
    × IsReplayReport problem labels cut events report

-- a text of the file means a problem, and the report is that of the replay that is asked for, by
-- the owners of the cut that is asked for; the status is 0
abbrev pub IsFileReplay : HoldsAt → List ℕ → ℕ → Deal → Option (List ℕ) → List ℕ → List ℕ → ℕ
    → Type 0
IsFileReplay holds file count how path schedule report status =
    IsFileTold holds file count how path (IsListedReplay holds count schedule report)
    × (status ≡ 0)

-- ---- why there is no replay

-- the refusal says the fault of a text as a schedule of this many owners, or that memory was
-- refused
abbrev pub IsScheduleTextRefused : ℕ → List ℕ → Refusal → Type 0
IsScheduleTextRefused count text (ScheduleText line kind) =
    IsFaultOfText (schedule count) text line kind
IsScheduleTextRefused count text other = other ≡ Memory

-- the refusal is true of a text of the schedule's file, or says that there is none
abbrev pub IsScheduleRefused : HoldsAt → Lacks → ℕ → List ℕ → Refusal → Type 0
IsScheduleRefused holds lacks count path (CannotRead other) =
    (string_bytes other ≡ path) × lacks path
IsScheduleRefused holds lacks count path Memory = Unit {0}
IsScheduleRefused holds lacks count path other =
    (text : List ℕ) × holds path text × IsScheduleTextRefused count text other

-- the refusal says why there is no cut; or the cut that is asked for is there, and it says why
-- there is no schedule: so faults of the cut file come before those of the schedule
abbrev pub IsReplayRefused : HoldsAt → Lacks → ℕ → ℕ → Deal → Option (List ℕ) → List ℕ → Refusal
    → Type 0
IsReplayRefused holds lacks regions count how path schedule refusal =
    IsCutRefused holds lacks regions count path refusal
    ⊎ ((cut : Cut) × IsAskedCut holds regions count how path cut
    × IsScheduleRefused holds lacks count schedule refusal)

-- A text of the file means a problem, and the refusal is true of the cut of its regions or of the
-- schedule. So faults of the file come before those of both.
pub record IsFileReplayRefused (holds : HoldsAt) (lacks : Lacks) (file : List ℕ) (count : ℕ)
    (how : Deal) (path : Option (List ℕ)) (schedule : List ℕ) (refusal : Refusal) : Type 0 where
  pub problem : Problem
  pub labels : Labels
  pub meaning : IsFileMeaning holds file problem labels
  pub refused : IsReplayRefused holds lacks problem.regions count how path schedule refusal
