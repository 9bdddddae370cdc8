-- What the program does with its words, over the texts that are held at paths. Source: project's
-- choice.
use Rattle.std.specs.Prelude.{◌≡◌, ◌⊎◌, ℕ, List, Option, Some, string_bytes}
use Rattle.std.specs.Io.KnownBytes.{Appends}
use Rattle.nll_format.specs.declared.error.TextKind.{TextKind}
use Rattle.nll_answer.specs.declared.answers.Command.{Command}
use Rattle.nll_answer.specs.declared.answers.Command.TheVariants as command
use Rattle.nll_report.specs.declared.messages.Refusal.{Refusal}
use Rattle.nll_report.specs.declared.messages.Refusal.TheVariants.{Usage, CannotRead, Text}
use Rattle.nll_report.specs.declared.messages.Refusal.TheVariants.{Limit, CutText, CutLength}
use Rattle.nll_report.specs.declared.messages.Refusal.TheVariants.{NoSuchOwner, ScheduleText}
use Rattle.nll_report.specs.declared.messages.Refusal.TheVariants.{Thread, Memory, CannotWrite}
use Rattle.nll_problem.specs.declared.error.Kind.{Kind}
use Rattle.nll_rules.specs.declared.error.RuleError.TheVariants as rule
use Rattle.nll_answer.specs.declared.error.AnswerError.TheVariants as answer
use Rattle.nll_command_line.specs.declared.task.Task.{Task}
use Rattle.nll_command_line.specs.declared.task.Task.TheVariants.{Values, Check, Replay}
use Rattle.nll_answer.specs.Answer.{IsAnswer}
use Rattle.nll_answer.specs.Running.{IsRunAnswer}
use Rattle.nll_answer.specs.Texts.{IsTextFault, IsAnswerError}
use Rattle.nll_command_line.specs.CommandLine.{AsksPlainlyForHelp, IsTaskLine, IsNoPlainLine}
use Rattle.nll_command_line.specs.Options.{AreOptionsRead, IsNoSuitedLine, SaidOptions, Suits}
use Rattle.nll_command_line.specs.Help.{help_for}
use Rattle.nll_command_line.specs.declared.error.LineError.{LineError}
use Rattle.nll_command_line.specs.declared.error.LineError.TheVariants as line
use Rattle.nll_command_line.specs.Grammar.{AsksForHelp}
use Rattle.nll_report.specs.Owners.{AsksForOwners, IsFileTold, IsOwnersRefused, count_of, deal_of}
use Rattle.nll_report.specs.Replays.{IsFileReplay, IsFileReplayRefused}
use Rattle.nll_report.specs.Sink.{IsCutShort}
use Rattle.nll_report.specs.Texts.{HoldsAt, Lacks}

-- the words of a command line
abbrev pub Words : Type 0
Words = List (List ℕ)

-- A text of the file has the report and the status as the answer to the command.
pub record IsFileAnswer (holds : HoldsAt) (asked : Command) (file report : List ℕ) (status : ℕ)
    : Type 0 where
  pub text : List ℕ
  pub held : holds file text
  pub answer : IsAnswer asked text report status

-- the report and the status answer the command on the file; if owners are asked for, they are the
-- answer of a run of the owners of the cut that is asked for, of the regions of a problem that a
-- text of the file means
abbrev pub IsAskedAnswer : HoldsAt → Command → List ℕ → SaidOptions → List ℕ → ℕ → Type 0
IsAskedAnswer holds asked file said report status =
    IsFileAnswer holds asked file report status
    × (AsksForOwners said.owners said.cut → IsFileTold holds file
    (count_of said.owners) (deal_of said.deal) said.cut
    (λ problem labels cut. IsRunAnswer asked problem labels cut report status))

-- the report and the status answer the task on the file: its values or faults, or the replay of the
-- schedule that the options give; if the options ask for owners, by the cut that they ask for
abbrev pub IsTaskAnswer : HoldsAt → Task → List ℕ → SaidOptions → List ℕ → ℕ → Type 0
IsTaskAnswer holds Values file said report status =
    IsAskedAnswer holds command.Values file said report status
IsTaskAnswer holds Check file said report status =
    IsAskedAnswer holds command.Check file said report status
IsTaskAnswer holds Replay file said report status =
    (path : List ℕ) × (said.schedule ≡ Some path) × IsFileReplay holds file
    (count_of said.owners) (deal_of said.deal) said.cut path report status

-- The words are a line of this task and file, with options among them that give this and suit the
-- task, and do not plainly ask for help.
pub record IsTaskAsked (words : Words) (task : Task) (file : List ℕ)
    (said : SaidOptions) : Type 0 where
  pub others : Words
  pub read : AreOptionsRead words others said
  pub line : IsTaskLine task file others
  pub suits : Suits task said
  pub other : AsksPlainlyForHelp others → ⊥

-- The words are a line and do not plainly ask for help, and the report and the status answer its
-- task on its file; those of values and of faults are the same with owners as without.
pub record IsReport (holds : HoldsAt) (words : Words) (report : List ℕ) (status : ℕ) : Type 0 where
  pub task : Task
  pub file : List ℕ
  pub said : SaidOptions
  pub asked : IsTaskAsked words task file said
  pub answer : IsTaskAnswer holds task file said report status

-- The words, without options among them, are no plain line and ask for help; the bytes are the
-- help, with status 0.
pub record IsHelp (words : Words) (bytes : List ℕ) (status : ℕ) : Type 0 where
  pub others : Words
  pub said : SaidOptions
  pub read : AreOptionsRead words others said
  pub plain : IsNoPlainLine others
  pub asked : AsksForHelp others
  pub is : bytes ≡ help_for others
  pub told : status ≡ 0

-- the bytes and the status are a report and its status, or those of help
abbrev pub IsRun : HoldsAt → Words → List ℕ → ℕ → Type 0
IsRun holds words bytes status = IsReport holds words bytes status ⊎ IsHelp words bytes status

-- The bytes of a run with this status were appended to the known bytes of a writer.
pub record IsPrinted (holds : HoldsAt) (words : Words) (status : ℕ) (old new : Option (List ℕ))
    : Type 0 where
  pub bytes : List ℕ
  pub run : IsRun holds words bytes status
  pub appended : Appends old new bytes

-- A sink that may refuse some of the bytes of a run, whatever its status, got a prefix of them.
pub record IsPrintBegun (holds : HoldsAt) (words : Words) (room : Option ℕ) (old new : Option
    (List ℕ))
    : Type 0 where
  pub bytes : List ℕ
  pub status : ℕ
  pub run : IsRun holds words bytes status
  pub cut : IsCutShort room old new bytes

-- A text of the file has this fault.
pub record IsFileFault (holds : HoldsAt) (file : List ℕ) (line : ℕ) (kind : TextKind) : Type 0 where
  pub text : List ℕ
  pub held : holds file text
  pub fault : IsTextFault text line kind

-- A text of the file means a body that goes past this limit.
pub record IsFileLimit (holds : HoldsAt) (file : List ℕ) (counted : Kind) : Type 0 where
  pub text : List ℕ
  pub held : holds file text
  pub over : IsAnswerError text (answer.Rule (rule.Limit counted))

-- the refusal is true of a text of the file
abbrev pub IsFileRefused : HoldsAt → Lacks → List ℕ → Refusal → Type 0
IsFileRefused holds lacks file Usage = ⊥
IsFileRefused holds lacks file (CannotRead path) = (string_bytes path ≡ file) × lacks file
IsFileRefused holds lacks file (Text line kind) = IsFileFault holds file line kind
IsFileRefused holds lacks file (Limit counted) = IsFileLimit holds file counted
IsFileRefused holds lacks file (CutText line kind) = ⊥
IsFileRefused holds lacks file CutLength = ⊥
IsFileRefused holds lacks file (NoSuchOwner index) = ⊥
IsFileRefused holds lacks file (ScheduleText line kind) = ⊥
IsFileRefused holds lacks file Thread = ⊥
IsFileRefused holds lacks file Memory = Unit {0}
IsFileRefused holds lacks file CannotWrite = ⊥

-- owners are asked for, and the refusal is true of the cut file or of the owners at work
abbrev pub AreOwnersRefused : HoldsAt → Lacks → List ℕ → SaidOptions → Refusal → Type 0
AreOwnersRefused holds lacks file said refusal =
    AsksForOwners said.owners said.cut × IsOwnersRefused holds lacks file
    (count_of said.owners) (deal_of said.deal) said.cut refusal

-- after the file, the refusal is true of owners that are asked for; or, of a replay, of the cut or
-- of the schedule
abbrev pub IsRefusedBehindFile : HoldsAt → Lacks → Task → List ℕ → SaidOptions → Refusal → Type 0
IsRefusedBehindFile holds lacks Values file said refusal =
    AreOwnersRefused holds lacks file said refusal
IsRefusedBehindFile holds lacks Check file said refusal =
    AreOwnersRefused holds lacks file said refusal
IsRefusedBehindFile holds lacks Replay file said refusal =
    (path : List ℕ) × (said.schedule ≡ Some path) × IsFileReplayRefused holds lacks file
    (count_of said.owners) (deal_of said.deal) said.cut path refusal

-- the refusal is true of a text of the file, or of what the task asks for after it
abbrev pub IsTaskRefused : HoldsAt → Lacks → Task → List ℕ → SaidOptions → Refusal → Type 0
IsTaskRefused holds lacks task file said refusal =
    IsFileRefused holds lacks file refusal
    ⊎ IsRefusedBehindFile holds lacks task file said refusal

-- The words are a line and do not plainly ask for help, and the refusal is true of what it asks
-- for.
pub record IsLineRefused (holds : HoldsAt) (lacks : Lacks) (words : Words) (refusal : Refusal)
    : Type 0 where
  pub task : Task
  pub file : List ℕ
  pub said : SaidOptions
  pub asked : IsTaskAsked words task file said
  pub refused : IsTaskRefused holds lacks task file said refusal

-- however the words are read, with options among them or without, the others are no plain line of a
-- task that the options suit, and do not plainly ask for help
abbrev pub AreRefused : Words → Type 0
AreRefused words = (others : Words) (said : SaidOptions) → AreOptionsRead words others said
    → IsNoSuitedLine others said × (AsksPlainlyForHelp others → ⊥)

-- the refusal is true of the words and the texts; refused memory says nothing of them
abbrev pub IsRunRefused : HoldsAt → Lacks → Words → Refusal → Type 0
IsRunRefused holds lacks words Usage = AreRefused words
IsRunRefused holds lacks words (CannotRead path) = IsLineRefused holds lacks words (CannotRead path)
IsRunRefused holds lacks words (Text line kind) = IsLineRefused holds lacks words (Text line kind)
IsRunRefused holds lacks words (Limit counted) = IsLineRefused holds lacks words (Limit counted)
IsRunRefused holds lacks words (CutText line kind) =
    IsLineRefused holds lacks words (CutText line kind)
IsRunRefused holds lacks words CutLength = IsLineRefused holds lacks words CutLength
IsRunRefused holds lacks words (NoSuchOwner index) =
    IsLineRefused holds lacks words (NoSuchOwner index)
IsRunRefused holds lacks words (ScheduleText line kind) =
    IsLineRefused holds lacks words (ScheduleText line kind)
IsRunRefused holds lacks words Thread = IsLineRefused holds lacks words Thread
IsRunRefused holds lacks words Memory = Unit {0}
IsRunRefused holds lacks words CannotWrite = ⊥

-- ---- what is made of the error of the words: private contracts alone cite this

-- the bytes and the status are those of the error's help
abbrev pub IsHelpOf : LineError → List ℕ → ℕ → Type 0
IsHelpOf (line.Help text) bytes status = (bytes ≡ string_bytes text) × (status ≡ 0)
IsHelpOf line.Usage bytes status = ⊥
IsHelpOf line.Memory bytes status = ⊥

-- the refusal follows from the error
abbrev pub IsRefusalOf : LineError → Refusal → Type 0
IsRefusalOf (line.Help text) refusal = ⊥
IsRefusalOf line.Usage refusal = refusal ≡ Usage
IsRefusalOf line.Memory refusal = refusal ≡ Memory
