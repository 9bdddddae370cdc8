-- Why the program gives no report: its status, its line, and how it follows from a text's fault.
-- Source: project's choice.
use Rattle.std.specs.Prelude.{◌≡◌, ℕ, List, [], ◌∷◌, ◌++◌, codes, string_bytes}
use Rattle.std.specs.Fmt.{decimal}
use Rattle.nll_problem.specs.declared.error.Kind.{Kind}
use Rattle.nll_problem.specs.declared.error.Kind.TheVariants as limit
use Rattle.nll_format.specs.declared.error.TextError.{TextError}
use Rattle.nll_format.specs.declared.error.TextKind.{TextKind}
use Rattle.nll_format.specs.declared.error.TextKind.TheVariants as kind
use Rattle.nll_answer.specs.declared.error.AnswerError.{AnswerError}
use Rattle.nll_answer.specs.declared.error.AnswerError.TheVariants as answer
use Rattle.nll_report.specs.declared.messages.Refusal.{Refusal}
use Rattle.nll_report.specs.declared.messages.Refusal.TheVariants.{Usage, CannotRead, Text}
use Rattle.nll_report.specs.declared.messages.Refusal.TheVariants.{Limit, CutText, CutLength}
use Rattle.nll_report.specs.declared.messages.Refusal.TheVariants.{NoSuchOwner, ScheduleText}
use Rattle.nll_report.specs.declared.messages.Refusal.TheVariants.{Thread, Memory, CannotWrite}
use Rattle.nll_cut.specs.declared.error.CutError.{CutError}
use Rattle.nll_cut.specs.declared.error.CutError.TheVariants as cut
use Rattle.run.specs.declared.error.RunError.TheVariants as run
use Rattle.nll_rules.specs.declared.error.RuleError.TheVariants as rule

-- 2 for what was given to the program, 3 for what it lacked
abbrev pub status_of : Refusal → ℕ
status_of Usage = 2
status_of (CannotRead path) = 2
status_of (Text line kind) = 2
status_of (Limit counted) = 2
status_of (CutText line kind) = 2
status_of CutLength = 2
status_of (NoSuchOwner index) = 2
status_of (ScheduleText line kind) = 2
status_of Thread = 3
status_of Memory = 3
status_of CannotWrite = 3

-- the refusal of a text for a fault at this line
abbrev pub refusal_at : ℕ → TextKind → Refusal
refusal_at line kind.Memory = Memory
refusal_at line other = Text line other

-- the refusal of a text
abbrev pub refusal_of_text : TextError → Refusal
refusal_of_text error = refusal_at error.line error.kind

-- the refusal of a text that has no answer
abbrev pub refusal_of : AnswerError → Refusal
refusal_of (answer.Text error) = refusal_of_text error
refusal_of (answer.Rule (rule.Limit counted)) = Limit counted
refusal_of (answer.Rule rule.Memory) = Memory
refusal_of (answer.Run run.Thread) = Thread
refusal_of (answer.Run run.Memory) = Memory
refusal_of answer.Memory = Memory

-- the refusal of a cut file for a fault at this line
abbrev pub cut_refusal_at : ℕ → TextKind → Refusal
cut_refusal_at line kind.Memory = Memory
cut_refusal_at line other = CutText line other

-- the refusal of a schedule for a fault at this line
abbrev pub schedule_refusal_at : ℕ → TextKind → Refusal
schedule_refusal_at line kind.Memory = Memory
schedule_refusal_at line other = ScheduleText line other

-- the refusal follows from why a list is no cut; a number of owners that isn't allowed is refused
-- with the words already
abbrev pub IsCutRefusal : CutError → Refusal → Type 0
IsCutRefusal cut.Owners refusal = ⊥
IsCutRefusal cut.Length refusal = refusal ≡ CutLength
IsCutRefusal (cut.NoSuchOwner index) refusal = refusal ≡ NoSuchOwner index
IsCutRefusal cut.Memory refusal = refusal ≡ Memory

-- a limit is printed with the word of what it counts
abbrev pub limit_text : Kind → List ℕ
limit_text limit.Text = codes "limit text"
limit_text limit.Points = codes "limit points"
limit_text limit.Edges = codes "limit edges"
limit_text limit.Universals = codes "limit universals"
limit_text limit.Regions = codes "limit regions"
limit_text limit.Constraints = codes "limit constraints"
limit_text limit.Variables = codes "limit variables"
limit_text limit.Structs = codes "limit structs"

-- the kind of a text's fault, as it is printed
abbrev pub kind_text : TextKind → List ℕ
kind_text kind.NotUtf8 = codes "not utf-8"
kind_text kind.Header = codes "header"
kind_text kind.Syntax = codes "syntax"
kind_text kind.Unknown = codes "unknown"
kind_text kind.Duplicate = codes "duplicate"
kind_text kind.Range = codes "range"
kind_text kind.Shape = codes "shape"
kind_text kind.TypeSize = codes "type size"
kind_text (kind.Limit counted) = limit_text counted
kind_text kind.End = codes "end"
kind_text kind.Memory = codes "memory"

-- the line of a refusal, without its end
abbrev pub refusal_text : Refusal → List ℕ
refusal_text Usage = codes "usage: nllc values|check|replay FILE [--owners N] "
    ++ codes "[--deal round|blocks] [--cut FILE] [--mail queue|ring] [--schedule FILE]"
refusal_text (CannotRead path) = codes "nllc: cannot read " ++ string_bytes path
refusal_text (Text line kind) = codes "nllc: line " ++ decimal line ++ codes ": " ++ kind_text kind
refusal_text (Limit counted) = codes "nllc: " ++ limit_text counted
refusal_text (CutText line kind) =
    codes "nllc: cut line " ++ decimal line ++ codes ": " ++ kind_text kind
refusal_text CutLength = codes "nllc: cut: length"
refusal_text (NoSuchOwner index) = codes "nllc: cut: no such owner at " ++ decimal index
refusal_text (ScheduleText line kind) =
    codes "nllc: schedule line " ++ decimal line ++ codes ": " ++ kind_text kind
refusal_text Thread = codes "nllc: thread"
refusal_text Memory = codes "nllc: memory"
refusal_text CannotWrite = codes "nllc: cannot write"

-- the line of a refusal, with its end
abbrev pub refusal_line : Refusal → List ℕ
refusal_line refusal = refusal_text refusal ++ 10 ∷ []
