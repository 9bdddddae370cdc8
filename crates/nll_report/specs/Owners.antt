-- The owners that a line asks for, the cut of the regions among them, and why there is none.
-- Source: project's choice.
use Rattle.std.specs.Prelude.{◌≡◌, ℕ, ◌/◌, ◌%◌, List, Option, None, Some, string_bytes}
use Rattle.nll_problem.specs.Problem.{Problem}
use Rattle.nll_format.specs.Labels.{Labels}
use Rattle.nll_format.specs.Text.{IsFaultOfText}
use Rattle.nll_cut.specs.Partition.{Cut, Deals, IsBlockSize, cut_of, list_error}
use Rattle.nll_cut.specs.declared.error.CutError.{CutError}
use Rattle.nll_cut.specs.declared.error.CutError.TheVariants as due
use Rattle.nll_lists.specs.CutText.{cut, MeansCut}
use Rattle.nll_answer.specs.Texts.{IsMeaning}
use Rattle.nll_command_line.specs.declared.options.Deal.{Deal}
use Rattle.nll_command_line.specs.declared.options.Deal.TheVariants.{Round, Blocks}
use Rattle.nll_command_line.specs.declared.options.MailKind.{MailKind}
use Rattle.nll_command_line.specs.declared.options.MailKind.TheVariants.{Queue}
use Rattle.nll_report.specs.Texts.{HoldsAt, Lacks}
use Rattle.nll_report.specs.declared.messages.Refusal.{Refusal}
use Rattle.nll_report.specs.declared.messages.Refusal.TheVariants.{CannotRead, CutText}
use Rattle.nll_report.specs.declared.messages.Refusal.TheVariants.{CutLength, NoSuchOwner}
use Rattle.nll_report.specs.declared.messages.Refusal.TheVariants.{Thread, Memory}

-- owners are asked for if their number is given, or a cut file
abbrev pub AsksForOwners : Option ℕ → Option (List ℕ) → Type 0
AsksForOwners None None = ⊥
AsksForOwners None (Some path) = Unit {0}
AsksForOwners (Some count) path = Unit {0}

-- there is one owner if no number is given
abbrev pub count_of : Option ℕ → ℕ
count_of None = 1
count_of (Some count) = count

-- regions are assigned round-robin by default
abbrev pub deal_of : Option Deal → Deal
deal_of None = Round
deal_of (Some how) = how

-- mailboxes are queues by default
abbrev pub mail_of : Option MailKind → MailKind
mail_of None = Queue
mail_of (Some kind) = kind

-- ---- the cut

-- the text lists the owners of the cut, and this list is a cut of this many regions among this many
-- owners
abbrev pub IsTextCut : ℕ → ℕ → List ℕ → Cut → Type 0
IsTextCut regions count text c =
    (list : List ℕ) × MeansCut text list × (list_error regions count list ≡ None)
    × (c ≡ cut_of count list)

-- a text of the cut file lists the owners of the cut
abbrev pub IsListedCut : HoldsAt → ℕ → ℕ → List ℕ → Cut → Type 0
IsListedCut holds regions count path c =
    (text : List ℕ) × holds path text × IsTextCut regions count text c

-- this many regions are assigned round-robin, or in blocks of consecutive regions
abbrev pub IsDealtCut : ℕ → ℕ → Deal → Cut → Type 0
IsDealtCut regions count Round c = Deals regions count (λ r. r % count) c
IsDealtCut regions count Blocks c =
    (size : ℕ) × IsBlockSize regions count size × Deals regions count (λ r. r / size) c

-- the cut is the one of the cut file; without one, the regions are assigned by a rule
abbrev pub IsAskedCut : HoldsAt → ℕ → ℕ → Deal → Option (List ℕ) → Cut → Type 0
IsAskedCut holds regions count how (Some path) c = IsListedCut holds regions count path c
IsAskedCut holds regions count how None c = IsDealtCut regions count how c

-- A text of the file means a problem.
pub record IsFileMeaning (holds : HoldsAt) (file : List ℕ) (problem : Problem) (labels : Labels)
    : Type 0 where
  pub text : List ℕ
  pub held : holds file text
  pub meaning : IsMeaning text problem labels

-- There is the cut of this many regions that is asked for, and what is reported holds of it.
pub record HasAskedCut (holds : HoldsAt) (regions count : ℕ) (how : Deal) (path : Option (List ℕ))
    (Told : Cut → Type 0) : Type 0 where
  pub cut : Cut
  pub asked : IsAskedCut holds regions count how path cut
  pub told : Told cut

-- A text of the file means a problem, there is the cut of its regions that is asked for, and what
-- is reported holds of the problem, its labels and this cut.
pub record IsFileTold (holds : HoldsAt) (file : List ℕ) (count : ℕ) (how : Deal)
    (path : Option (List ℕ)) (Told : Problem → Labels → Cut → Type 0) : Type 0 where
  pub problem : Problem
  pub labels : Labels
  pub meaning : IsFileMeaning holds file problem labels
  pub by : HasAskedCut holds problem.regions count how path (Told problem labels)

-- ---- why there is no cut

-- The text lists owners, and this is why its list is no cut of this many regions among this many
-- owners.
pub record IsNoCut (regions count : ℕ) (text : List ℕ) (why : CutError) : Type 0 where
  pub list : List ℕ
  pub means : MeansCut text list
  pub due : list_error regions count list ≡ Some why

-- the refusal says the text's fault or why its list is no cut, or that memory was refused
abbrev pub IsCutTextRefused : ℕ → ℕ → List ℕ → Refusal → Type 0
IsCutTextRefused regions count text (CutText line kind) = IsFaultOfText cut text line kind
IsCutTextRefused regions count text CutLength = IsNoCut regions count text due.Length
IsCutTextRefused regions count text (NoSuchOwner index) =
    IsNoCut regions count text (due.NoSuchOwner index)
IsCutTextRefused regions count text other = other ≡ Memory

-- the refusal is true of a text of the cut file, or says that there is none
abbrev pub IsCutFileRefused : HoldsAt → Lacks → ℕ → ℕ → List ℕ → Refusal → Type 0
IsCutFileRefused holds lacks regions count path (CannotRead other) =
    (string_bytes other ≡ path) × lacks path
IsCutFileRefused holds lacks regions count path Memory = Unit {0}
IsCutFileRefused holds lacks regions count path other =
    (text : List ℕ) × holds path text × IsCutTextRefused regions count text other

-- the refusal says why there is no cut; without a cut file, memory was refused
abbrev pub IsCutRefused : HoldsAt → Lacks → ℕ → ℕ → Option (List ℕ) → Refusal → Type 0
IsCutRefused holds lacks regions count (Some path) refusal =
    IsCutFileRefused holds lacks regions count path refusal
IsCutRefused holds lacks regions count None refusal = refusal ≡ Memory

-- ---- why owners give no report

-- the refusal is true of the cut or of the owners at work; that a thread couldn't be started says
-- that the cut is there, and that memory was refused says nothing of the texts
abbrev pub IsWorkRefused : HoldsAt → Lacks → Problem → ℕ → Deal → Option (List ℕ) → Refusal
    → Type 0
IsWorkRefused holds lacks q count how path Thread =
    (cut : Cut) × IsAskedCut holds q.regions count how path cut
IsWorkRefused holds lacks q count how path Memory = Unit {0}
IsWorkRefused holds lacks q count how path other =
    IsCutRefused holds lacks q.regions count path other

-- A text of the file means a problem, and the refusal is true of the cut of its regions or of the
-- owners at work on it. So faults of the file come before those of the cut file.
pub record IsOwnersRefused (holds : HoldsAt) (lacks : Lacks) (file : List ℕ) (count : ℕ)
    (how : Deal)
    (path : Option (List ℕ)) (refusal : Refusal) : Type 0 where
  pub problem : Problem
  pub labels : Labels
  pub meaning : IsFileMeaning holds file problem labels
  pub refused : IsWorkRefused holds lacks problem count how path refusal
