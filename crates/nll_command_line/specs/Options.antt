-- The options among the arguments after a command, and what they say. Source: project's choice;
-- docs/FORMATS.md says the same in prose.
use Rattle.std.specs.Prelude.{◌≡◌, ◌≢◌, ◌⊎◌, ℕ, ◌<◌, ◌≤◌, true, false, List, [], ◌∷◌, ◌++◌, codes}
use Rattle.std.specs.Prelude.{Option, None, Some, option_map, string_bytes}
use Rattle.std.specs.List.{filter_map}
use Rattle.std.specs.Option.{option_to_list}
use Rattle.std.specs.Fmt.{decimal}
use Rattle.nll_problem.specs.Limits.{most_owners}
use Rattle.nll_command_line.specs.CommandLine.{IsPlainLine, begins_as_option}
use Rattle.nll_command_line.specs.declared.options.Deal.{Deal}
use Rattle.nll_command_line.specs.declared.options.Deal.TheVariants.{Round, Blocks}
use Rattle.nll_command_line.specs.declared.options.MailKind.{MailKind}
use Rattle.nll_command_line.specs.declared.options.MailKind.TheVariants.{Queue, Ring}
use Rattle.nll_command_line.specs.declared.options.Key.{Key}
use Rattle.nll_command_line.specs.declared.options.Key.TheVariants as key
use Rattle.nll_command_line.specs.declared.task.Line.{Line}
use Rattle.nll_command_line.specs.declared.task.Task.{Task}
use Rattle.nll_command_line.specs.declared.task.Task.TheVariants.{Replay}

-- An option: a number of owners, how regions are assigned, a cut file, the kind of mailboxes, or a
-- schedule.
pub data Given : Type 0 where
  owners : ℕ → Given
  deal : Deal → Given
  cut : List ℕ → Given
  mail : MailKind → Given
  schedule : List ℕ → Given

-- which option it is
abbrev pub key_of : Given → Key
key_of (owners n) = key.Owners
key_of (deal how) = key.Deal
key_of (cut file) = key.Cut
key_of (mail kind) = key.Mail
key_of (schedule file) = key.Schedule

-- the name of an option
abbrev pub word_of : Key → List ℕ
word_of key.Owners = codes "--owners"
word_of key.Deal = codes "--deal"
word_of key.Cut = codes "--cut"
word_of key.Mail = codes "--mail"
word_of key.Schedule = codes "--schedule"

-- how what it gives is written
abbrev pub value_of : Given → List ℕ
value_of (owners n) = decimal n
value_of (deal Round) = codes "round"
value_of (deal Blocks) = codes "blocks"
value_of (cut file) = file
value_of (mail Queue) = codes "queue"
value_of (mail Ring) = codes "ring"
value_of (schedule file) = file

-- there are 1 to 64 owners; what other options give is always lawful
abbrev pub IsLawfulOption : Given → Type 0
IsLawfulOption (owners n) = (0 < n) × (n ≤ most_owners)
IsLawfulOption _ = Unit {0}

-- the arguments write an option: its name and then its value, or both as one argument with a `=`
-- (61)
abbrev pub IsWritten : Given → List (List ℕ) → Type 0
IsWritten g words =
    ((words ≡ word_of (key_of g) ∷ value_of g ∷ []) × (begins_as_option (value_of g) ≡ false))
    ⊎ (words ≡ (word_of (key_of g) ++ 61 ∷ value_of g) ∷ [])

-- The options end at this argument: it begins as an option, but is the name of none, alone or with
-- a value.
pub record EndsOptions (word : List ℕ) : Type 0 where
  pub begins : begins_as_option word ≡ true
  pub alone : (k : Key) → word ≢ word_of k
  pub joined : (k : Key) (value : List ℕ) → word ≢ word_of k ++ 61 ∷ value

-- The arguments are those others, with the options among them, each in its order.
pub data HasOptions : List Given → List (List ℕ) → List (List ℕ) → Type 0 where
  none : HasOptions [] [] []
  ends : (word : List ℕ) (rest : List (List ℕ)) → EndsOptions word
      → HasOptions [] (word ∷ rest) (word ∷ rest)
  other : (given : List Given) (word : List ℕ) (others words : List (List ℕ))
      → begins_as_option word ≡ false → HasOptions given others words
      → HasOptions given (word ∷ others) (word ∷ words)
  option : (g : Given) (given : List Given) (front others words : List (List ℕ))
      → IsWritten g front → IsLawfulOption g → HasOptions given others words
      → HasOptions (g ∷ given) others (front ++ words)

-- The arguments are those others, with the options among those after the first; where the first
-- begins as an option there are none.
pub data ArePlaced : List Given → List (List ℕ) → List (List ℕ) → Type 0 where
  no_words : ArePlaced [] [] []
  unread : (first : List ℕ) (rest : List (List ℕ)) → begins_as_option first ≡ true
      → ArePlaced [] (first ∷ rest) (first ∷ rest)
  behind : (given : List Given) (first : List ℕ) (others rest : List (List ℕ))
      → begins_as_option first ≡ false → HasOptions given others rest
      → ArePlaced given (first ∷ others) (first ∷ rest)

-- ---- what options say

-- the number of owners that an option gives, and none of another kind
abbrev pub owners_in : Given → Option ℕ
owners_in (owners n) = Some n
owners_in _ = None

-- the deal that an option gives, and none of another kind
abbrev pub deal_in : Given → Option Deal
deal_in (deal how) = Some how
deal_in _ = None

-- the cut file that an option gives, and none of another kind
abbrev pub cut_in : Given → Option (List ℕ)
cut_in (cut file) = Some file
cut_in _ = None

-- the kind of mailboxes that an option gives, and none of another kind
abbrev pub mail_in : Given → Option MailKind
mail_in (mail kind) = Some kind
mail_in _ = None

-- the schedule's file that an option gives, and none of another kind
abbrev pub schedule_in : Given → Option (List ℕ)
schedule_in (schedule file) = Some file
schedule_in _ = None

-- What options give: of each option its value, where it is given.
pub record SaidOptions : Type 0 where
  pub owners : Option ℕ
  pub deal : Option Deal
  pub cut : Option (List ℕ)
  pub mail : Option MailKind
  pub schedule : Option (List ℕ)

-- no option is given
abbrev pub no_options : SaidOptions
no_options = record { owners = None; deal = None; cut = None; mail = None; schedule = None }

-- No option is given twice, and this is what they give.
pub record SaysOptions (given : List Given) (said : SaidOptions) : Type 0 where
  pub owners : filter_map owners_in given ≡ option_to_list said.owners
  pub deal : filter_map deal_in given ≡ option_to_list said.deal
  pub cut : filter_map cut_in given ≡ option_to_list said.cut
  pub mail : filter_map mail_in given ≡ option_to_list said.mail
  pub schedule : filter_map schedule_in given ≡ option_to_list said.schedule

-- The arguments are those others, with options among them that give this. The regions are not both
-- dealt and cut by a file.
pub record AreOptionsRead (words others : List (List ℕ)) (said : SaidOptions) : Type 0 where
  pub given : List Given
  pub placed : ArePlaced given others words
  pub says : SaysOptions given said
  pub one_cut : (said.deal ≡ None) ⊎ (said.cut ≡ None)

-- what the options of a line give
abbrev pub options_said : Line → SaidOptions
options_said line = record {
  owners = line.owners;
  deal = line.deal;
  cut = option_map string_bytes line.cut;
  mail = line.mail;
  schedule = option_map string_bytes line.schedule;
}

-- ---- which options suit a task

-- a schedule is given only for a replay, which has no mailboxes
abbrev pub Suits : Task → SaidOptions → Type 0
Suits Replay said = (said.schedule ≢ None) × (said.mail ≡ None)
Suits _ said = said.schedule ≡ None

-- no task that the options suit, and no file, make a plain line of the arguments
abbrev pub IsNoSuitedLine : List (List ℕ) → SaidOptions → Type 0
IsNoSuitedLine words said = (task : Task) (file : List ℕ) → IsPlainLine task file words
    → Suits task said → ⊥
