-- Which arguments make a command line. Source: this project's own.
use Rattle.std.specs.Prelude.{◌≡◌, ◌⊎◌, ◌==◌, ℕ, Bool, false, List, [], ◌∷◌, ◌++◌, codes}
use Rattle.std.specs.Prelude.{Option, None, Some, if◌then◌else◌}
use Rattle.std.specs.Str.{bytes_eq}
use Rattle.nll_command_line.specs.declared.task.Task.{Task}
use Rattle.nll_command_line.specs.declared.task.Task.TheVariants.{Values, Check, Replay}

-- the name of a task
abbrev pub name_of : Task → List ℕ
name_of Values = codes "values"
name_of Check = codes "check"
name_of Replay = codes "replay"

-- the task with this name
abbrev pub task_named : List ℕ → Option Task
task_named word =
    if bytes_eq word (codes "values") then Some Values
    else (if bytes_eq word (codes "check") then Some Check
    else (if bytes_eq word (codes "replay") then Some Replay else None))

-- a hyphen (45) and more: an option, or the end of the options
abbrev pub begins_as_option : List ℕ → Bool
begins_as_option [] = false
begins_as_option (b ∷ []) = false
begins_as_option (b ∷ c ∷ rest) = b == 45

-- the arguments are the name of the task and those others
abbrev pub AsksForTask : Task → List (List ℕ) → List (List ℕ) → Type 0
AsksForTask task rest words = words ≡ name_of task ∷ rest

-- the arguments after a command name the file: it is alone, or has `--` before or after it
abbrev pub NamesFile : List ℕ → List (List ℕ) → Type 0
NamesFile file words = (words ≡ file ∷ [])
    ⊎ ((words ≡ codes "--" ∷ file ∷ []) ⊎ (words ≡ file ∷ codes "--" ∷ []))

-- the arguments name the task and then the file
abbrev pub IsTaskLine : Task → List ℕ → List (List ℕ) → Type 0
IsTaskLine task file words = (rest : List (List ℕ)) × AsksForTask task rest words
    × NamesFile file rest

-- like `IsLine`, but the file does not begin as an option unless `--` comes before it
abbrev pub IsPlainLine : Task → List ℕ → List (List ℕ) → Type 0
IsPlainLine task file words = (AsksForTask task (file ∷ []) words × (begins_as_option file ≡ false))
    ⊎ (AsksForTask task (codes "--" ∷ file ∷ []) words
    ⊎ (AsksForTask task (file ∷ codes "--" ∷ []) words × (begins_as_option file ≡ false)))

-- no task and file make a plain line of the arguments
abbrev pub IsNoPlainLine : List (List ℕ) → Type 0
IsNoPlainLine words = (task : Task) (file : List ℕ) → IsPlainLine task file words → ⊥

-- an argument that asks for help
abbrev pub IsHelpWord : List ℕ → Type 0
IsHelpWord word = (word ≡ codes "--help") ⊎ (word ≡ codes "-h")

-- what comes before an argument that asks for help: nothing, a task, or a task and a file that does
-- not begin as an option
abbrev pub MayStandBeforeHelp : List (List ℕ) → Type 0
MayStandBeforeHelp [] = Unit {0}
MayStandBeforeHelp (name ∷ []) = (task : Task) × (name ≡ name_of task)
MayStandBeforeHelp (name ∷ file ∷ []) =
    ((task : Task) × (name ≡ name_of task)) × (begins_as_option file ≡ false)
MayStandBeforeHelp (name ∷ file ∷ other ∷ rest) = ⊥

-- An argument asks for help, after at most a task and its file; anything may follow it.
pub record AsksPlainlyForHelp (words : List (List ℕ)) : Type 0 where
  pub front : List (List ℕ)
  pub word : List ℕ
  pub rest : List (List ℕ)
  pub are : words ≡ front ++ word ∷ rest
  pub before : MayStandBeforeHelp front
  pub asks : IsHelpWord word
