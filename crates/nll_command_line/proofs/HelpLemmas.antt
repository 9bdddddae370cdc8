-- Words that ask for help.
use Rattle.std.proofs.Common.{◌≡◌, ◌∙◌, ℕ, Bool, true, false, nat_eq, List, [], ◌∷◌, ◌++◌, inl, inr, codes, refl, sym, ap, subst}
use Rattle.clap.specs.Words.{Kinds, Text, fault_of}
use Rattle.clap.specs.Faults.{entered_fault, walk_fault}
use Rattle.clap.specs.Kinds.{or_else}
use Rattle.clap.specs.Simple.{built}
use Rattle.clap.specs.Walk.{stop_after}
use Rattle.clap.specs.declared.error.kind.ErrorKind.{ErrorKind}
use Rattle.clap.specs.declared.error.kind.ErrorKind.TheVariants.{DisplayHelp}
use Rattle.clap.proofs.FaultLemmas.{stopped_fault}
use Rattle.clap.proofs.OnLiterals.{clap_on_literals}
use Rattle.nll_command_line.specs.declared.task.Task.{Task}
use Rattle.nll_command_line.specs.declared.task.Task.TheVariants.{Values, Check, Replay}
use Rattle.nll_command_line.specs.declared.error.LineError.{LineError}
use Rattle.nll_command_line.specs.declared.error.LineError.TheVariants.{Help, Usage, Memory}
use Rattle.nll_command_line.specs.CommandLine.{AsksPlainlyForHelp, IsHelpWord, MayStandBeforeHelp, begins_as_option, name_of}
use Rattle.nll_command_line.specs.Grammar.{AsksForHelpAlone, IsHelpFor, IsLineError, program}
use Rattle.nll_command_line.proofs.FileWordLemmas.{level}
use Rattle.nll_command_line.proofs.LineLemmas.{entered_fault-named}
use Rattle.nll_command_line.proofs.TaskWordLemmas.{names, start, stops, top}

-- ---- help for the program

long_first : (rest : List Text) → fault_of program (codes "--help" ∷ rest) ≡ DisplayHelp ∷ []
unfolding clap_on_literals
long_first rest = refl

short_first : (rest : List Text) → fault_of program (codes "-h" ∷ rest) ≡ DisplayHelp ∷ []
unfolding clap_on_literals
short_first rest = refl

first : (word : Text) (rest : List Text) → IsHelpWord word → AsksForHelpAlone (word ∷ rest)
first word rest asks = elim asks [
  | inl long ↦ ap (λ w. fault_of program (w ∷ rest)) long ∙ long_first rest
  | inr short ↦ ap (λ w. fault_of program (w ∷ rest)) short ∙ short_first rest
]

-- ---- help for a command

second_kind : (a b c : Kinds) (k : ErrorKind) → a ≡ [] → b ≡ k ∷ [] → or_else a (or_else b c) ≡ k ∷ []
second_kind a b c k none some = ap (λ x. or_else x (or_else b c)) none ∙ ap (λ x. or_else x c) some

-- the program's own level has no fault
top_walks : (task : Task) (rest : List Text) → walk_fault top names start (name_of task ∷ rest) ≡ []
unfolding clap_on_literals
top_walks Values rest = stopped_fault top names start (codes "values", []) rest
top_walks Check rest = stopped_fault top names start (codes "check", []) rest
top_walks Replay rest = stopped_fault top names start (codes "replay", []) rest

-- so what the command finds is told
below : (task : Task) (rest : List Text) → level (name_of task) rest ≡ DisplayHelp ∷ []
    → AsksForHelpAlone (name_of task ∷ rest)
below task rest asks =
    second_kind (walk_fault top names start (name_of task ∷ rest))
    (entered_fault (built program) (stop_after top.rules names (name_of task ∷ rest))) _ DisplayHelp
    (top_walks task rest) (ap (entered_fault (built program)) (stops task rest) ∙ entered_fault-named task rest ∙ asks)

long_second : (task : Task) (rest : List Text) → level (name_of task) (codes "--help" ∷ rest) ≡ DisplayHelp ∷ []
unfolding clap_on_literals
long_second Values rest = refl
long_second _ rest = refl

short_second : (task : Task) (rest : List Text) → level (name_of task) (codes "-h" ∷ rest) ≡ DisplayHelp ∷ []
unfolding clap_on_literals
short_second Values rest = refl
short_second _ rest = refl

second : (task : Task) (word : Text) (rest : List Text) → IsHelpWord word
    → level (name_of task) (word ∷ rest) ≡ DisplayHelp ∷ []
second task word rest asks = elim asks [
  | inl long ↦ ap (λ w. level (name_of task) (w ∷ rest)) long ∙ long_second task rest
  | inr short ↦ ap (λ w. level (name_of task) (w ∷ rest)) short ∙ short_second task rest
]

-- ---- help behind a file

long_byte : (task : Task) (b : ℕ) (rest : List Text) (x : Bool) → nat_eq b 45 ≡ x
    → level (name_of task) ((b ∷ []) ∷ codes "--help" ∷ rest) ≡ DisplayHelp ∷ []
unfolding clap_on_literals
long_byte Values b rest true e = simp e
long_byte Values b rest false e = simp e
long_byte Check b rest true e = simp e
long_byte Replay b rest true e = simp e
long_byte Check b rest false e = simp e
long_byte Replay b rest false e = simp e

long_third : (task : Task) (file : Text) (rest : List Text) → begins_as_option file ≡ false
    → level (name_of task) (file ∷ codes "--help" ∷ rest) ≡ DisplayHelp ∷ []
unfolding clap_on_literals
long_third Values [] rest h = refl
long_third _ [] rest h = refl
long_third task (b ∷ []) rest h = long_byte task b rest (nat_eq b 45) refl
long_third Values (b ∷ c ∷ more) rest h = simp h
long_third Check (b ∷ c ∷ more) rest h = simp h
long_third Replay (b ∷ c ∷ more) rest h = simp h

short_byte : (task : Task) (b : ℕ) (rest : List Text) (x : Bool) → nat_eq b 45 ≡ x
    → level (name_of task) ((b ∷ []) ∷ codes "-h" ∷ rest) ≡ DisplayHelp ∷ []
unfolding clap_on_literals
short_byte Values b rest true e = simp e
short_byte Values b rest false e = simp e
short_byte Check b rest true e = simp e
short_byte Replay b rest true e = simp e
short_byte Check b rest false e = simp e
short_byte Replay b rest false e = simp e

short_third : (task : Task) (file : Text) (rest : List Text) → begins_as_option file ≡ false
    → level (name_of task) (file ∷ codes "-h" ∷ rest) ≡ DisplayHelp ∷ []
unfolding clap_on_literals
short_third Values [] rest h = refl
short_third _ [] rest h = refl
short_third task (b ∷ []) rest h = short_byte task b rest (nat_eq b 45) refl
short_third Values (b ∷ c ∷ more) rest h = simp h
short_third Check (b ∷ c ∷ more) rest h = simp h
short_third Replay (b ∷ c ∷ more) rest h = simp h

third : (task : Task) (file word : Text) (rest : List Text) → begins_as_option file ≡ false → IsHelpWord word
    → level (name_of task) (file ∷ word ∷ rest) ≡ DisplayHelp ∷ []
third task file word rest plain asks = elim asks [
  | inl long ↦ ap (λ w. level (name_of task) (file ∷ w ∷ rest)) long ∙ long_third task file rest plain
  | inr short ↦ ap (λ w. level (name_of task) (file ∷ w ∷ rest)) short ∙ short_third task file rest plain
]

-- ---- the three

behind : (front : List Text) (word : Text) (rest : List Text) → MayStandBeforeHelp front → IsHelpWord word
    → AsksForHelpAlone (front ++ word ∷ rest)
behind [] word rest before asks = first word rest asks
behind (name ∷ []) word rest (task, is) asks =
    subst (λ n. AsksForHelpAlone (n ∷ word ∷ rest)) (sym is) (below task _ (second task word rest asks))
behind (name ∷ file ∷ []) word rest ((task, is), plain) asks =
    subst (λ n. AsksForHelpAlone (n ∷ file ∷ word ∷ rest)) (sym is)
    (below task _ (third task file word rest plain asks))
behind (name ∷ file ∷ other ∷ more) word rest before asks = absurd before

asks_alone : (words : List Text) → AsksPlainlyForHelp words → AsksForHelpAlone words
asks_alone words h = subst AsksForHelpAlone (sym h.are) (behind h.front h.word h.rest h.before h.asks)

-- words that the parser answers with nothing but help are not taken
pub help_alone_is_not_taken : (words : List Text) → fault_of program words ≡ [] → AsksForHelpAlone words → ⊥
help_alone_is_not_taken words none asks = let bad : ◌≡◌ {A = Kinds} [] (DisplayHelp ∷ []) = sym none ∙ asks in cc

-- nor are words that ask for help
pub help_is_not_taken : (words : List Text) → fault_of program words ≡ [] → AsksPlainlyForHelp words → ⊥
help_is_not_taken words none h = help_alone_is_not_taken words none (asks_alone words h)

-- the error of words that ask for help
pub help_given : (words : List Text) (e : LineError) → AsksPlainlyForHelp words → IsLineError words e
    → IsHelpFor words e
help_given words (Help text) h told = told.2
help_given words Usage h told = told.1 (asks_alone words h)
help_given words Memory h told = tt
