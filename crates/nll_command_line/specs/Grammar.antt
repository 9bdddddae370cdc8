-- The commands as the parser of the arguments reads them, the command line that its matches make,
-- and the error where it has none. Source: this project's own, in the vocabulary of the crate
-- `clap`.
use Rattle.std.specs.Prelude.{◌≡◌, ◌≢◌, ◌⊎◌, List, [], ◌∷◌, Option, Some, true, codes}
use Rattle.std.specs.Prelude.{option_and_then, option_map, string_bytes}
use Rattle.clap.specs.Words.{App, IsAmong, Row, Rule, Text, fault_of, first_of, new_app, new_rule}
use Rattle.clap.specs.Words.{subcommand_of, with_rule, with_subcommand}
use Rattle.clap.specs.declared.builder.ArgAction.TheVariants.{Set}
use Rattle.clap.specs.declared.error.kind.ErrorKind.{ErrorKind}
use Rattle.clap.specs.declared.error.kind.ErrorKind.TheVariants.{DisplayHelp, OutOfMemory}
use Rattle.nll_command_line.specs.declared.error.LineError.{LineError}
use Rattle.nll_command_line.specs.declared.error.LineError.TheVariants.{Help, Usage, Memory}
use Rattle.nll_command_line.specs.declared.task.Task.{Task}
use Rattle.nll_command_line.specs.declared.task.Task.TheVariants.{Values, Check, Replay}
use Rattle.nll_command_line.specs.CommandLine.{IsNoPlainLine, name_of, task_named}
use Rattle.nll_command_line.specs.Help.{help_for}
use Rattle.nll_command_line.specs.Options.{AreOptionsRead, IsNoSuitedLine, SaidOptions}

-- the place of the file among the arguments of a command
abbrev pub file_rule : Rule
file_rule = record (new_rule (codes "FILE")) { action = Some Set; required = true }

-- the command of a task, with its file
abbrev pub command_of : Task → App
command_of task = with_rule (new_app (name_of task)) file_rule

-- the program, before its commands
abbrev pub bare_program : App
bare_program = record (new_app (codes "nllc")) {
  top = record (new_app (codes "nllc")).top {
    no_binary_name = true;
    disable_help_subcommand = true;
    subcommand_required = true;
  };
}

-- the program with two of its commands
abbrev pub solving_program : App
solving_program =
    with_subcommand (with_subcommand bare_program (command_of Values).top) (command_of Check).top

-- the program with its three commands
abbrev pub program : App
program = with_subcommand solving_program (command_of Replay).top

-- the line of a command and what was found for it
abbrev pub line_of_found : Text × List Row → Option (Task × Text)
line_of_found found = option_and_then (λ task. option_map (λ file. (task, file))
    (first_of (codes "FILE") found.1)) (task_named found.0)

-- the line of the matches, where they have one
abbrev pub line_of_matches : Option (Text × List Row) → Option (Task × Text)
line_of_matches = option_and_then line_of_found

-- the command line that the arguments make, where the parser takes them
abbrev pub line_by_grammar : List Text → Option (Task × Text)
line_by_grammar words = line_of_matches (subcommand_of program words)

-- the parser answers the arguments with help
abbrev pub AsksForHelp : List Text → Type 0
AsksForHelp words = IsAmong DisplayHelp (fault_of program words)

-- the parser answers the arguments with nothing but help
abbrev pub AsksForHelpAlone : List Text → Type 0
AsksForHelpAlone words = fault_of program words ≡ DisplayHelp ∷ []

-- the error says why the arguments are not taken; a failed allocation says nothing of them
abbrev pub IsLineError : List Text → LineError → Type 0
IsLineError words (Help text) =
    AsksForHelp words × IsNoPlainLine words × (string_bytes text ≡ help_for words)
IsLineError words Usage = IsNoPlainLine words × (AsksForHelpAlone words → ⊥)
IsLineError words Memory = Unit {0}

-- The error says why the arguments are no command line. Help depends on the arguments without their
-- options. Usage says that, however the arguments are read, those without options are no plain line
-- of a task that the options suit, and the parser has more than help for them. A failed allocation
-- says nothing.
abbrev pub IsWordsError : List Text → LineError → Type 0
IsWordsError words (Help text) = (others : List Text) × (said : SaidOptions)
    × AreOptionsRead words others said
    × IsLineError others (Help text)
IsWordsError words Usage = (others : List Text) (said : SaidOptions)
    → AreOptionsRead words others said
    → IsNoSuitedLine others said × (AsksForHelpAlone others → ⊥)
IsWordsError words Memory = Unit {0}

-- the error is the help for the arguments, or a failed allocation
abbrev pub IsHelpFor : List Text → LineError → Type 0
IsHelpFor words (Help text) = string_bytes text ≡ help_for words
IsHelpFor words Usage = ⊥
IsHelpFor words Memory = Unit {0}

-- the error is what is reported for an error of this kind: help, or a failed allocation for its
-- text; a failed allocation; or that the arguments are refused
abbrev pub IsErrorTold : List Text → ErrorKind → LineError → Type 0
IsErrorTold words kind (Help text) = (kind ≡ DisplayHelp) × (string_bytes text ≡ help_for words)
IsErrorTold words kind Usage = (kind ≢ DisplayHelp) × (kind ≢ OutOfMemory)
IsErrorTold words kind Memory = (kind ≡ OutOfMemory) ⊎ (kind ≡ DisplayHelp)
