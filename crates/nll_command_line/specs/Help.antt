-- The text of help. It is the one that the crate `clap` makes of the three commands with their
-- options.
-- Source: project's choice.
use Rattle.std.specs.Prelude.{ℕ, List, [], ◌∷◌, ◌++◌, Option, None, Some, codes}
use Rattle.nll_command_line.specs.declared.task.Task.{Task}
use Rattle.nll_command_line.specs.declared.task.Task.TheVariants.{Values, Check, Replay}
use Rattle.nll_command_line.specs.CommandLine.{task_named}

-- the help of the program
abbrev pub program_help : List ℕ
program_help =
    codes "Solves the region constraints of location-aware non-lexical lifetimes\n"
    ++ codes "\n"
    ++ codes "Usage: nllc <COMMAND>\n"
    ++ codes "\n"
    ++ codes "Commands:\n"
    ++ codes "  values  Prints the values of the regions of FILE\n"
    ++ codes "  check   Checks the universal regions of FILE\n"
    ++ codes "  replay  Replays a schedule of messages between owners of the regions of FILE\n"
    ++ codes "\n"
    ++ codes "Options:\n"
    ++ codes "  -h, --help  Print help\n"
    ++ codes "\n"
    ++ codes "Statuses:\n"
    ++ codes "  0  the values are printed, or check found no fault, or the schedule is replayed, "
    ++ codes "or this help\n"
    ++ codes "  1  check found a fault\n"
    ++ codes "  2  the words, a file or its text are refused, and standard error says why\n"
    ++ codes "  3  memory or a thread was refused, or standard output did not take the whole "
    ++ codes "report\n"
    ++ codes "\n"
    ++ codes "docs/FORMATS.md says how facts texts, MIR texts and schedules are written, and "
    ++ codes "how the reports are.\n"
    ++ codes "With /dev/stdin for FILE the text is read from standard input.\n"

-- how the help of a task begins
abbrev pub help_begin : Task → List ℕ
help_begin Values = codes "Prints the values of the regions of FILE\n\n"
    ++ codes "Usage: nllc values [OPTIONS] <FILE>\n"
help_begin Check = codes "Checks the universal regions of FILE\n\n"
    ++ codes "Usage: nllc check [OPTIONS] <FILE>\n"
help_begin Replay =
    codes "Replays a schedule of messages between owners of the regions of FILE\n\n"
    ++ codes "Usage: nllc replay [OPTIONS] --schedule <SCHEDULE> <FILE>\n"

-- the lines of the options that say how the regions are assigned
abbrev pub deal_help : List ℕ
deal_help =
    codes "      --deal <round|blocks>  Deals the regions to the owners in "
    ++ codes "turns, or in blocks of neighbours\n"
    ++ codes "      --cut <CUT>            Deals the regions to the owners as the "
    ++ codes "cut file CUT lists\n"

-- the lines of the options of a task that owners in threads may answer
abbrev pub thread_help : List ℕ
thread_help =
    codes "      --owners <N>           Has 1 to 64 owners of regions find the "
    ++ codes "answer, each in a thread of its own\n"
    ++ deal_help
    ++ codes "      --mail <queue|ring>    Has the owners tell each other through "
    ++ codes "queues or through rings\n"

-- the lines of the options of a replay
abbrev pub replay_help : List ℕ
replay_help =
    codes "      --schedule <SCHEDULE>  Takes the events from the schedule SCHEDULE\n"
    ++ codes "      --owners <N>           Has 1 to 64 owners of regions, and not one\n"
    ++ deal_help

-- the lines of the options of a task
abbrev pub options_help : Task → List ℕ
options_help Values = thread_help
options_help Check = thread_help
options_help Replay = replay_help

-- the help of a task
abbrev pub task_help : Task → List ℕ
task_help task = help_begin task
    ++ codes "\n"
    ++ codes "Arguments:\n"
    ++ codes "  <FILE>  The facts text or MIR text, or /dev/stdin for standard input\n"
    ++ codes "\n"
    ++ codes "Options:\n"
    ++ options_help task
    ++ codes "  -h, --help                 Print help\n"

-- the help of a task where there is one, else that of the program
abbrev pub help_of : Option Task → List ℕ
help_of None = program_help
help_of (Some task) = task_help task

-- the help that arguments ask for: of the task that the first one names, else of the program
abbrev pub help_for : List (List ℕ) → List ℕ
help_for [] = program_help
help_for (word ∷ rest) = help_of (task_named word)
