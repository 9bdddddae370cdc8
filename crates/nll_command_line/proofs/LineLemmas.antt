-- A line that is taken names its task and its file.
use Rattle.std.proofs.Common.{◌≡◌, ◌∙◌, Bool, true, false, List, [], ◌∷◌, Option, Some, refl, sym, ap, subst, option_map, true≢false}
use Rattle.std.specs.Prelude.{unwrap_or}
use Rattle.clap.specs.Walk.{Text, rows_after, stop_after}
use Rattle.clap.specs.Simple.{built}
use Rattle.clap.specs.Faults.{entered_fault, fault_of, walk_fault}
use Rattle.nll_command_line.specs.declared.task.Task.{Task}
use Rattle.nll_command_line.specs.declared.task.Task.TheVariants.{Check, Replay, Values}
use Rattle.nll_command_line.specs.CommandLine.{IsTaskLine, name_of}
use Rattle.nll_command_line.specs.Grammar.{line_by_grammar, line_of_matches, program}
use Rattle.nll_command_line.proofs.FileWordLemmas.{file_in, level, takes_file}
use Rattle.nll_command_line.proofs.TaskWordLemmas.{is_none, names, or_else-left, or_else-right, rules_for, start, stops, subcommand_of-named, task_first, top}

pub entered_fault-named : (task : Task) (rest : List Text)
    → entered_fault (built program) (Some (name_of task, rest)) ≡ level (name_of task) rest
entered_fault-named Values rest = refl
entered_fault-named _ rest = refl

-- where the program takes the words, the command takes those after its name
taken_below : (task : Task) (rest : List Text) → is_none (fault_of program (name_of task ∷ rest)) ≡ true
    → is_none (level (name_of task) rest) ≡ true
taken_below task rest h = go (is_none (level (name_of task) rest)) refl
  where
    stop : Option (Text × List Text)
    stop = stop_after top.rules names (name_of task ∷ rest)

    go : (x : Bool) → is_none (level (name_of task) rest) ≡ x → is_none (level (name_of task) rest) ≡ true
    go true e = e
    go false e =
        let below : is_none (entered_fault (built program) stop) ≡ false =
        ap (λ s. is_none (entered_fault (built program) s)) (stops task rest)
        ∙ ap is_none (entered_fault-named task rest) ∙ e in
        absurd (true≢false (sym h ∙ or_else-right (walk_fault top names start (name_of task ∷ rest)) _
        (or_else-left (entered_fault (built program) stop) _ below)))

line_of_found-named : (task : Task) (rest : List Text) (file : Text) → file_in rest ≡ Some file
    → line_of_matches (Some (name_of task, rows_after rules_for [] rest)) ≡ Some (task, file)
line_of_found-named Values rest file h = ap (option_map (λ (f : Text). (Values, f))) h
line_of_found-named Check rest file h = ap (option_map (λ (f : Text). (Check, f))) h
line_of_found-named Replay rest file h = ap (option_map (λ (f : Text). (Replay, f))) h

abbrev pair_or : Task × Text → Option (Task × Text) → Task × Text
pair_or pair o = unwrap_or o pair

pub line_is : (words : List Text) (task : Task) (file : Text) → fault_of program words ≡ []
    → line_by_grammar words ≡ Some (task, file) → IsTaskLine task file words
line_is words task file none line =
    let named = task_first words (ap is_none none) in
    let below = taken_below named.0 named.1 (ap (λ w. is_none (fault_of program w)) (sym named.2) ∙ ap is_none none) in
    let taken = takes_file (name_of named.0) named.1 below in
    let read : line_by_grammar words ≡ Some (named.0, taken.0) =
    ap line_by_grammar named.2 ∙ ap line_of_matches (subcommand_of-named named.0 named.1)
    ∙ line_of_found-named named.0 named.1 taken.0 taken.2 in
    let same : ◌≡◌ {A = Task × Text} (named.0, taken.0) (task, file) = ap (pair_or (task, file)) (sym read ∙ line) in
    let P : Task × Text → Type 0 = λ pair. IsTaskLine pair.0 pair.1 words in
    subst P same (named.1, named.2, taken.1)
