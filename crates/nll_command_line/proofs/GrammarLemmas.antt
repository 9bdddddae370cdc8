-- The line of what the parser of the words found.
use Rattle.std.proofs.Common.{◌≡◌, ◌≢◌, ◌∙◌, ◌⊎◌, true, Option, None, Some, Result, Ok, Err, IfErr, IfOk, MatchResult, inl, inr, codes, refl, sym, ap, string_bytes}
use Rattle.std.specs.Prelude.{unwrap_or}
use Rattle.clap.specs.Words.{Text, first_of, first_value, is_simple, rows_of}
use Rattle.clap.specs.Faults.{is_simple_and_free}
use Rattle.clap.specs.declared.parser.matches.Found.{Found}
use Rattle.clap.proofs.WalkLemmas.{first_value-rows}
use Rattle.clap.proofs.OnLiterals.{clap_on_literals}
use Rattle.nll_command_line.specs.declared.task.Asked.{Asked}
use Rattle.nll_command_line.specs.declared.error.LineError.{LineError}
use Rattle.nll_command_line.specs.declared.error.LineError.TheVariants.{Usage, Memory}
use Rattle.nll_command_line.specs.declared.task.Task.{Task}
use Rattle.nll_command_line.specs.CommandLine.{task_named}
use Rattle.nll_command_line.specs.Grammar.{line_of_found, program}

pub is_simple-program : is_simple program ≡ true
unfolding clap_on_literals
is_simple-program = refl

pub is_simple_and_free-program : is_simple_and_free program ≡ true
unfolding clap_on_literals
is_simple_and_free-program = refl

-- ---- the line of what was found

pub line_of_found-Some : (name : Text) (f : Found) (task : Task) (file bytes : Text) → Some task ≡ task_named name
    → Some file ≡ first_value f (codes "FILE") → bytes ≡ file → line_of_found (name, rows_of f) ≡ Some (task, bytes)
line_of_found-Some name f task file bytes named given same =
    let read : Some file ≡ first_of (codes "FILE") (rows_of f) = given ∙ first_value-rows f (codes "FILE") in
    rw (← named, ← read, same) refl

pub line_of_found-some : (name : Text) (f : Found) (task : Task) (file : Text) → Some task ≡ task_named name
    → Some file ≡ first_value f (codes "FILE") → line_of_found (name, rows_of f) ≢ None
line_of_found-some name f task file named given none =
    let bad : ◌≡◌ {A = Option (Task × Text)} (Some (task, file)) None =
    sym (line_of_found-Some name f task file file named given refl) ∙ none in cc

pub line_of_found-None : (name : Text) (f : Found) (task : Task) → Some task ≡ task_named name
    → None ≡ first_value f (codes "FILE") → line_of_found (name, rows_of f) ≡ None
line_of_found-None name f task named given =
    let read : None ≡ first_of (codes "FILE") (rows_of f) = given ∙ first_value-rows f (codes "FILE") in
    rw (← named, ← read) refl

-- the answer of a line that the matches have is that line, or refused memory
pub plain_result : (r : Result Asked LineError) (task : Task) (file : Text) {o : Option (Task × Text)}
    → Some (task, file) ≡ o
    → IfOk r (λ l. o ≡ Some (l.task, string_bytes l.file))
    → IfErr r (λ e. ((e ≡ Memory) × (o ≢ None)) ⊎ ((e ≡ Usage) × (o ≡ None)))
    → MatchResult r (λ l. (l.task ≡ task) × (string_bytes l.file ≡ file)) (λ e. e ≡ Memory)
plain_result (Ok l) task file is ok err =
    let same : Some (task, file) ≡ Some (l.task, string_bytes l.file) = is ∙ ok in (
      ap (λ (o : Option (Task × Text)). (unwrap_or o (task, file)).0) (sym same),
      ap (λ (o : Option (Task × Text)). (unwrap_or o (task, file)).1) (sym same),
    )
plain_result (Err e) task file is ok err = elim err [
  | inl memory ↦ memory.0
  | inr none ↦ let bad : ◌≡◌ {A = Option (Task × Text)} (Some (task, file)) None = is ∙ none.1 in cc
]
