-- Why words are not taken.
use Rattle.std.proofs.Common.{◌≡◌, ◌≢◌, ◌∙◌, ◌⊎◌, ⊎_elim, true, List, [], ◌∷◌, Option, None, Some, Result, Ok, Err, IfErr, inl, inr, refl, sym, subst}
use Rattle.clap.specs.Words.{IsAmong, Kinds, Text, fault_of, takes}
use Rattle.clap.specs.declared.error.kind.ErrorKind.{ErrorKind}
use Rattle.clap.specs.declared.error.kind.ErrorKind.TheVariants.{DisplayHelp, OutOfMemory}
use Rattle.nll_command_line.specs.declared.task.Asked.{Asked}
use Rattle.nll_command_line.specs.declared.error.LineError.{LineError}
use Rattle.nll_command_line.specs.declared.error.LineError.TheVariants.{Help, Usage, Memory}
use Rattle.nll_command_line.specs.declared.task.Task.{Task}
use Rattle.nll_command_line.specs.CommandLine.{IsNoPlainLine}
use Rattle.nll_command_line.specs.Grammar.{IsLineError, IsErrorTold, line_by_grammar, program}
use Rattle.nll_command_line.proofs.PlainLineLemmas.{line_by_grammar-plain, takes-plain}

-- words whose matches have no line are no plain line
no_plain_line : (words : List Text) → line_by_grammar words ≡ None → IsNoPlainLine words
no_plain_line words none task file h =
    let bad : ◌≡◌ {A = Option (Task × Text)} (Some (task, file)) None = sym (line_by_grammar-plain task file words h)
    ∙ none in cc

-- the error of matches that have no line
pub matches_without_line : (words : List Text) (r : Result Asked LineError) {o : Option (Task × Text)}
    → fault_of program words ≡ []
    → line_by_grammar words ≡ o → IfErr r (λ e. ((e ≡ Memory) × (o ≢ None)) ⊎ ((e ≡ Usage) × (o ≡ None)))
    → IfErr r (IsLineError words)
matches_without_line words (Ok l) taken read err = tt
matches_without_line words (Err e) taken read err = elim err [
  | inl memory ↦ subst (IsLineError words) (sym memory.0) tt
  | inr none ↦ subst (IsLineError words) (sym none.0) (
    no_plain_line words (read ∙ none.1),
    λ asks. let bad : ◌≡◌ {A = Kinds} [] (DisplayHelp ∷ []) = sym taken ∙ asks in cc,
  )
]

-- words that the parser takes are refused only where memory is refused
is_no_plain_line : (words : List Text) (kind : ErrorKind) → (takes program words ≡ true → kind ≡ OutOfMemory)
    → kind ≢ OutOfMemory → IsNoPlainLine words
is_no_plain_line words kind passes other task file h = other (passes (takes-plain task file words h))

help_is_no_memory : DisplayHelp ≢ OutOfMemory
help_is_no_memory is = cc

listed : (kind : ErrorKind) (kinds : Kinds) → (kind ≡ OutOfMemory) ⊎ IsAmong kind kinds → kind ≢ OutOfMemory
    → IsAmong kind kinds
listed kind kinds among other = ⊎_elim (λ refused. absurd (other refused)) (λ among. among) among

-- the one kind of a list is the kind that is among it
only : (kind : ErrorKind) (kinds : Kinds) → kinds ≡ DisplayHelp ∷ [] → IsAmong kind kinds → kind ≡ DisplayHelp
only kind kinds is among = elim (subst (IsAmong kind) is among) [
  | inl same ↦ same
  | inr none ↦ absurd none
]

-- the error of words that have no matches
pub words_without_matches : (words : List Text) (e : LineError) (kind : ErrorKind)
    → (kind ≡ OutOfMemory) ⊎ IsAmong kind (fault_of program words)
    → (takes program words ≡ true → kind ≡ OutOfMemory) → IsErrorTold words kind e → IsLineError words e
words_without_matches words (Help text) kind among passes told =
    let other : kind ≢ OutOfMemory = λ memory. help_is_no_memory (sym told.0 ∙ memory) in (
      subst (λ k. IsAmong k (fault_of program words)) told.0 (listed kind _ among other),
      is_no_plain_line words kind passes other,
      told.1,
    )
words_without_matches words Usage kind among passes told = (
  is_no_plain_line words kind passes told.1,
  λ asks. told.0 (only kind _ asks (listed kind _ among told.1)),
)
words_without_matches words Memory kind among passes told = tt

-- of an error of refused memory that alone is told
pub memory_told : (words : List Text) (e : LineError) → IsErrorTold words OutOfMemory e → e ≡ Memory
memory_told words (Help text) told = absurd (help_is_no_memory (sym told.0))
memory_told words Usage told = absurd (told.1 refl)
memory_told words Memory told = refl
