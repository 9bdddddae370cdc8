-- What is answered to words of which the options are taken out.
use Rattle.std.proofs.Common.{◌≡◌, ◌⊎◌, ⊎_elim, ◌∙◌, ℕ, List, Result, Ok, Err, IfErr, IfOk, IsOk, IsOkAnd, MatchResult, refl, string_bytes, sym, subst}
use Rattle.nll_command_line.specs.declared.task.Asked.{Asked}
use Rattle.nll_command_line.specs.declared.task.Line.{Line}
use Rattle.nll_command_line.specs.declared.task.Task.{Task}
use Rattle.nll_command_line.specs.declared.error.LineError.{LineError}
use Rattle.nll_command_line.specs.declared.error.LineError.TheVariants.{Help, Usage, Memory}
use Rattle.nll_command_line.specs.CommandLine.{IsTaskLine, IsPlainLine}
use Rattle.nll_command_line.specs.Grammar.{AsksForHelpAlone, IsHelpFor, IsLineError, IsWordsError}
use Rattle.nll_command_line.specs.Options.{AreOptionsRead, SaidOptions, Suits, options_said}
use Rattle.nll_command_line.specs.Taking.{AreReadJust, AreUnreadable}

abbrev Text : Type 0
Text = List ℕ

-- the line has what is asked and what the options give, which are those of its task
abbrev pub IsLineOf : SaidOptions → Line → Asked → Type 0
IsLineOf said l a =
    (l.task ≡ a.task) × (string_bytes l.file ≡ string_bytes a.file) × (options_said l ≡ said) × Suits a.task said

-- why there is no line of what is asked: refused memory, or options of another task
abbrev pub IsLost : SaidOptions → LineError → Asked → Type 0
IsLost said e a = (e ≡ Memory) ⊎ ((e ≡ Usage) × (Suits a.task said → ⊥))

module _ (said : SaidOptions) (words others : List Text) (read : AreOptionsRead words others said)
    (just : AreReadJust words others said) (r : Result Line LineError) (a : Result Asked LineError)
    (of : IfOk r (λ l. IsOkAnd a (IsLineOf said l)))
    (err : IfErr r (λ e. (a ≡ Err e) ⊎ IsOkAnd a (IsLost said e))) where
  pub line_ok : IfOk a (λ x. IsTaskLine x.task (string_bytes x.file) others)
      → IfOk r (λ l. (os : List Text) × AreOptionsRead words os (options_said l)
      × IsTaskLine l.task (string_bytes l.file) os
      × Suits l.task (options_said l))
  line_ok line = go r a of line
    where
      go : (r : Result Line LineError) (a : Result Asked LineError) → IfOk r (λ l. IsOkAnd a (IsLineOf said l))
          → IfOk a (λ x. IsTaskLine x.task (string_bytes x.file) others)
          → IfOk r (λ l. (os : List Text) × AreOptionsRead words os (options_said l)
          × IsTaskLine l.task (string_bytes l.file) os
          × Suits l.task (options_said l))
      go (Ok l) (Ok x) of line =
          (others, subst (AreOptionsRead words others) (sym of.2) read, rw (of.0, of.1) line, rw (of.0, of.2) of.3)
      go (Ok l) (Err e) of line = absurd of
      go (Err e) a of line = tt

  pub line_plain : (task : Task) (file : Text) (os : List Text) (s : SaidOptions) → AreOptionsRead words os s
      → Suits task s
      → (os ≡ others → MatchResult a (λ l. (l.task ≡ task) × (string_bytes l.file ≡ file)) (λ e. e ≡ Memory))
      → MatchResult r (λ l. (l.task ≡ task) × (string_bytes l.file ≡ file) × (options_said l ≡ s)) (λ e. e ≡ Memory)
  line_plain task file os s h suits m = let same = just os s h in go r a of err (m same.0) same.1
    where
      go : (r : Result Line LineError) (a : Result Asked LineError) → IfOk r (λ l. IsOkAnd a (IsLineOf said l))
          → IfErr r (λ e. (a ≡ Err e) ⊎ IsOkAnd a (IsLost said e))
          → MatchResult a (λ l. (l.task ≡ task) × (string_bytes l.file ≡ file)) (λ e. e ≡ Memory) → s ≡ said
          → MatchResult r (λ l. (l.task ≡ task) × (string_bytes l.file ≡ file) × (options_said l ≡ s)) (λ e. e ≡ Memory)
      go (Ok l) (Ok x) of err m is = (of.0 ∙ m.0, of.1 ∙ m.1, of.2 ∙ sym is)
      go (Ok l) (Err e) of err m is = absurd of
      go (Err e) (Err x) of err m is = ⊎_elim
          (λ same. subst (λ (y : Result Asked LineError).
          MatchResult y (λ l. (l.task ≡ task) × (string_bytes l.file ≡ file)) (λ e. e ≡ Memory)) same m)
          (λ h. absurd h)
          err
      go (Err e) (Ok x) of err m is = ⊎_elim
          (λ same. subst (λ (y : Result Asked LineError).
          MatchResult y (λ l. (l.task ≡ task) × (string_bytes l.file ≡ file)) (λ e. e ≡ Memory)) same m)
          (λ h. ⊎_elim (λ memory. memory) (λ unfit. absurd (unfit.1 (rw (m.0, ← is) suits))) h)
          err

  pub line_help : (os : List Text) (s : SaidOptions) → AreOptionsRead words os s
      → (os ≡ others → MatchResult a (λ _. ⊥) (IsHelpFor os)) → MatchResult r (λ _. ⊥) (IsHelpFor os)
  line_help os s h m = go r a of err (m (just os s h).0)
    where
      go : (r : Result Line LineError) (a : Result Asked LineError) → IfOk r (λ l. IsOkAnd a (IsLineOf said l))
          → IfErr r (λ e. (a ≡ Err e) ⊎ IsOkAnd a (IsLost said e))
          → MatchResult a (λ _. ⊥) (IsHelpFor os) → MatchResult r (λ _. ⊥) (IsHelpFor os)
      go (Ok l) (Ok x) of err m = m
      go (Ok l) (Err e) of err m = absurd of
      go (Err e) (Ok x) of err m = absurd m
      go (Err e) (Err x) of err m = ⊎_elim
          (λ same. subst (λ (y : Result Asked LineError). MatchResult y (λ _. ⊥) (IsHelpFor os)) same m)
          (λ h. absurd h)
          err

  -- usage is told of a line whose task the options don't suit
  unsuited : (x : Asked) → ((task : Task) (file : Text) → IsPlainLine task file others → x.task ≡ task)
      → (AsksForHelpAlone others → ⊥) → (Suits x.task said → ⊥) → IsWordsError words Usage
  unsuited x plain alone unfit os s there =
      let same = just os s there in (
        λ task file line suits. unfit (rw (plain task file (subst (IsPlainLine task file) same.0 line), ← same.1)
            suits),
        λ asks. alone (subst AsksForHelpAlone same.0 asks),
      )

  pub line_err : IfErr a (IsLineError others) → (IsOk a → AsksForHelpAlone others → ⊥)
      → ((task : Task) (file : Text) → IsPlainLine task file others
      → MatchResult a (λ l. (l.task ≡ task) × (string_bytes l.file ≡ file)) (λ e. e ≡ Memory))
      → IfErr r (IsWordsError words)
  line_err m taken plain = go r a err m taken plain
    where
      told : (e : LineError) → IsLineError others e → IsWordsError words e
      told (Help text) h = (others, said, read, h)
      told Usage h = λ os s there.
          let here = subst (λ (ws : List Text). IsLineError ws Usage) (sym (just os s there).0) h in
          (λ task file line suits. here.0 task file line, here.1)
      told Memory h = tt

      go : (r : Result Line LineError) (a : Result Asked LineError)
          → IfErr r (λ e. (a ≡ Err e) ⊎ IsOkAnd a (IsLost said e)) → IfErr a (IsLineError others)
          → (IsOk a → AsksForHelpAlone others → ⊥)
          → ((task : Task) (file : Text) → IsPlainLine task file others
          → MatchResult a (λ l. (l.task ≡ task) × (string_bytes l.file ≡ file)) (λ e. e ≡ Memory))
          → IfErr r (IsWordsError words)
      go (Ok l) a err m taken plain = tt
      go (Err e) (Err x) err m taken plain = ⊎_elim
          (λ same. told e (subst (λ (y : Result Asked LineError). IfErr y (IsLineError others)) same m))
          (λ h. absurd h)
          err
      go (Err e) (Ok x) err m taken plain = ⊎_elim
          (λ same. told e (subst (λ (y : Result Asked LineError). IfErr y (IsLineError others)) same m))
          (λ h. ⊎_elim
          (λ memory. subst (IsWordsError words) (sym memory) tt)
          (λ unfit. subst (IsWordsError words) (sym unfit.0)
          (unsuited x (λ task file line. (plain task file line).0) (taken refl) unfit.1)) h)
          err

-- of words that can't be read
pub unread_words : (words : List Text) (e : LineError) → (e ≡ Memory) ⊎ ((e ≡ Usage) × AreUnreadable words)
    → IsWordsError words e
unread_words words e = ⊎_elim
    (λ memory. subst (IsWordsError words) (sym memory) tt)
    (λ h. subst (IsWordsError words) (sym h.0) (λ others said read. absurd (h.1 others said read)))
