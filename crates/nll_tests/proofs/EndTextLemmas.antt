-- A line of the smallest texts that may stop too early, behind others.
use Rattle.std.proofs.Common.{◌≡◌, Bool, true, false, List, [], ◌∷◌, ℕ, inr, refl, arith, sym, subst}
use Rattle.std.proofs.lemmas.Bool.{false≢true}
use Rattle.std.proofs.lemmas.List.{append-nil}
use Rattle.std.specs.Str.{IsUtf8}
use Rattle.nll_text.proofs.Utf8Lemmas.{IsUtf8-word}
use Rattle.nll_format.specs.Text.{of_form, at_form, IsPassedOver, IsFormless}
use Rattle.nll_format.specs.Lines.{TakesIn, TurnsDown}
use Rattle.nll_format.specs.declared.error.TextKind.{TextKind}
use Rattle.nll_format.specs.declared.error.TextKind.TheVariants.{Duplicate}
use Rattle.nll_format.proofs.ListingLemmas.{passes, formless}
use Rattle.nll_tests.specs.EndTexts.{end_texts, end_word, Tells}

-- a skipped line is taken in
pub passed : (has_end : Bool) (line : List ℕ) → IsPassedOver line
    → TakesIn end_texts (Tells has_end) (Tells has_end) line
passed has_end line h forms told = (
  [],
  passes end_texts forms line h,
  subst (Tells has_end) (sym (append-nil forms)) told,
)

-- a line of no form is turned down
pub no_line : (has_end : Bool) (line : List ℕ) (kind : TextKind) → (line ≡ end_word → ⊥) → IsFormless line kind
    → TurnsDown end_texts (Tells has_end) line kind
no_line has_end line kind other wrong forms told = inr (formless end_texts forms line kind (λ f h. other h) wrong)

utf8 : IsUtf8 end_word
utf8 = IsUtf8-word end_word (omega arith, (refl, (refl, (refl, tt))))

-- the first line `end` is taken in
pub first_end : TakesIn end_texts (Tells false) (Tells true) end_word
first_end [] told = (tt ∷ [], of_form tt utf8 refl refl refl, refl)
first_end (form ∷ forms) told = absurd (false≢true told)

-- and a second one is turned down
pub second_end : TurnsDown end_texts (Tells true) end_word Duplicate
second_end [] told = absurd (false≢true (sym told))
second_end (form ∷ forms) told = inr (at_form tt Duplicate utf8 refl refl refl)
