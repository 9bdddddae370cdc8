-- No text has neither a meaning nor a fault.
use Rattle.std.proofs.Common.{◌≡◌, ◌≤◌, ◌<◌, ◌+◌, ℕ, false, List, [], ◌∷◌, ◌++◌, Option, Some, None, length, refl, ap, ⊎_elim, arith}
use Rattle.std.specs.Str.{IsUtf8}
use Rattle.std.proofs.lemmas.Bool.{cases_Bool, cases_lt}
use Rattle.std.proofs.lemmas.List.Splits.{length-slice_split}
use Rattle.std.specs.Prelude.{◌==◌}
use Rattle.nll_text.specs.Lines.{lines_of, without_last_feed, is_skipped}
use Rattle.nll_text.proofs.DecisionLemmas.{utf8_or_not}
use Rattle.nll_problem.specs.Limits.{most_bytes}
use Rattle.nll_problem.specs.declared.error.Kind.TheVariants.{Text}
use Rattle.nll_format.specs.Text.{Fits, skipped, of_form, IsFaulty, not_utf8, no_form, at_form, Says, IsCut, IsHeaded, IsText, IsFaultOfText, too_long, header_not_utf8, no_header, at_line, no_end}
use Rattle.nll_format.specs.declared.error.TextKind.{TextKind}
use Rattle.nll_format.specs.declared.error.TextKind.TheVariants.{NotUtf8, Header, Syntax, Limit, End}
use Rattle.nll_mir_grammar.specs.MirForms.{Form}
use Rattle.nll_mir_grammar.specs.Versions.{HasFormIn}
use Rattle.nll_mir_grammar.specs.declared.version.Version.{Version}
use Rattle.nll_mir_text.specs.MirSaid.{Said, said}
use Rattle.nll_mir_text.specs.MirFaults.{first_fault}
use Rattle.nll_mir_text.specs.MirText.{mir}

-- ---- a line

module _ (v : Version) (s : Said) (line : List ℕ) (fits : (added : List Form) → Fits (mir v) s line added → ⊥)
    (wrong : (kind : TextKind) → IsFaulty (mir v) s line kind → ⊥) where
  by_first_fault : (f : Form) (o : Option TextKind) → IsUtf8 line → is_skipped line ≡ false → HasFormIn v line f
      → first_fault s f ≡ o → ⊥
  by_first_fault f None u k form e = fits (f ∷ []) (of_form f u k form e)
  by_first_fault f (Some kind) u k form e = wrong kind (at_form f kind u k form e)

  line_not_neither : ⊥
  line_not_neither = ⊎_elim
      (λ u. ⊎_elim
      (λ k. fits [] (skipped u k))
      (λ k. wrong Syntax (no_form u k (λ f h. by_first_fault f (first_fault s f) u k h refl)))
      (cases_Bool (is_skipped line)))
      (λ bad. wrong NotUtf8 (not_utf8 bad))
      (utf8_or_not line)

-- ---- lines

-- of lines after those of the forms `before`, the first that has a fault
record IsFaultAfter (v : Version) (before : List Form) (lines : List (List ℕ)) : Type 0 where
  front : List (List ℕ)
  line : List ℕ
  back : List (List ℕ)
  cut : lines ≡ front ++ line ∷ back
  forms : List Form
  fine : Says (mir v) before front forms
  kind : TextKind
  wrong : IsFaulty (mir v) (said forms) line kind

lines_not_neither : (v : Version) (before : List Form) (lines : List (List ℕ))
    → ((forms : List Form) → Says (mir v) before lines forms → ⊥) → (IsFaultAfter v before lines → ⊥) → ⊥
lines_not_neither v before [] fine faulty = fine before refl
lines_not_neither v before (line ∷ lines) fine faulty =
    line_not_neither v (said before) line
    (λ added fit. lines_not_neither v (before ++ added) lines
    (λ forms says. fine forms (added, fit, says))
    (λ h. faulty (record {
      front = line ∷ h.front;
      line = h.line;
      back = h.back;
      cut = ap (λ (ls : List (List ℕ)). line ∷ ls) h.cut;
      forms = h.forms;
      fine = (added, fit, h.fine);
      kind = h.kind;
      wrong = h.wrong;
    })))
    (λ kind wrong. faulty (record {
      front = [];
      line = line;
      back = lines;
      cut = refl;
      forms = before;
      fine = refl;
      kind = kind;
      wrong = wrong;
    }))

-- ---- a text

module _ (v : Version) (text : List ℕ) (none : (forms : List Form) → IsText (mir v) text forms → ⊥)
    (fine : (line : ℕ) (kind : TextKind) → IsFaultOfText (mir v) text line kind → ⊥) where
  by_body : (body : List (List ℕ)) → IsHeaded (mir v) text body → ⊥
  by_body body headed =
      lines_not_neither v [] body
      (λ forms says. fine (length (lines_of text)) End (no_end body forms headed says
      (λ ended. none forms (record { body = body; headed = headed; fine = says; ended = ended }))))
      (λ h. fine (length h.front + 2) h.kind (at_line body (length h.front) h.kind headed (record {
        front = h.front;
        line = h.line;
        back = h.back;
        cut = h.cut;
        place = refl;
        forms = h.forms;
        fine = h.fine;
        wrong = h.wrong;
      })))

  by_header : (header : List ℕ) (body : List (List ℕ)) → IsCut text header body → ⊥
  by_header header body c = ⊎_elim
      (λ u. fine 1 Header (no_header header body c u
      (λ i. by_body body (record { header = header; cut = c; utf8 = u; is_header = i }))))
      (λ bad. fine 1 NotUtf8 (header_not_utf8 header body c bad))
      (utf8_or_not header)

  by_lines : (lines : List (List ℕ)) → length text ≤ most_bytes → 0 < length lines → lines_of text ≡ lines → ⊥
  by_lines [] short some e = absurd (omega arith)
  by_lines (header ∷ body) short some e = by_header header body (record { short = short; cut = e })

  pub text_not_neither : ⊥
  text_not_neither = ⊎_elim
      (λ long. fine 1 (Limit Text) (too_long long))
      (λ short. by_lines (lines_of text) short
      (omega (arith, length-slice_split (λ b. b == 10) (without_last_feed text))) refl)
      (cases_lt most_bytes (length text))
