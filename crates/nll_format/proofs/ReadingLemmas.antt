-- The lines of a text of a format, read one after another, and how a text is refused.
use Rattle.std.proofs.Common.{◌≡◌, ℕ, ◌+◌, ◌-◌, ◌≤◌, ⊎_elim, List, [], ◌∷◌, ◌++◌, inl, inr, sym, ap, ◌∙◌, subst, append_assoc, arith, None}
use Rattle.nll_format.specs.Text.{Format, Fits, skipped, of_form, IsFaulty, not_utf8, no_form, at_form, Says, HasFault, IsHeaded, IsFaultOfText, too_long, header_not_utf8, no_header, at_line, IsRefusal, IsUncut, IsUnopened}
use Rattle.nll_format.specs.declared.error.TextError.{TextError}
use Rattle.nll_format.specs.declared.error.TextKind.{TextKind}

-- one more line
pub says_push : (format : Format) (before : List format.Form) (front : List (List ℕ)) (forms : List format.Form)
    (line : List ℕ) (added : List format.Form) → Says format before front forms
    → Fits format (format.said forms) line added → Says format before (front ++ line ∷ []) (forms ++ added)
says_push format before [] forms line added h fit = (added, rw h at fit, ap (λ (fs : List format.Form). fs ++ added) h)
says_push format before (l ∷ front) forms line added h fit =
    (h.0, h.1, says_push format (before ++ h.0) front forms line added h.2 fit)

pub cut_more : (all front rest : List (List ℕ)) (line : List ℕ) (after : List (List ℕ)) → all ≡ front ++ rest
    → rest ≡ line ∷ after → all ≡ (front ++ line ∷ []) ++ after
cut_more all front rest line after cut step = cut
    ∙ (ap (λ (xs : List (List ℕ)). front ++ xs) step ∙ sym (append_assoc front (line ∷ []) after))

-- a line fits that has a form without a fault
pub fine_of : (format : Format) (s : format.Said) (line : List ℕ) (f : format.Form) → Fits format s line (f ∷ [])
    → format.first_fault s f ≡ None
fine_of format s line f (of_form _ u k form fine) = fine

-- where the same is said, a line has the same first fault
abbrev pub SameFault : (format : Format) → (format.Said → format.Said → Type 0) → Type 0
SameFault format Same = (s t : format.Said) → Same s t → (f : format.Form)
    → format.first_fault s f ≡ format.first_fault t f

-- where the same is said, the same is said after one more form
abbrev pub AddsSaid : (format : Format) → (format.Said → format.Said → Type 0)
    → (format.Said → format.Form → format.Said → Type 0) → Type 0
AddsSaid format Same Adds = (forms : List format.Form) (s t : format.Said) (f : format.Form)
    → Same (format.said forms) s → format.first_fault s f ≡ None → Adds s f t → Same (format.said (forms ++ f ∷ [])) t

module _ (format : Format) (Same : format.Said → format.Said → Type 0) (same_fault : SameFault format Same) where
  -- where the same is said, a line fits the same
  pub fits_same : (s t : format.Said) → Same s t → (line : List ℕ) (added : List format.Form) → Fits format t line added
      → Fits format s line added
  fits_same s t h line [] (skipped u k) = skipped u k
  fits_same s t h line (f ∷ []) (of_form _ u k form fine) = of_form f u k form (same_fault s t h f ∙ fine)
  fits_same s t h line (f ∷ (g ∷ more)) fit = elim fit [ ]

  pub faulty_same : (s t : format.Said) → Same s t → (line : List ℕ) (kind : TextKind) → IsFaulty format t line kind
      → IsFaulty format s line kind
  faulty_same s t h line kind (not_utf8 bad) = not_utf8 bad
  faulty_same s t h line kind (no_form u k none) = no_form u k none
  faulty_same s t h line kind (at_form f _ u k form fault) = at_form f kind u k form (same_fault s t h f ∙ fault)

-- ---- the whole text

-- what is wrong with a later line is wrong with the text
pub body_refused : (format : Format) (text : List ℕ) (body : List (List ℕ)) (e : TextError) → IsHeaded format text body
    → IsRefusal (λ line kind. (2 ≤ line) × HasFault format body (line - 2) kind) e
    → IsRefusal (IsFaultOfText format text) e
body_refused format text body e headed wrong = ⊎_elim inl
    (λ h. let place : e.line - 2 + 2 ≡ e.line = omega (arith, h.0) in
    inr (subst (λ n. IsFaultOfText format text n e.kind) place (at_line body (e.line - 2) e.kind headed h.1)))
    wrong

-- a text whose first line isn't cut off is refused
pub uncut_refused : (format : Format) (text : List ℕ) (e : TextError) → IsUncut text e
    → IsRefusal (IsFaultOfText format text) e
uncut_refused format text e wrong = ⊎_elim
    (λ h. rw h.0 (inr (too_long h.1)))
    (λ h. rw h.0 (inr (header_not_utf8 h.1 h.2 h.3 h.4)))
    wrong

-- a text that isn't opened is refused
pub unopened_refused : (format : Format) (text : List ℕ) (e : TextError) → IsUnopened format.kind format.version text e
    → IsRefusal (IsFaultOfText format text) e
unopened_refused format text e wrong = ⊎_elim
    (uncut_refused format text e)
    (λ h. rw h.0 (inr (no_header h.1 h.2 h.3 h.4 h.5)))
    wrong
