-- A text of a format fits in one way or has one fault, whatever the format is.
use Rattle.std.proofs.Common.{◌⊎◌, inl, inr, ⊎_elim, ◌≤◌, eqb, Option, Some, ◌≡◌, ℕ, ◌+◌, ◌<◌, suc, true, false, List, [], ◌∷◌, ◌++◌, None, length, refl, sym, ap, ◌∙◌, subst, arith}
use Rattle.std.specs.Cmp.Lexicographic.{pointwise}
use Rattle.std.specs.Str.{IsUtf8, bytes_eq}
use Rattle.std.proofs.lemmas.Bool.{false≢true, cases_Bool, cases_lt}
use Rattle.std.proofs.lemmas.List.Splits.{length-slice_split}
use Rattle.std.proofs.lemmas.Slice.Eq.{bytes_eq-Decides, slice_eq-Decides}
use Rattle.std.proofs.lemmas.Option.{none-some, same_Some}
use Rattle.nll_text.specs.Lines.{lines_of, without_last_feed, is_skipped}
use Rattle.nll_text.specs.Header.{runs}
use Rattle.nll_text.proofs.DecisionLemmas.{holds_or_not, same_first, same_rest, utf8_or_not}
use Rattle.nll_problem.specs.Limits.{most_bytes}
use Rattle.nll_problem.specs.declared.error.Kind.TheVariants.{Text}
use Rattle.nll_format.specs.Text.{Format, IsFormatHeader, Fits, skipped, of_form, IsFaulty, not_utf8, no_form, at_form, Says, HasFault, IsCut, IsHeaded, IsText, IsFaultOfText, too_long, header_not_utf8, no_header, at_line, no_end}
use Rattle.nll_format.specs.declared.error.TextKind.{TextKind}
use Rattle.nll_format.specs.declared.error.TextKind.TheVariants.{NotUtf8, Header, Syntax, Limit, End}

-- ---- what the laws ask of a format

-- a line has at most one form
abbrev pub HasOneForm : Format → Type 0
HasOneForm format = (line : List ℕ) (f g : format.Form) → format.HasForm line f → format.HasForm line g → f ≡ g

-- a line has a form, or it has none
abbrev pub HasFormOrNone : Format → Type 0
HasFormOrNone format = (line : List ℕ)
    → ((f : format.Form) × format.HasForm line f) ⊎ ((f : format.Form) → format.HasForm line f → ⊥)

-- a text may stop behind the lines, or it may not
abbrev pub HasEndedOrNot : Format → Type 0
HasEndedOrNot format = (forms : List format.Form) → format.HasEnded forms ⊎ (format.HasEnded forms → ⊥)

-- ---- where a line has at most one form

module _ (format : Format) (one_form : HasOneForm format) where
  -- ---- a line fits in one way or has one kind of fault

  adds_nothing : (s : format.Said) (line : List ℕ) (b : List format.Form) → is_skipped line ≡ true
      → Fits format s line b → [] ≡ b
  adds_nothing s line [] k fit = refl
  adds_nothing s line (f ∷ []) k (of_form _ u j form fine) = absurd (false≢true (sym j ∙ k))
  adds_nothing s line (f ∷ (g ∷ more)) k fit = elim fit [ ]

  adds_form : (s : format.Said) (line : List ℕ) (f : format.Form) (b : List format.Form) → is_skipped line ≡ false
      → format.HasForm line f → Fits format s line b → f ∷ [] ≡ b
  adds_form s line f [] k form (skipped u j) = absurd (false≢true (sym k ∙ j))
  adds_form s line f (g ∷ []) k form (of_form _ u j other fine) =
      ap (λ (x : format.Form). x ∷ []) (one_form line f g form other)
  adds_form s line f (g ∷ (h ∷ more)) k form fit = elim fit [ ]

  one_fit : (s : format.Said) (line : List ℕ) (a b : List format.Form) → Fits format s line a → Fits format s line b
      → a ≡ b
  one_fit s line [] b (skipped u k) fit = adds_nothing s line b k fit
  one_fit s line (f ∷ []) b (of_form _ u k form fine) fit = adds_form s line f b k form fit
  one_fit s line (f ∷ (g ∷ more)) b x fit = elim x [ ]

  skipped_is_fine : (s : format.Said) (line : List ℕ) (kind : TextKind) → IsUtf8 line → is_skipped line ≡ true
      → IsFaulty format s line kind → ⊥
  skipped_is_fine s line kind u k (not_utf8 bad) = bad u
  skipped_is_fine s line kind u k (no_form v j none) = false≢true (sym j ∙ k)
  skipped_is_fine s line kind u k (at_form f _ v j form fault) = false≢true (sym j ∙ k)

  form_is_fine : (s : format.Said) (line : List ℕ) (f : format.Form) (kind : TextKind) → IsUtf8 line
      → format.HasForm line f → format.first_fault s f ≡ None → IsFaulty format s line kind → ⊥
  form_is_fine s line f kind u form fine (not_utf8 bad) = bad u
  form_is_fine s line f kind u form fine (no_form v j none) = none f form
  form_is_fine s line f kind u form fine (at_form g _ v j other fault) =
      none-some kind (sym fine ∙ (ap (format.first_fault s) (one_form line f g form other) ∙ fault))

  fits_is_fine : (s : format.Said) (line : List ℕ) (added : List format.Form) (kind : TextKind)
      → Fits format s line added → IsFaulty format s line kind → ⊥
  fits_is_fine s line [] kind (skipped u k) bad = skipped_is_fine s line kind u k bad
  fits_is_fine s line (f ∷ []) kind (of_form _ u k form fine) bad = form_is_fine s line f kind u form fine bad
  fits_is_fine s line (f ∷ (g ∷ more)) kind fit bad = elim fit [ ]

  one_kind : (s : format.Said) (line : List ℕ) (j k : TextKind) → IsFaulty format s line j → IsFaulty format s line k
      → j ≡ k
  one_kind s line j k (not_utf8 bad) (not_utf8 other) = refl
  one_kind s line j k (not_utf8 bad) (no_form u t none) = absurd (bad u)
  one_kind s line j k (not_utf8 bad) (at_form f _ u t form fault) = absurd (bad u)
  one_kind s line j k (no_form u t none) (not_utf8 bad) = absurd (bad u)
  one_kind s line j k (no_form u t none) (no_form v q other) = refl
  one_kind s line j k (no_form u t none) (at_form f _ v q form fault) = absurd (none f form)
  one_kind s line j k (at_form f _ u t form fault) (not_utf8 bad) = absurd (bad u)
  one_kind s line j k (at_form f _ u t form fault) (no_form v q none) = absurd (none f form)
  one_kind s line j k (at_form f _ u t form fault) (at_form g _ v q other second) =
      same_Some j k (sym fault ∙ (ap (format.first_fault s) (one_form line f g form other) ∙ second))

  -- ---- lines say one list of forms or have one first fault

  one_reading : (before : List format.Form) (lines : List (List ℕ)) (forms others : List format.Form)
      → Says format before lines forms → Says format before lines others → forms ≡ others
  one_reading before [] forms others h k = h ∙ sym k
  one_reading before (line ∷ lines) forms others h k =
      let same : k.0 ≡ h.0 = one_fit (format.said before) line k.0 h.0 k.1 h.1 in
      one_reading (before ++ h.0) lines forms others h.2
      (subst (λ (added : List format.Form). Says format (before ++ added) lines others) same k.2)

  -- lines that are all fine have no fault
  fine_or_faulty : (before : List format.Form) (front : List (List ℕ)) (line : List ℕ) (back : List (List ℕ))
      (forms all : List format.Form) (kind : TextKind) → Says format before front forms
      → IsFaulty format (format.said forms) line kind → Says format before (front ++ line ∷ back) all → ⊥
  fine_or_faulty before [] line back forms all kind h bad k = grind (arith, fits_is_fine)
  fine_or_faulty before (l ∷ front) line back forms all kind h bad k =
      let same : k.0 ≡ h.0 = one_fit (format.said before) l k.0 h.0 k.1 h.1 in
      fine_or_faulty (before ++ h.0) front line back forms all kind h.2 bad
      (subst (λ (added : List format.Form). Says format (before ++ added) (front ++ line ∷ back) all) same k.2)

  -- the same lines have their first fault at one place, and it is of one kind
  one_place : (before : List format.Form) (front others : List (List ℕ)) (line second : List ℕ)
      (back after : List (List ℕ)) (forms said_there : List format.Form) (j k : TextKind)
      → front ++ line ∷ back ≡ others ++ second ∷ after → Says format before front forms
      → Says format before others said_there → IsFaulty format (format.said forms) line j
      → IsFaulty format (format.said said_there) second k → (length front ≡ length others) × (j ≡ k)
  one_place before [] [] line second back after forms said_there j k e h g bad worse =
      grind (arith, one_kind, same_first)
  one_place before [] (m ∷ others) line second back after forms said_there j k e h g bad worse =
      grind (arith, fits_is_fine, same_first)
  one_place before (l ∷ front) [] line second back after forms said_there j k e h g bad worse =
      grind (arith, fits_is_fine, same_first)
  one_place before (l ∷ front) (m ∷ others) line second back after forms said_there j k e h g bad worse =
      let there : Fits format (format.said before) l g.0 =
      subst (λ (x : List ℕ). Fits format (format.said before) x g.0) (sym (same_first e)) g.1 in
      let same : g.0 ≡ h.0 = one_fit (format.said before) l g.0 h.0 there h.1 in
      let p : (length front ≡ length others) × (j ≡ k) =
      one_place (before ++ h.0) front others line second back after forms said_there j k (same_rest e) h.2
      (subst (λ (added : List format.Form). Says format (before ++ added) others said_there) same g.2) bad worse in
      (ap suc p.0, p.1)

  one_first : (lines : List (List ℕ)) (n m : ℕ) (j k : TextKind) → HasFault format lines n j → HasFault format lines m k
      → (n ≡ m) × (j ≡ k)
  one_first lines n m j k h g = grind (arith, one_place)

  fine_lines : (lines : List (List ℕ)) (n : ℕ) (kind : TextKind) (all : List format.Form) → HasFault format lines n kind
      → Says format [] lines all → ⊥
  fine_lines lines n kind all h says = grind (arith, fine_or_faulty)

  -- ---- a text fits or has one fault

  same_header : (text header other : List ℕ) (body rest : List (List ℕ)) → IsCut text header body
      → IsCut text other rest → header ≡ other
  same_header text header other body rest c d = same_first (sym c.cut ∙ d.cut)

  same_body : (text : List ℕ) (body rest : List (List ℕ)) → IsHeaded format text body → IsHeaded format text rest
      → body ≡ rest
  same_body text body rest c d = same_rest (sym c.cut.cut ∙ d.cut.cut)

  -- a text with a header has neither fault of the header
  utf8_too : (text header : List ℕ) (body rest : List (List ℕ)) → IsHeaded format text rest → IsCut text header body
      → IsUtf8 header
  utf8_too text header body rest h c = subst IsUtf8 (same_header text h.header header rest body h.cut c) h.utf8

  header_too : (text header : List ℕ) (body rest : List (List ℕ)) → IsHeaded format text rest → IsCut text header body
      → IsFormatHeader format header
  header_too text header body rest h c =
      subst (IsFormatHeader format) (same_header text h.header header rest body h.cut c) h.is_header

  -- the faults of a header shut each other out
  no_header_is_utf8 : (text header other : List ℕ) (body rest : List (List ℕ)) → IsCut text header body
      → IsCut text other rest → IsUtf8 header → IsUtf8 other
  no_header_is_utf8 text header other body rest c d u = subst IsUtf8 (same_header text header other body rest c d) u

  pub one_fault_lem : (text : List ℕ) (l m : ℕ) (j k : TextKind) → IsFaultOfText format text l j
      → IsFaultOfText format text m k
      → (l ≡ m) × (j ≡ k)
  one_fault_lem text l m j k (too_long h) (too_long g) = (refl, refl)
  one_fault_lem text l m j k (too_long h) (header_not_utf8 a b c bad) = absurd (omega (arith, h, c.short))
  one_fault_lem text l m j k (too_long h) (no_header a b c u bad) = absurd (omega (arith, h, c.short))
  one_fault_lem text l m j k (too_long h) (at_line b n _ c bad) = absurd (omega (arith, h, c.cut.short))
  one_fault_lem text l m j k (too_long h) (no_end b fs c says none) = absurd (omega (arith, h, c.cut.short))
  one_fault_lem text l m j k (header_not_utf8 a b c bad) (too_long g) = absurd (omega (arith, g, c.short))
  one_fault_lem text l m j k (header_not_utf8 a b c bad) (header_not_utf8 x y d worse) = (refl, refl)
  one_fault_lem text l m j k (header_not_utf8 a b c bad) (no_header x y d u worse) =
      absurd (bad (no_header_is_utf8 text x a y b d c u))
  one_fault_lem text l m j k (header_not_utf8 a b c bad) (at_line y n _ d worse) =
      absurd (bad (utf8_too text a b y d c))
  one_fault_lem text l m j k (header_not_utf8 a b c bad) (no_end y fs d says none) =
      absurd (bad (utf8_too text a b y d c))
  one_fault_lem text l m j k (no_header a b c u bad) (too_long g) = absurd (omega (arith, g, c.short))
  one_fault_lem text l m j k (no_header a b c u bad) (header_not_utf8 x y d worse) =
      absurd (worse (no_header_is_utf8 text a x b y c d u))
  one_fault_lem text l m j k (no_header a b c u bad) (no_header x y d v worse) = (refl, refl)
  one_fault_lem text l m j k (no_header a b c u bad) (at_line y n _ d worse) = absurd (bad (header_too text a b y d c))
  one_fault_lem text l m j k (no_header a b c u bad) (no_end y fs d says none) =
      absurd (bad (header_too text a b y d c))
  one_fault_lem text l m j k (at_line b n _ c bad) (too_long g) = absurd (omega (arith, g, c.cut.short))
  one_fault_lem text l m j k (at_line b n _ c bad) (header_not_utf8 x y d worse) =
      absurd (worse (utf8_too text x y b c d))
  one_fault_lem text l m j k (at_line b n _ c bad) (no_header x y d v worse) =
      absurd (worse (header_too text x y b c d))
  one_fault_lem text l m j k (at_line b n _ c bad) (at_line y o _ d worse) =
      let p : (n ≡ o) × (j ≡ k) =
      one_first y n o j k (subst (λ (ls : List (List ℕ)). HasFault format ls n j) (same_body text b y c d) bad)
      worse in
      (ap (λ (z : ℕ). z + 2) p.0, p.1)
  one_fault_lem text l m j k (at_line b n _ c bad) (no_end y fs d says none) =
      absurd (fine_lines y n j fs (subst (λ (ls : List (List ℕ)). HasFault format ls n j) (same_body text b y c d) bad)
      says)
  one_fault_lem text l m j k (no_end b fs c says none) (too_long g) = absurd (omega (arith, g, c.cut.short))
  one_fault_lem text l m j k (no_end b fs c says none) (header_not_utf8 x y d worse) =
      absurd (worse (utf8_too text x y b c d))
  one_fault_lem text l m j k (no_end b fs c says none) (no_header x y d v worse) =
      absurd (worse (header_too text x y b c d))
  one_fault_lem text l m j k (no_end b fs c says none) (at_line y o _ d worse) =
      absurd (fine_lines b o k fs (subst (λ (ls : List (List ℕ)). HasFault format ls o k)
      (same_body text y b d c) worse) says)
  one_fault_lem text l m j k (no_end b fs c says none) (no_end y gs d second lacks) = (refl, refl)

  -- the body of a text that fits
  body_of : (text : List ℕ) (body : List (List ℕ)) (forms : List format.Form) → IsText format text forms
      → IsHeaded format text body → Says format [] body forms
  body_of text body forms h c =
      subst (λ (ls : List (List ℕ)). Says format [] ls forms) (same_body text h.body body h.headed c) h.fine

  -- a text that fits has no fault
  pub not_both_lem : (text : List ℕ) (forms : List format.Form) (l : ℕ) (k : TextKind) → IsText format text forms
      → IsFaultOfText format text l k → ⊥
  not_both_lem text forms l k m (too_long h) = omega (arith, h, m.headed.cut.short)
  not_both_lem text forms l k m (header_not_utf8 a b c bad) = bad (utf8_too text a b m.body m.headed c)
  not_both_lem text forms l k m (no_header a b c u bad) = bad (header_too text a b m.body m.headed c)
  not_both_lem text forms l k m (at_line b n _ c bad) = fine_lines b n k forms bad (body_of text b forms m c)
  not_both_lem text forms l k m (no_end b fs c says none) =
      none (subst format.HasEnded (one_reading [] b forms fs (body_of text b forms m c) says) m.ended)

  -- a text that fits has one list of forms
  pub one_forms_lem : (text : List ℕ) (forms others : List format.Form) → IsText format text forms
      → IsText format text others → forms ≡ others
  one_forms_lem text forms others m n = one_reading [] n.body forms others (body_of text n.body forms m n.headed) n.fine

-- ---- each text fits or has a fault

header_or_not : (format : Format) (line : List ℕ) → IsFormatHeader format line ⊎ (IsFormatHeader format line → ⊥)
header_or_not format line =
    let two : List (List ℕ) = format.kind ∷ format.version ∷ [] in
    holds_or_not (pointwise bytes_eq (runs line) two) (slice_eq-Decides bytes_eq-Decides (runs line) two _ refl)

module _ (format : Format) (form_or_none : HasFormOrNone format) (ended_or_not : HasEndedOrNot format) where
  -- after lines that say s the line fits or is faulty
  abbrev FitsOrFaulty : format.Said → List ℕ → Type 0
  FitsOrFaulty s line =
      ((added : List format.Form) × Fits format s line added) ⊎ ((kind : TextKind) × IsFaulty format s line kind)

  by_first_fault : (s : format.Said) (line : List ℕ) (f : format.Form) (o : Option TextKind) → IsUtf8 line
      → is_skipped line ≡ false → format.HasForm line f → format.first_fault s f ≡ o → FitsOrFaulty s line
  by_first_fault s line f None u k form e = inl (f ∷ [], of_form f u k form e)
  by_first_fault s line f (Some kind) u k form e = inr (kind, at_form f kind u k form e)

  line_or_fault : (s : format.Said) (line : List ℕ) → FitsOrFaulty s line
  line_or_fault s line = ⊎_elim
      (λ u. ⊎_elim
      (λ k. inl ([], skipped u k))
      (λ k. ⊎_elim
      (λ h. by_first_fault s line h.0 (format.first_fault s h.0) u k h.1 refl)
      (λ none. inr (Syntax, no_form u k none))
      (form_or_none line))
      (cases_Bool (is_skipped line)))
      (λ bad. inr (NotUtf8, not_utf8 bad))
      (utf8_or_not line)

  -- of lines after those of the forms `before`, the first that has a fault
  record IsFaultAfter (before : List format.Form) (lines : List (List ℕ)) : Type 0 where
    front : List (List ℕ)
    line : List ℕ
    back : List (List ℕ)
    cut : lines ≡ front ++ line ∷ back
    forms : List format.Form
    fine : Says format before front forms
    kind : TextKind
    wrong : IsFaulty format (format.said forms) line kind

  lines_or_fault : (before : List format.Form) (lines : List (List ℕ))
      → ((forms : List format.Form) × Says format before lines forms) ⊎ IsFaultAfter before lines
  lines_or_fault before [] = inl (before, refl)
  lines_or_fault before (line ∷ lines) = ⊎_elim
      (λ fit. ⊎_elim
      (λ h. inl (h.0, (fit.0, fit.1, h.1)))
      (λ h. inr (record {
        front = line ∷ h.front;
        line = h.line;
        back = h.back;
        cut = ap (λ (ls : List (List ℕ)). line ∷ ls) h.cut;
        forms = h.forms;
        fine = (fit.0, fit.1, h.fine);
        kind = h.kind;
        wrong = h.wrong;
      }))
      (lines_or_fault (before ++ fit.0) lines))
      (λ bad. inr (record {
        front = [];
        line = line;
        back = lines;
        cut = refl;
        forms = before;
        fine = refl;
        kind = bad.0;
        wrong = bad.1;
      }))
      (line_or_fault (format.said before) line)

  -- the text fits or has a fault
  abbrev IsTextOrFaulty : List ℕ → Type 0
  IsTextOrFaulty text =
      ((forms : List format.Form) × IsText format text forms)
      ⊎ ((line : ℕ) × (kind : TextKind) × IsFaultOfText format text line kind)

  by_end : (text : List ℕ) (body : List (List ℕ)) (forms : List format.Form) → IsHeaded format text body
      → Says format [] body forms → IsTextOrFaulty text
  by_end text body forms h says = ⊎_elim
      (λ e. inl (forms, record { body = body; headed = h; fine = says; ended = e }))
      (λ none. inr (length (lines_of text), End, no_end body forms h says none))
      (ended_or_not forms)

  by_body : (text : List ℕ) (body : List (List ℕ)) → IsHeaded format text body → IsTextOrFaulty text
  by_body text body headed = ⊎_elim
      (λ h. by_end text body h.0 headed h.1)
      (λ h. inr (
        length h.front + 2,
        h.kind,
        at_line body (length h.front) h.kind headed (record {
          front = h.front;
          line = h.line;
          back = h.back;
          cut = h.cut;
          place = refl;
          forms = h.forms;
          fine = h.fine;
          wrong = h.wrong;
        }),
      ))
      (lines_or_fault [] body)

  by_header : (text header : List ℕ) (body : List (List ℕ)) → IsCut text header body → IsTextOrFaulty text
  by_header text header body c = ⊎_elim
      (λ u. ⊎_elim
      (λ i. by_body text body (record { header = header; cut = c; utf8 = u; is_header = i }))
      (λ bad. inr (1, Header, no_header header body c u bad))
      (header_or_not format header))
      (λ bad. inr (1, NotUtf8, header_not_utf8 header body c bad))
      (utf8_or_not header)

  by_lines : (text : List ℕ) (lines : List (List ℕ)) → length text ≤ most_bytes → 0 < length lines
      → lines_of text ≡ lines → IsTextOrFaulty text
  by_lines text [] short some e = absurd (omega arith)
  by_lines text (header ∷ body) short some e = by_header text header body (record { short = short; cut = e })

  pub text_or_fault_lem : (text : List ℕ) → IsTextOrFaulty text
  text_or_fault_lem text = ⊎_elim
      (λ long. inr (1, Limit Text, too_long long))
      (λ short. by_lines text (lines_of text) short
      (omega (arith, length-slice_split (λ b. eqb b 10) (without_last_feed text))) refl)
      (cases_lt most_bytes (length text))
