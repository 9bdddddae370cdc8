-- A facts text has one meaning or one fault.
use Rattle.std.proofs.Common.{◌⊎◌, inl, inr, ⊎_elim, ◌≡◌, ℕ, true, List, Contains, sym, ap, ◌∙◌, subst, arith}
use Rattle.std.proofs.lemmas.Bool.{cases_Bool, cases_eq, false≢true}
use Rattle.nll_problem.specs.Problem.{Problem, SameProblem}
use Rattle.nll_problem.proofs.SameLemmas.{same_problem, same_problem_back, same_problem_chain}
use Rattle.nll_format.specs.Labels.{Labels, numbers}
use Rattle.nll_format.specs.Text.{IsText, IsFaultOfText, IsHeaded, IsFormatHeader, too_long, header_not_utf8, no_header, at_line, no_end}
use Rattle.std.specs.Str.{IsUtf8}
use Rattle.nll_format.specs.declared.error.TextKind.{TextKind}
use Rattle.nll_format.proofs.TextLaws as laws
use Rattle.nll_facts.specs.FactsForms.{FactsForm, end}
use Rattle.nll_facts.specs.FactsVersions.{HasFactsFormIn, is_fact_of_version}
use Rattle.nll_facts.specs.FactsSaid.{last_fact_group, facts_names_said, problem_said}
use Rattle.nll_facts.specs.FactsText.{facts, IsFactsFault, IsFactsVersion, MeansFacts}
use Rattle.nll_facts.specs.declared.version.Version.{Version}
use Rattle.nll_facts.specs.declared.version.Version.TheVariants.{First, Second}
use Rattle.nll_facts.proofs.OneFormLemmas.{one_form, form_or_none}
use Rattle.nll_facts.proofs.TextLemmas.{ended, end_reached}
use Rattle.nll_facts.proofs.VersionLemmas.{one_form_in, one_version, of_headed, first_line}

-- a line has a form of the version, or none
form_in_or_none : (version : Version) (line : List ℕ)
    → ((f : FactsForm) × HasFactsFormIn version line f) ⊎ ((f : FactsForm) → HasFactsFormIn version line f → ⊥)
form_in_or_none version line = ⊎_elim
    (λ (has : (f : FactsForm) × _). ⊎_elim
    (λ of. inl (has.0, (has.1, of)))
    (λ other. inr (λ g h. false≢true (sym other
    ∙ subst (λ z. is_fact_of_version version z ≡ true) (one_form line g has.0 h.0 has.1) h.1)))
    (cases_Bool (is_fact_of_version version has.0)))
    (λ none. inr (λ f h. none f h.0))
    (form_or_none line)

-- the last line is among the lines, or it isn't
ended_or_not : (forms : List FactsForm) → Contains forms end ⊎ (Contains forms end → ⊥)
ended_or_not forms =
    ⊎_elim (λ h. inl (ended forms h)) (λ none. inr (λ has. none (end_reached forms has))) (cases_eq
    (last_fact_group forms) 6)

-- a text has the header of version 2, or it hasn't
headed_or_not : (text : List ℕ) → ((body : List (List ℕ)) × IsHeaded (facts Second) text body)
    ⊎ ((body : List (List ℕ)) → IsHeaded (facts Second) text body → ⊥)
headed_or_not text = ⊎_elim
    (λ h. inl (h.1.body, h.1.headed))
    (λ f. by f.0 f.1 f.2)
    (laws.text_or_fault_lem (facts Second) (form_in_or_none Second) ended_or_not text)
  where
    by : (l : ℕ) (k : TextKind) → IsFaultOfText (facts Second) text l k
        → ((body : List (List ℕ)) × IsHeaded (facts Second) text body)
        ⊎ ((body : List (List ℕ)) → IsHeaded (facts Second) text body → ⊥)
    by l k (too_long long) = inr (λ b h. absurd (omega (arith, long, h.cut.short)))
    by l k (header_not_utf8 header c cut bad) =
        inr (λ b h. bad (subst IsUtf8 (first_line text h.header header b c h.cut cut) h.utf8))
    by l k (no_header header c cut utf8 bad) =
        inr (λ b h. bad (subst (IsFormatHeader (facts Second))
        (first_line text h.header header b c h.cut cut) h.is_header))
    by l k (at_line b n kind h wrong) = inl (b, h)
    by l k (no_end b forms h says none) = inl (b, h)

-- ---- a text has one meaning or one fault

-- the labels that lines say
abbrev labels_said : List FactsForm → Labels
labels_said forms = record { names = facts_names_said forms; points = numbers }

pub one_fault_lem : (text : List ℕ) (l m : ℕ) (j k : TextKind) → IsFactsFault text l j → IsFactsFault text m k
    → (l ≡ m) × (j ≡ k)
one_fault_lem text l m j k f g =
    let e = one_version text f.0 g.0 f.1 g.1 in
    laws.one_fault_lem (facts f.0) (one_form_in f.0) text l m j k f.2
    (subst (λ v. IsFaultOfText (facts v) text m k) (sym e) g.2)

pub not_both_lem : (text : List ℕ) (problem : Problem) (labels : Labels) (l : ℕ) (k : TextKind)
    → MeansFacts text problem labels → IsFactsFault text l k → ⊥
not_both_lem text problem labels l k m fault =
    let e = one_version text m.version fault.0 (of_headed m.version text m.fits.body m.fits.headed) fault.1 in
    laws.not_both_lem (facts m.version) (one_form_in m.version) text m.forms l k m.fits
    (subst (λ v. IsFaultOfText (facts v) text l k) (sym e) fault.2)

pub one_meaning_lem : (text : List ℕ) (problem other : Problem) (labels other_labels : Labels)
    → MeansFacts text problem labels → MeansFacts text other other_labels
    → SameProblem problem other × (labels ≡ other_labels)
one_meaning_lem text problem other labels other_labels m n =
    let e = one_version text m.version n.version (of_headed m.version text m.fits.body m.fits.headed)
    (of_headed n.version text n.fits.body n.fits.headed) in
    let same : m.forms ≡ n.forms =
    laws.one_forms_lem (facts m.version) (one_form_in m.version) text m.forms n.forms m.fits
    (subst (λ v. IsText (facts v) text n.forms) (sym e) n.fits) in
    let here : SameProblem (problem_said n.forms) problem =
    subst (λ (fs : List FactsForm). SameProblem (problem_said fs) problem) same m.same_problem in (
      same_problem_chain problem (problem_said n.forms) other (same_problem_back _ _ here) n.same_problem,
      m.same_labels
          ∙ (ap labels_said same ∙ sym n.same_labels),
    )

-- what a text that fits means
meaning : (version : Version) (text : List ℕ) (forms : List FactsForm) → IsText (facts version) text forms
    → MeansFacts text (problem_said forms) (labels_said forms)
meaning version text forms fits = grind (arith, same_problem)

pub some_meaning_or_fault_lem : (text : List ℕ)
    → ((problem : Problem) × (labels : Labels) × MeansFacts text problem labels)
    ⊎ ((line : ℕ) × (kind : TextKind) × IsFactsFault text line kind)
some_meaning_or_fault_lem text = ⊎_elim (λ h. of Second h) (λ none. of First none) (headed_or_not text)
  where
    of : (version : Version) → IsFactsVersion text version
        → ((problem : Problem) × (labels : Labels) × MeansFacts text problem labels)
        ⊎ ((line : ℕ) × (kind : TextKind) × IsFactsFault text line kind)
    of version is = ⊎_elim
        (λ h. inl (problem_said h.0, labels_said h.0, meaning version text h.0 h.1))
        (λ f. inr (f.0, f.1, (version, is, f.2)))
        (laws.text_or_fault_lem (facts version) (form_in_or_none version) ended_or_not text)
