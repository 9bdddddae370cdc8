-- Texts of the two versions: which text is of which, and how a text is refused.
use Rattle.std.proofs.Common.{◌≡◌, ℕ, ◌<◌, true, false, List, length, get_or, refl, sym, ◌∙◌, subst, arith, inl, inr, ⊎_elim}
use Rattle.std.specs.Str.{IsUtf8}
use Rattle.std.proofs.lemmas.Bool.{false≢true}
use Rattle.nll_problem.specs.Limits.{most_bytes}
use Rattle.nll_problem.specs.declared.error.Kind.TheVariants.{Text}
use Rattle.nll_format.specs.Text.{IsHeaded, IsFormatHeader, IsCut, IsFaultOfText, IsFaulty, IsRefusal, IsUncut, no_form}
use Rattle.nll_format.specs.Text as texts
use Rattle.nll_text.specs.Lines.{is_skipped}
use Rattle.nll_format.specs.declared.error.TextError.{TextError}
use Rattle.nll_format.specs.declared.error.TextKind.{TextKind}
use Rattle.nll_format.specs.declared.error.TextKind.TheVariants.{NotUtf8, Header, Limit, Syntax}
use Rattle.nll_facts.specs.FactsForms.{FactsForm, HasFactsForm}
use Rattle.nll_facts.specs.FactsVersions.{HasFactsFormIn, is_fact_of_version}
use Rattle.nll_facts.specs.declared.version.Version.{Version}
use Rattle.nll_facts.specs.declared.version.Version.TheVariants.{First, Second}
use Rattle.nll_facts.specs.FactsSaid.{SaidFacts}
use Rattle.nll_facts.specs.FactsText.{facts, IsFactsVersion, IsFactsFault}
use Rattle.nll_facts.proofs.OneFormLemmas.{one_form}

-- ---- a line has one form

pub one_form_in : (version : Version) (line : List ℕ) (f g : FactsForm) → HasFactsFormIn version line f
    → HasFactsFormIn version line g
    → f ≡ g
one_form_in version line f g h k = one_form line f g h.0 k.0

-- a line of a form that isn't of the version has no form in it
pub other_version : (version : Version) (s : SaidFacts) (line : List ℕ) (f : FactsForm) (kind : TextKind) → IsUtf8 line
    → is_skipped line ≡ false → HasFactsForm line f
    → kind ≡ Syntax → is_fact_of_version version f ≡ false → IsFaulty (facts version) s line kind
other_version version s line f kind utf8 kept form e other =
    subst (λ k. IsFaulty (facts version) s line k) (sym e)
    (no_form utf8 kept (λ g h. false≢true
    (sym other ∙ subst (λ z. is_fact_of_version version z ≡ true) (one_form line g f h.0 form) h.1)))

-- ---- a text has one version

headers_apart : (line : List ℕ) → IsFormatHeader (facts First) line → IsFormatHeader (facts Second) line → ⊥
headers_apart line f s = grind (arith, get_or)

pub first_line : (text : List ℕ) (one other : List ℕ) (b c : List (List ℕ)) → IsCut text one b → IsCut text other c
    → one ≡ other
first_line text one other b c h k = (let e = sym h.cut ∙ k.cut in cc)

pub not_second : (text : List ℕ) (b c : List (List ℕ)) → IsHeaded (facts First) text b → IsHeaded (facts Second) text c
    → ⊥
not_second text b c h k = grind (arith, headers_apart, first_line)

pub of_headed : (version : Version) (text : List ℕ) (body : List (List ℕ)) → IsHeaded (facts version) text body
    → IsFactsVersion text version
of_headed First text body h = λ c k. not_second text body c h k
of_headed Second text body h = (body, h)

pub one_version : (text : List ℕ) (v w : Version) → IsFactsVersion text v → IsFactsVersion text w → v ≡ w
one_version text First First h k = refl
one_version text First Second h k = absurd (h k.0 k.1)
one_version text Second First h k = absurd (k h.0 h.1)
one_version text Second Second h k = refl

-- where the line is the header of neither, it is that of none
pub no_version : (line : List ℕ) → (IsFormatHeader (facts First) line → ⊥) → (IsFormatHeader (facts Second) line → ⊥)
    → (v : Version) → IsFormatHeader (facts v) line → ⊥
no_version line a b First h = a h
no_version line a b Second h = b h

-- ---- refusals

pub too_long : (text : List ℕ) → most_bytes < length text → IsFactsFault text 1 (Limit Text)
too_long text long = (First, (λ body k. absurd (omega (arith, k.cut.short, long))), texts.too_long long)

pub refused_in : (version : Version) (text : List ℕ) (body : List (List ℕ)) (error : TextError)
    → IsHeaded (facts version) text body → IsRefusal (IsFaultOfText (facts version) text) error
    → IsRefusal (IsFactsFault text) error
refused_in version text body error headed refused =
    ⊎_elim inl (λ f. inr (version, of_headed version text body headed, f)) refused

-- the first line isn't cut off
pub refused_uncut : (text : List ℕ) (error : TextError) → IsUncut text error → IsRefusal (IsFactsFault text) error
refused_uncut text error wrong = ⊎_elim
    (λ h. rw h.0 (inr (too_long text h.1)))
    (λ h. rw h.0 (inr (at_line h.1 h.2 h.3 h.4)))
    wrong
  where
    at_line : (line : List ℕ) (body : List (List ℕ)) → IsCut text line body → (IsUtf8 line → ⊥)
        → IsFactsFault text 1 NotUtf8
    at_line line body cut bad = (
      First,
      (λ b k. bad (subst IsUtf8 (first_line text k.header line b body k.cut cut) k.utf8)),
      texts.header_not_utf8 line body cut bad,
    )

-- the first line is the header of no version
pub refused_at_header : (text header : List ℕ) (body : List (List ℕ)) → IsCut text header body → IsUtf8 header
    → ((v : Version) → IsFormatHeader (facts v) header → ⊥) → IsFactsFault text 1 Header
refused_at_header text header body cut utf8 none = (
  First,
  (λ b k. none Second (subst (IsFormatHeader (facts Second))
      (first_line text k.header header b body k.cut cut) k.is_header)),
  texts.no_header header body cut utf8 (none First),
)
