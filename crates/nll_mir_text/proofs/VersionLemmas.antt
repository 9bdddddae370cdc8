-- Texts of the two versions: which text is of which, and how a text is refused.
use Rattle.std.proofs.Common.{◌≡◌, ℕ, ◌<◌, List, length, get_or, refl, sym, ◌∙◌, subst, arith, inl, inr, ⊎_elim}
use Rattle.std.specs.Str.{IsUtf8}
use Rattle.nll_text.specs.Tokens.{Token}
use Rattle.nll_text.proofs.TokenLemmas.{one_token_list_lem}
use Rattle.nll_problem.specs.Limits.{most_bytes}
use Rattle.nll_problem.specs.declared.error.Kind.TheVariants.{Text}
use Rattle.nll_format.specs.Text.{IsHeaded, IsFormatHeader, IsCut, IsFaultOfText, IsRefusal, IsUncut, too_long, header_not_utf8, no_header}
use Rattle.nll_format.specs.declared.error.TextError.{TextError}
use Rattle.nll_format.specs.declared.error.TextKind.TheVariants.{NotUtf8, Header, Limit}
use Rattle.nll_mir_grammar.specs.MirForms.{Form, IsSpelled, HasForm}
use Rattle.nll_mir_grammar.specs.Versions.{HasFormIn}
use Rattle.nll_mir_grammar.specs.declared.version.Version.{Version}
use Rattle.nll_mir_grammar.specs.declared.version.Version.TheVariants.{First, Second}
use Rattle.nll_mir_grammar.proofs.LineLemmas.{one_form_lem}
use Rattle.nll_mir_text.specs.MirText.{mir, IsOfVersion, IsMirFault}

-- ---- a line has one form

pub one_form : (line : List ℕ) (f g : Form) → HasForm line f → HasForm line g → f ≡ g
one_form line f g h k =
    one_form_lem k.0 f g (subst (λ (ts : List Token). IsSpelled ts f) (one_token_list_lem line h.0 k.0 h.1 k.1) h.2) k.2

pub one_form_in : (version : Version) (line : List ℕ) (f g : Form) → HasFormIn version line f → HasFormIn version line g
    → f ≡ g
one_form_in version line f g h k = one_form line f g h.0 k.0

-- ---- a text has one version

headers_apart : (line : List ℕ) → IsFormatHeader (mir First) line → IsFormatHeader (mir Second) line → ⊥
headers_apart line f s = grind (arith, get_or)

first_line : (text : List ℕ) (one other : List ℕ) (b c : List (List ℕ)) → IsCut text one b → IsCut text other c
    → one ≡ other
first_line text one other b c h k = (let e = sym h.cut ∙ k.cut in cc)

pub not_second : (text : List ℕ) (b c : List (List ℕ)) → IsHeaded (mir First) text b → IsHeaded (mir Second) text c → ⊥
not_second text b c h k =
    headers_apart k.header (subst (λ l. IsFormatHeader (mir First) l)
    (first_line text h.header k.header b c h.cut k.cut) h.is_header) k.is_header

pub of_headed : (version : Version) (text : List ℕ) (body : List (List ℕ)) → IsHeaded (mir version) text body
    → IsOfVersion text version
of_headed First text body h = λ c k. not_second text body c h k
of_headed Second text body h = (body, h)

pub one_version : (text : List ℕ) (v w : Version) → IsOfVersion text v → IsOfVersion text w → v ≡ w
one_version text First First h k = refl
one_version text First Second h k = absurd (h k.0 k.1)
one_version text Second First h k = absurd (k h.0 h.1)
one_version text Second Second h k = refl

-- where the line is the header of neither, it is that of none
pub no_version : (line : List ℕ) → (IsFormatHeader (mir First) line → ⊥) → (IsFormatHeader (mir Second) line → ⊥)
    → (v : Version)
    → IsFormatHeader (mir v) line → ⊥
no_version line a b First h = a h
no_version line a b Second h = b h

-- ---- refusals

pub too_long_for_mir : (text : List ℕ) → most_bytes < length text → IsMirFault text 1 (Limit Text)
too_long_for_mir text long = (First, (λ body k. absurd (omega (arith, k.cut.short, long))), too_long long)

pub refused_in : (version : Version) (text : List ℕ) (body : List (List ℕ)) (error : TextError)
    → IsHeaded (mir version) text body → IsRefusal (IsFaultOfText (mir version) text) error
    → IsRefusal (IsMirFault text) error
refused_in version text body error headed refused =
    ⊎_elim inl (λ f. inr (version, of_headed version text body headed, f)) refused

-- the first line isn't cut off
pub refused_uncut : (text : List ℕ) (error : TextError) → IsUncut text error → IsRefusal (IsMirFault text) error
refused_uncut text error wrong = ⊎_elim
    (λ h. rw h.0 (inr (too_long_for_mir text h.1)))
    (λ h. rw h.0 (inr (at_line h.1 h.2 h.3 h.4)))
    wrong
  where
    at_line : (line : List ℕ) (body : List (List ℕ)) → IsCut text line body → (IsUtf8 line → ⊥)
        → IsMirFault text 1 NotUtf8
    at_line line body cut bad = (
      First,
      (λ b k. bad (subst IsUtf8 (first_line text k.header line b body k.cut cut) k.utf8)),
      header_not_utf8 line body cut bad,
    )

-- the first line is the header of no version
pub refused_at_header : (text header : List ℕ) (body : List (List ℕ)) → IsCut text header body → IsUtf8 header
    → ((v : Version) → IsFormatHeader (mir v) header → ⊥) → IsMirFault text 1 Header
refused_at_header text header body cut utf8 none = (
  First,
  (λ b k. none Second (subst (IsFormatHeader (mir Second))
      (first_line text k.header header b body k.cut cut) k.is_header)),
  no_header header body cut utf8 (none First),
)
