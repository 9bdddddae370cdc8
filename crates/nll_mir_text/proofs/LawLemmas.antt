-- A MIR text has one meaning at most, one fault at most, and never both or neither.
use Rattle.std.proofs.Common.{◌≡◌, ℕ, List, refl, sym, ap, ◌∙◌, subst}
use Rattle.nll_format.specs.Text.{IsFaultOfText, IsText, IsHeaded}
use Rattle.nll_format.specs.declared.error.TextKind.{TextKind}
use Rattle.nll_format.proofs.TextLaws as laws
use Rattle.nll_mir_grammar.specs.MirForms.{Form}
use Rattle.nll_mir_grammar.specs.declared.version.Version.{Version}
use Rattle.nll_mir_grammar.specs.declared.version.Version.TheVariants.{First, Second}
use Rattle.nll_body.specs.Bodies.{BodyText}
use Rattle.nll_body.specs.Sound.{IsSoundBody}
use Rattle.nll_body.specs.WellTyped.{IsWellTyped}
use Rattle.nll_mir_text.specs.MirSaid.{said}
use Rattle.nll_mir_text.specs.MirText.{mir, Means, IsMirFault, body_said}
use Rattle.nll_mir_text.proofs.NeitherLemmas.{text_not_neither}
use Rattle.nll_mir_text.proofs.SoundLemmas.{sound_text}
use Rattle.nll_mir_text.proofs.VersionLemmas.{one_form_in, one_version, of_headed}

pub one_fault_lem : (text : List ℕ) (l m : ℕ) (j k : TextKind) → IsMirFault text l j → IsMirFault text m k
    → (l ≡ m) × (j ≡ k)
one_fault_lem text l m j k f g =
    let e = one_version text f.0 g.0 f.1 g.1 in
    laws.one_fault_lem (mir f.0) (one_form_in f.0) text l m j k f.2 (subst (λ v. IsFaultOfText (mir v) text m k)
    (sym e) g.2)

pub not_both_lem : (text : List ℕ) (body : BodyText) (l : ℕ) (k : TextKind) → Means text body → IsMirFault text l k → ⊥
not_both_lem text body l k m fault =
    let e = one_version text m.version fault.0 (of_headed m.version text m.fits.body m.fits.headed) fault.1 in
    laws.not_both_lem (mir m.version) (one_form_in m.version) text m.forms l k m.fits
    (subst (λ v. IsFaultOfText (mir v) text l k) (sym e) fault.2)

pub one_meaning_lem : (text : List ℕ) (body other : BodyText) → Means text body → Means text other → body ≡ other
one_meaning_lem text body other m n =
    let e = one_version text m.version n.version (of_headed m.version text m.fits.body m.fits.headed)
    (of_headed n.version text n.fits.body n.fits.headed) in
    let same : m.forms ≡ n.forms =
    laws.one_forms_lem (mir m.version) (one_form_in m.version) text m.forms n.forms m.fits
    (subst (λ v. IsText (mir v) text n.forms) (sym e) n.fits) in
    m.same ∙ (ap (λ (fs : List Form). body_said (said fs)) same ∙ sym n.same)

pub meanings_are_sound_lem : (text : List ℕ) (body : BodyText) → Means text body → IsSoundBody body
meanings_are_sound_lem text body m = subst IsSoundBody (sym m.same) (sound_text m.version text m.forms m.fits)

pub meanings_are_typed_lem : (text : List ℕ) (body : BodyText) → Means text body → IsWellTyped body
meanings_are_typed_lem text body m = (meanings_are_sound_lem text body m).well_typed

pub not_neither_lem : (text : List ℕ) → ((body : BodyText) → Means text body → ⊥)
    → ((l : ℕ) (k : TextKind) → IsMirFault text l k → ⊥) → ⊥
not_neither_lem text none fine =
    text_not_neither First text (no_text First) (λ l k f. fine l k (First, not_second_here, f))
  where
    no_text : (v : Version) (forms : List Form) → IsText (mir v) text forms → ⊥
    no_text v forms fits =
        none (body_said (said forms)) (record { version = v; forms = forms; fits = fits; same = refl })

    not_second_here : (body : List (List ℕ)) → IsHeaded (mir Second) text body → ⊥
    not_second_here body h = text_not_neither Second text (no_text Second) (λ l k f. fine l k (Second, (body, h), f))
