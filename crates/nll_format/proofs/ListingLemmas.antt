-- A line of a listing, taken in behind others, and what holds of its texts.
use Rattle.std.proofs.Common.{◌≡◌, ⊎_elim, ◌⊎◌, ℕ, List, [], ◌∷◌, ◌++◌, None, Some, refl, sym, ap, ◌∙◌}
use Rattle.nll_format.specs.Parts.{Part, Spells}
use Rattle.nll_format.specs.Text.{Format, Fits, skipped, of_form, IsFaulty, not_utf8, no_form, at_form, IsPassedOver, IsFormless, IsFaultOfText, too_long, header_not_utf8, no_header, at_line, no_end}
use Rattle.nll_format.specs.Reading.{ReadsLine, reads}
use Rattle.nll_format.specs.Listing.{Listing, format_of, AddsEntry}
use Rattle.nll_format.specs.declared.error.TextKind.{TextKind}
use Rattle.nll_format.specs.declared.error.TextKind.TheVariants.{End, Memory}
use Rattle.nll_format.proofs.PartLemmas.{spelled_utf8, spelled_kept}
use Rattle.nll_format.specs.Lines.{TakesIn, TurnsDown}
use Rattle.nll_format.proofs.LinesLemmas.{takes_in, turns_down}

-- a line of none of the forms is skipped, or it has the fault that is told
pub passes : (format : Format) (s : format.Said) (line : List ℕ) → IsPassedOver line → Fits format s line []
passes format s line h = skipped h.0 h.1

pub formless : (format : Format) (s : format.Said) (line : List ℕ) (kind : TextKind)
    → ((f : format.Form) → format.HasForm line f → ⊥) → IsFormless line kind → IsFaulty format s line kind
formless format s line kind none wrong = ⊎_elim
    (λ h. rw h.0 (not_utf8 h.1))
    (λ h. rw h.0 (no_form h.1 h.2 none))
    wrong

module _ (listing : Listing) where
  abbrev Same : List listing.Entry → List listing.Entry → Type 0
  Same = ◌≡◌ {A = List listing.Entry}

  -- a line that adds an entry, or is skipped, is taken in
  pub entries_taken : (entries more : List listing.Entry) (line : List ℕ)
      → ReadsLine (format_of listing) (AddsEntry listing) entries line more
      → TakesIn (format_of listing) (λ forms. forms ≡ entries) (λ forms. forms ≡ more) line
  entries_taken =
      takes_in (format_of listing) Same (λ s t same f. refl) (AddsEntry listing)
      (λ forms s t f same fine adds. ap (λ (xs : List listing.Entry). xs ++ f ∷ []) same ∙ sym adds)

  -- and a faulty one is turned down
  pub entries_refused : (entries : List listing.Entry) (line : List ℕ) (kind : TextKind)
      → (kind ≡ Memory) ⊎ IsFaulty (format_of listing) entries line kind
      → TurnsDown (format_of listing) (λ forms. forms ≡ entries) line kind
  entries_refused = turns_down (format_of listing) Same (λ s t same f. refl)

  -- a line of an entry without a fault adds it
  pub entry_read : (entries : List listing.Entry) (line : List ℕ) (p : Part) (these : List Part) (entry : listing.Entry)
      → listing.parts entry ≡ p ∷ these → Spells line (listing.parts entry) → listing.fault entry ≡ None
      → ReadsLine (format_of listing) (AddsEntry listing) entries line (entries ++ entry ∷ [])
  entry_read entries line p these entry parts h fine =
      reads entry (of_form entry (spelled_utf8 line (listing.parts entry) h)
      (spelled_kept line p these (rw parts at h)) h fine) refl

  -- and one with a fault is faulty
  pub entry_faulty : (entries : List listing.Entry) (line : List ℕ) (p : Part) (these : List Part)
      (entry : listing.Entry) (kind : TextKind) → listing.parts entry ≡ p ∷ these → Spells line (listing.parts entry)
      → listing.fault entry ≡ Some kind → IsFaulty (format_of listing) entries line kind
  entry_faulty entries line p these entry kind parts h fault =
      at_form entry kind (spelled_utf8 line (listing.parts entry) h) (spelled_kept line p these (rw parts at h)) h fault

  -- a text has no fault at its end, where no entry has that fault
  pub no_end_fault : ((entry : listing.Entry) → listing.fault entry ≡ Some End → ⊥)
      → (text : List ℕ) (line : ℕ) (kind : TextKind) → IsFaultOfText (format_of listing) text line kind → kind ≡ End → ⊥
  no_end_fault never text line kind (too_long h) e = cc
  no_end_fault never text line kind (header_not_utf8 a b c bad) e = cc
  no_end_fault never text line kind (no_header a b c u bad) e = cc
  no_end_fault never text line kind (at_line b n _ c h) e = by_line (h.wrong) e
    where
      by_line : {s : List listing.Entry} {l : List ℕ} {k : TextKind} → IsFaulty (format_of listing) s l k → k ≡ End → ⊥
      by_line (not_utf8 bad) e = cc
      by_line (no_form u k none) e = cc
      by_line (at_form f _ u k form fault) e = never f (fault ∙ ap (λ (x : TextKind). Some x) e)
  no_end_fault never text line kind (no_end b fs c says none) e = none tt
