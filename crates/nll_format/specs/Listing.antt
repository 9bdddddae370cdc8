-- Texts of which each line after the header is one entry, whatever the other lines are, and which
-- may stop after any line. Source: project's choice; docs/FORMATS.md says the same in prose.
use Rattle.std.specs.Prelude.{◌≡◌, ℕ, List, [], ◌∷◌, ◌++◌, Option}
use Rattle.nll_format.specs.Parts.{Part, Spells}
use Rattle.nll_format.specs.Text.{Format}
use Rattle.nll_format.specs.declared.error.TextKind.{TextKind}

-- What such texts are.
pub record Listing : Type 1 where
  -- the header's two runs: the kind of text and its version
  pub kind : List ℕ
  pub version : List ℕ
  -- the entries, and the parts of a line of each
  pub Entry : Type 0
  pub parts : Entry → List Part
  -- what is wrong with an entry
  pub fault : Entry → Option TextKind

-- Its format: a line says its entry, lines say the list of their entries.
abbrev pub format_of : Listing → Format
format_of listing = record {
  kind = listing.kind;
  version = listing.version;
  Form = listing.Entry;
  HasForm = λ line entry. Spells line (listing.parts entry);
  Said = List listing.Entry;
  said = λ entries. entries;
  first_fault = λ entries entry. listing.fault entry;
  HasEnded = λ entries. Unit {0};
}

-- one more entry is in the list
abbrev pub AddsEntry : (listing : Listing) → List listing.Entry → listing.Entry
    → List listing.Entry → Type 0
AddsEntry listing entries entry more = more ≡ entries ++ entry ∷ []
