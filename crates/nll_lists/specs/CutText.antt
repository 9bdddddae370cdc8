-- Cut files as a format, and what a cut file means: the owner of region 0, of region 1, and so on.
-- Source: project's choice; docs/FORMATS.md says the same in prose.
use Rattle.std.specs.Prelude.{ℕ, nat_lt, List, codes, Option, None, Some, if◌then◌else◌}
use Rattle.nll_format.specs.Parts.{one_number}
use Rattle.nll_format.specs.Text.{Format, IsText}
use Rattle.nll_format.specs.Listing.{Listing, format_of}
use Rattle.nll_format.specs.declared.error.TextKind.{TextKind}
use Rattle.nll_format.specs.declared.error.TextKind.TheVariants.{Range}

-- a number above 65,535 is no owner's, whatever the number of owners is
abbrev pub owner_fault : ℕ → Option TextKind
owner_fault n = if nat_lt 65535 n then Some Range else None

-- the lists of owners: a line is one number
abbrev pub owners : Listing
owners = record {
  kind = codes "nll-cut";
  version = codes "1";
  Entry = ℕ;
  parts = one_number;
  fault = owner_fault;
}

-- cut files, version 1
abbrev pub cut : Format
cut = format_of owners

-- the text fits and lists these owners, in region order
abbrev pub MeansCut : List ℕ → List ℕ → Type 0
MeansCut text list = IsText cut text list
