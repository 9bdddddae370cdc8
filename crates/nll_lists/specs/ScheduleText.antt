-- Schedules as a format, and what a schedule means: events of owners, one after another. Source:
-- project's choice; docs/FORMATS.md says the same in prose.
use Rattle.std.specs.Prelude.{ℕ, Bool, nat_lt, ◌&&◌, List, [], ◌∷◌, codes, Option, None, Some}
use Rattle.std.specs.Prelude.{if◌then◌else◌}
use Rattle.nll_model.specs.declared.event.Event.{Event}
use Rattle.nll_model.specs.declared.event.Event.TheVariants.{Load, Take, Owe, Clear, Push, Leave}
use Rattle.nll_format.specs.Parts.{Part, keyword, number}
use Rattle.nll_format.specs.Text.{Format, IsText}
use Rattle.nll_format.specs.Listing.{Listing, format_of}
use Rattle.nll_format.specs.declared.error.TextKind.{TextKind}
use Rattle.nll_format.specs.declared.error.TextKind.TheVariants.{Range}

-- the parts of the line of an event
abbrev pub event_parts : Event → List Part
event_parts (Load i) = keyword (codes "load") ∷ number i ∷ []
event_parts (Take i j) = keyword (codes "take") ∷ number i ∷ number j ∷ []
event_parts (Owe i) = keyword (codes "owe") ∷ number i ∷ []
event_parts (Clear i) = keyword (codes "clear") ∷ number i ∷ []
event_parts (Push i j) = keyword (codes "push") ∷ number i ∷ number j ∷ []
event_parts (Leave i) = keyword (codes "leave") ∷ number i ∷ []

-- the numbers of the event are owners', which are below the number of owners
abbrev pub names_owners : ℕ → Event → Bool
names_owners owners (Load i) = nat_lt i owners
names_owners owners (Take i j) = nat_lt i owners && nat_lt j owners
names_owners owners (Owe i) = nat_lt i owners
names_owners owners (Clear i) = nat_lt i owners
names_owners owners (Push i j) = nat_lt i owners && nat_lt j owners
names_owners owners (Leave i) = nat_lt i owners

-- an event of a number that is no owner's isn't allowed
abbrev pub event_fault : ℕ → Event → Option TextKind
event_fault owners event = if names_owners owners event then None else Some Range

-- the lists of events of this many owners: a line is one event
abbrev pub events : ℕ → Listing
events owners = record {
  kind = codes "nll-schedule";
  version = codes "1";
  Entry = Event;
  parts = event_parts;
  fault = event_fault owners;
}

-- schedules of this many owners, version 1
abbrev pub schedule : ℕ → Format
schedule owners = format_of (events owners)

-- the text fits and lists these events, in order
abbrev pub MeansSchedule : ℕ → List ℕ → List Event → Type 0
MeansSchedule owners text list = IsText (schedule owners) text list
