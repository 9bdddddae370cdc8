-- What a reader of a text that lists items makes of a line. Source: project's choice. What a
-- listing is, nll_format defines (`Listing`).
use Rattle.std.specs.Prelude.{◌≡◌, ℕ, List, ◌∷◌, Option, None, Some, Result, Ok, Err}
use Rattle.nll_format.specs.Listing.{Listing}
use Rattle.nll_format.specs.Parts.{Part, Spells}
use Rattle.nll_format.specs.declared.error.TextKind.{TextKind}

-- The answer to a line is the item of an entry without a fault, which the line spells; or what is
-- wrong with an entry that it spells; or none, where it spells no entry.
abbrev pub IsItemOf : {Item : Type 0} (listing : Listing) → (Item → listing.Entry) → List ℕ
    → Result (Option Item) TextKind → Type 0
IsItemOf listing entry line (Ok (Some item)) =
    Spells line (listing.parts (entry item)) × (listing.fault (entry item) ≡ None)
IsItemOf listing entry line (Ok None) =
    (e : listing.Entry) → Spells line (listing.parts e) → ⊥
IsItemOf listing entry line (Err kind) =
    (e : listing.Entry) × Spells line (listing.parts e) × (listing.fault e ≡ Some kind)

-- the line of each entry has a part
abbrev pub HasSomePart : Listing → Type 0
HasSomePart listing = (e : listing.Entry)
    → (first : Part) × (rest : List Part) × (listing.parts e ≡ first ∷ rest)
