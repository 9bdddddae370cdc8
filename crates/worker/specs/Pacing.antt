-- How many growths a turn may receive. Source: project's choice. Only private contracts cite this
-- file.
use Rattle.std.specs.Prelude.{◌≡◌, ℕ, ◌<◌, max, min}

-- at most this many growths are received in a turn where a gate says this number: at least 1, and
-- at most 4096
abbrev pub taken_of : ℕ → ℕ
taken_of most = max 1 (min most 4096)

-- so many growths are received in a turn where a gate says some number: 1 or less, or one that it
-- allows
abbrev pub IsAllowed : (ℕ → Type 0) → ℕ → Type 0
IsAllowed allows taken = (most : ℕ) × (1 < most → allows most) × (taken ≡ taken_of most)
