-- What a sink certainly takes, and how much of what was put it holds. Source: project's choice.
use Rattle.std.specs.Prelude.{◌⊎◌, ℕ, ◌+◌, ◌<◌, ◌≤◌, List, Option, None, Some, length, take}
use Rattle.std.specs.Io.KnownBytes.{Appends}

-- a sink with this room may refuse some of this many bytes: they are more, or the room is not known
abbrev pub MayRefuse : Option ℕ → ℕ → Type 0
MayRefuse None count = Unit {0}
MayRefuse (Some room) count = room < count

-- putting this many bytes takes no more than their count from known room
abbrev pub LeavesRoom : Option ℕ → Option ℕ → ℕ → Type 0
LeavesRoom None left count = Unit {0}
LeavesRoom (Some room) None count = ⊥
LeavesRoom (Some room) (Some left) count = room ≤ left + count

-- A sink that may refuse some of the bytes got a prefix of them.
pub record IsCutShort (room : Option ℕ) (old new : Option (List ℕ)) (bytes : List ℕ) : Type 0 where
  pub count : ℕ
  pub begun : Appends old new (take count bytes)
  pub refused : MayRefuse room (length bytes)

-- a sink got all of the bytes, or it may refuse some and got a prefix of them
abbrev pub IsPut : Option ℕ → Option (List ℕ) → Option (List ℕ) → List ℕ → Type 0
IsPut room old new bytes = Appends old new bytes ⊎ IsCutShort room old new bytes
