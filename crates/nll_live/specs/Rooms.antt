-- What a search has in its room. Source: project's choice. Only private contracts cite this file.
use Rattle.std.specs.Prelude.{◌≡◌, ℕ, ◌≤◌, length, slice_index}
use Rattle.nll_live.specs.Marks.{AreFound, IsUnderNewMark, ReachesMore}
use Rattle.nll_live.specs.declared.search.Room.{Room}

-- the search has reached p in this turn
abbrev pub HasReached : Room → ℕ → ℕ → Type 0
HasReached room turn p = IsUnderNewMark room.marks.items room.heights.items turn p

-- the points of the room are those that were marked in this turn
abbrev pub HasFound : Room → ℕ → Type 0
HasFound room turn = AreFound room.marks.items room.heights.items turn room.lows.items

-- the search has reached points more, each stretch from a point and up to a point of this kind
abbrev pub GetsReached : (ℕ → ℕ → Type 0) → ℕ → Room → Room → Type 0
GetsReached kind turn old new = ReachesMore kind turn
    old.marks.items old.heights.items old.lows.items
    new.marks.items new.heights.items new.lows.items

-- The room has a mark and a height for each of n points, and no mark is of a later turn.
pub record IsRoomOf (n turn : ℕ) (room : Room) : Type 0 where
  pub width : length room.marks.items ≡ n
  pub tall : length room.heights.items ≡ n
  pub fresh : (p : ℕ) → slice_index room.marks.items p ≤ turn
