-- What a search backwards has reached: stretches of points, each from a marked one to a height.
-- Source: project's choice. Only private contracts cite this file.
use Rattle.std.specs.Prelude.{◌≡◌, ◌⊎◌, ℕ, ◌+◌, ◌<◌, ◌≤◌, ◌==◌, List, length, Contains}
use Rattle.std.specs.Prelude.{if◌then◌else◌, slice_index, sum_by}

-- the point was marked in this turn
abbrev pub IsMarked : List ℕ → ℕ → ℕ → Type 0
IsMarked marks turn p = slice_index marks p ≡ turn

-- how many points weren't marked in this turn
abbrev pub unmarked : List ℕ → ℕ → ℕ
unmarked marks turn = sum_by (λ m. if m == turn then 0 else 1) marks

-- p lies between one of these points and its height
abbrev pub IsUnderMark : List ℕ → List ℕ → ℕ → Type 0
IsUnderMark heights lows p =
    (low : ℕ) × Contains lows low × (low ≤ p) × (p ≤ slice_index heights low)

-- p lies between a point that was marked in this turn and its height
abbrev pub IsUnderNewMark : List ℕ → List ℕ → ℕ → ℕ → Type 0
IsUnderNewMark marks heights turn p =
    (low : ℕ) × IsMarked marks turn low × (low ≤ p) × (p ≤ slice_index heights low)

-- The list has the marked points and no others, and each point has a height.
pub record AreFound (marks heights : List ℕ) (turn : ℕ) (lows : List ℕ) : Type 0 where
  pub tall : length heights ≡ length marks
  pub marked : (k : ℕ) → k < length lows → IsMarked marks turn (slice_index lows k)
  pub listed : (p : ℕ) → IsMarked marks turn p
      → (k : ℕ) × (k < length lows) × (slice_index lows k ≡ p)

-- Points were marked and appended to the list, and heights were raised, each of a point `low` to
-- one of this kind; nothing else changed.
pub record ReachesMore (kind : ℕ → ℕ → Type 0) (turn : ℕ)
    (old tops before new raised after : List ℕ) : Type 0 where
  pub width : length new ≡ length old
  pub tall : length raised ≡ length tops
  pub kept : (p : ℕ) → IsMarked old turn p → IsMarked new turn p
  pub others : (p : ℕ) → IsMarked new turn p ⊎ (slice_index new p ≡ slice_index old p)
  pub longer : length before ≤ length after
  pub front : (k : ℕ) → k < length before → slice_index after k ≡ slice_index before k
  pub count : unmarked new turn + length after ≡ unmarked old turn + length before
  pub higher : (low : ℕ) → IsMarked old turn low → slice_index tops low ≤ slice_index raised low
  pub cause : (low : ℕ) → IsMarked new turn low
      → (IsMarked old turn low × (slice_index raised low ≡ slice_index tops low))
      ⊎ ((p : ℕ) × kind low p × (slice_index raised low ≡ p))
