-- How a text names regions and points. Source: project's choice; docs/FORMATS.md says the same in
-- prose.
use Rattle.std.specs.Prelude.{◌≡◌, ℕ, ◌-◌, nat_le, List, length, filter, slice_get, slice_index}
use Rattle.std.specs.Prelude.{Some}
use Rattle.std.specs.List.Sorted.{IsStrictlyIncreasing}
use Rattle.nll_format.specs.declared.labels.PointName.{PointName}
use Rattle.nll_format.specs.declared.labels.PointName.TheVariants.{Number, Block}
use Rattle.nll_format.specs.declared.labels.Points.{Points as Kept}
use Rattle.nll_format.specs.declared.labels.Points.TheVariants as kept

-- Points are named by their numbers, or by the blocks of which these are the first points.
pub data Points : Type 0 where
  numbers : Points
  blocks : List ℕ → Points

-- The names of a text: one per region, in region order and without the `'`, and how it names
-- points.
pub record Labels : Type 0 where
  pub names : List (List ℕ)
  pub points : Points

-- The first points of blocks: they ascend, and the first block begins at point 0.
pub record AreFirstPoints (starts : List ℕ) : Type 0 where
  pub rise : IsStrictlyIncreasing starts
  pub at_zero : slice_get starts 0 ≡ Some 0

-- the blocks that begin at the point or before it, each as its first point
abbrev pub begun_blocks : List ℕ → ℕ → List ℕ
begun_blocks starts p = filter (λ start. nat_le start p) starts

-- the block of a point is the last that begins at it or before it
abbrev pub block_of : List ℕ → ℕ → ℕ
block_of starts p = length (begun_blocks starts p) - 1

-- The name of a point: its number, or its block and its place in the block, counted from 0.
abbrev pub point_name : Points → ℕ → PointName
point_name numbers p = Number p
point_name (blocks starts) p =
    Block (block_of starts p) (p - slice_index (begun_blocks starts p) (block_of starts p))

-- ---- what the code keeps

-- how points are named, without where the first points lie in memory
abbrev pub points_of : Kept → Points
points_of kept.Numbers = numbers
points_of (kept.Blocks starts) = blocks starts.items

-- first points that are kept are first points of blocks
abbrev pub AreStartsKept : Kept → Type 0
AreStartsKept kept.Numbers = Unit {0}
AreStartsKept (kept.Blocks starts) = AreFirstPoints starts.items
