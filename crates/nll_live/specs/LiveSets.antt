-- Sets of points for each variable: where it is use-live, and where it is drop-live.
-- Source: project's choice.
use Rattle.std.specs.Prelude.{◌≡◌, ◌↔◌, ℕ, ◌<◌, Bool, true, List, [], length, slice_index_or}
use Rattle.nll_sets.specs.ElementSet.{flag}
use Rattle.nll_body.specs.Bodies.{BodyText}
use Rattle.nll_live.specs.Live.{IsUseLive, IsDropLive}

-- for each variable the points where it is use-live, and those where it is drop-live, as sets
pub record LiveSets : Type 0 where
  pub uses : List (List Bool)
  pub drops : List (List Bool)

-- the set of x has p
abbrev pub IsInSet : List (List Bool) → ℕ → ℕ → Type 0
IsInSet sets x p = flag (slice_index_or sets x []) p ≡ true

-- There is a set for each variable, of as many points as there are, and it has the points of which
-- this holds.
pub record AreSetsOf (body : BodyText) (holds : ℕ → ℕ → Type 0) (sets : List (List Bool)) : Type 0
  where
    pub counted : length sets ≡ length body.variables
    pub width :
        (x : ℕ) → x < length sets → length (slice_index_or sets x []) ≡ length body.points
    pub each : (x p : ℕ) → x < length sets → IsInSet sets x p ↔ holds x p

-- The sets are those of the body.
pub record AreLiveSets (body : BodyText) (sets : LiveSets) : Type 0 where
  pub uses : AreSetsOf body (IsUseLive body) sets.uses
  pub drops : AreSetsOf body (IsDropLive body) sets.drops
