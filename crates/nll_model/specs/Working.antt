-- What the steps inside an event do to a lane and to a seat. Source: project's choice. Only private
-- contracts cite this file.
use Rattle.std.specs.Prelude.{◌≡◌, ◌⊎◌, ℕ, ◌<◌, ◌≤◌, Bool, true, false, List, [], ◌∷◌, ◌++◌, length}
use Rattle.std.specs.Prelude.{drop, Contains, Option, Some, None}
use Rattle.nll_mail.specs.declared.growth.Growth.{Growth}
use Rattle.nll_owner.specs.Logs.{IsPrefix}
use Rattle.nll_owner.specs.Owner.{Owner, IsSoundOwner, part_for, given_to, received_from}
use Rattle.nll_model.specs.State.{Lane, Seat, lane_to, with_lane}

-- The first growth that is owed for went to the back of the box, or there is none.
abbrev pub PushesOwed : Bool → Lane → Lane → Type 0
PushesOwed true old new =
    (g : Growth) × (rest : List Growth) × (old.out ≡ g ∷ rest)
    × (new ≡ record old { out = rest; box = old.box ++ g ∷ [] })
PushesOwed false old new = (old.out ≡ []) × (new ≡ old)

-- Like `Pushes`, for the lane of a seat.
abbrev pub PushesTo : Bool → ℕ → Seat → Seat → Type 0
PushesTo true to old new =
    (g : Growth) × (rest : List Growth) × ((lane_to old to).out ≡ g ∷ rest)
    × (new ≡ with_lane old to (record (lane_to old to) {
      out = rest;
      box = (lane_to old to).box ++ g ∷ [];
    }))
PushesTo false to old new = (lane_to old to).out ≡ []

-- The first growth of a box was taken out, and this holds of the lane then; or the box is empty.
abbrev pub TakesFrom : Lane → Option Growth → (Lane → Type 0) → Type 0
TakesFrom old (Some g) P =
    (rest : List Growth) × (old.box ≡ g ∷ rest) × P (record old { box = rest })
TakesFrom old None P = old.box ≡ []

-- The lanes to the first owners got all that the owner hadn't given them.
pub record FillsLanes (old new : Seat) (count : ℕ) : Type 0 where
  pub sound : IsSoundOwner new.owner
  pub owner : new.owner ≡ record old.owner { given = new.owner.given }
  pub item : new.item ≡ old.item
  pub left : new.left ≡ old.left
  pub lane_count : length new.lanes ≡ length old.lanes
  pub given : (j : ℕ) → j < count → given_to new.owner j ≡ length (part_for old.owner j)
  pub lanes :
      (j : ℕ) → j < count
      → lane_to new j ≡ record (lane_to old j) {
        fresh = (lane_to old j).fresh ++ drop (given_to old.owner j) (part_for old.owner j);
      }
  pub other_given : (j : ℕ) → count ≤ j → given_to new.owner j ≡ given_to old.owner j
  pub other_lanes : (j : ℕ) → count ≤ j → lane_to new j ≡ lane_to old j

-- The owner went on, perhaps to a refusal: its log only grew, and what it received it had received
-- before, or it is of this kind.
pub record OwnerGoesOn (came : ℕ → Growth → Type 0) (old new : Owner) : Type 0 where
  pub begins : IsPrefix old.log new.log
  pub problem : new.problem ≡ old.problem
  pub cut : new.cut ≡ old.cut
  pub me : new.me ≡ old.me
  pub sound : IsSoundOwner new
  pub heard :
      (j : ℕ) (g : Growth) → Contains (received_from new j) g
      → Contains (received_from old j) g ⊎ came j g

-- no growth came
abbrev pub NoGrowth : ℕ → Growth → Type 0
NoGrowth j g = ⊥

-- the growth came from the owner
abbrev pub IsGrowthFrom : ℕ → Growth → ℕ → Growth → Type 0
IsGrowthFrom from growth j g = (j ≡ from) × (g ≡ growth)
