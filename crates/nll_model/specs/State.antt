-- The world of a schedule: every owner, what is under way between each two of them, and the
-- balance. Source: project's choice. (The global state of a distributed computation: each process,
-- and what is in each channel; Chandy and Lamport, "Distributed snapshots", 1985.)
use Rattle.std.specs.Prelude.{◌≡◌, ℕ, Bool, false, List, [], length, replicate}
use Rattle.std.specs.Prelude.{slice_index_or, slice_get, slice_set, Some}
use Rattle.nll_problem.specs.Problem.{Problem}
use Rattle.nll_cut.specs.Partition.{Cut}
use Rattle.nll_mail.specs.declared.growth.Growth.{Growth}
use Rattle.nll_owner.specs.Owner.{Owner, first_owner}
use Rattle.nll_model.specs.declared.seat.Item.{Item}
use Rattle.nll_model.specs.declared.seat.Item.TheVariants.{Nothing}

-- The lane from one owner to another: the growths that aren't owed for yet, those that are owed for
-- and not yet sent, and those in the box, from which the other takes them. The oldest come first.
pub record Lane : Type 0 where
  pub fresh : List Growth
  pub out : List Growth
  pub box : List Growth

-- an empty lane
abbrev pub empty_lane : Lane
empty_lane = record { fresh = []; out = []; box = [] }

-- The seat of an owner: the owner, what it works on, whether it has left, and its lane to each
-- owner.
pub record Seat : Type 0 where
  pub owner : Owner
  pub item : Item
  pub left : Bool
  pub lanes : List Lane

-- The state of a world: a seat for each owner, and the balance.
pub record WorldState : Type 0 where
  pub seats : List Seat
  pub balance : ℕ

-- A world: whose owners it has, its state, and whether it was refused memory.
pub record World : Type 0 where
  pub problem : Problem
  pub cut : Cut
  pub state : WorldState
  pub broken : Bool

-- owner i has this seat
abbrev pub IsAt : WorldState → ℕ → Seat → Type 0
IsAt w i s = slice_get w.seats i ≡ Some s

-- the lane of a seat to owner j
abbrev pub lane_to : Seat → ℕ → Lane
lane_to s j = slice_index_or s.lanes j empty_lane

-- the state with another seat for owner i
abbrev pub with_seat : WorldState → ℕ → Seat → WorldState
with_seat w i s = record w { seats = slice_set w.seats i s }

-- the seat with another lane to owner j
abbrev pub with_lane : Seat → ℕ → Lane → Seat
with_lane s j l = record s { lanes = slice_set s.lanes j l }

-- ---- before the first event

-- the seat of an owner that has done nothing yet
abbrev pub first_seat : Problem → Cut → ℕ → Seat
first_seat q c i = record {
  owner = first_owner q c i;
  item = Nothing;
  left = false;
  lanes = replicate c.owners empty_lane;
}

-- No owner has done anything yet, nothing is under way, and the balance is the number of owners.
pub record IsFirst (q : Problem) (c : Cut) (w : WorldState) : Type 0 where
  pub count : length w.seats ≡ c.owners
  pub each : (i : ℕ) (s : Seat) → IsAt w i s → s ≡ first_seat q c i
  pub balance : w.balance ≡ c.owners

-- The world of this problem and cut before the first event.
pub record IsNewWorld (q : Problem) (c : Cut) (w : World) : Type 0 where
  pub problem : w.problem ≡ q
  pub cut : w.cut ≡ c
  pub first : IsFirst q c w.state
  pub whole : w.broken ≡ false
