-- What is true of a world at every moment: what its balance counts, and what its logs say. Source:
-- project's choice, after RFC 2094, "Solving constraints". That a balance of 0 shows that nothing
-- is under way is the argument of credits, or of counted messages (Mattern, "Algorithms for
-- distributed termination detection", 1987).
use Rattle.std.specs.Prelude.{◌≡◌, ◌≢◌, ◌↔◌, ℕ, ◌+◌, ◌<◌, ◌^◌, Bool, true, false, []}
use Rattle.std.specs.Prelude.{◌++◌, length, sum_by, Contains}
use Rattle.nll_problem.specs.Problem.{Problem, IsSound as IsSoundProblem}
use Rattle.nll_problem.specs.Solution.{Least}
use Rattle.nll_cut.specs.Partition.{Cut, owner_of}
use Rattle.nll_mail.specs.declared.growth.Growth.{Growth}
use Rattle.nll_owner.specs.Logs.{IsCutOf, IsTold}
use Rattle.nll_owner.specs.Owner.{Owner, IsSoundOwner, IsDone, part_for, given_to, received_from}
use Rattle.nll_model.specs.State.{Lane, Seat, WorldState, IsAt, lane_to, empty_lane}
use Rattle.nll_model.specs.declared.seat.Item.{Item}
use Rattle.nll_model.specs.declared.seat.Item.TheVariants.{Nothing, Fresh}

-- ---- what the balance counts

-- 1 for a load that isn't cleared, or for a received growth that is being worked on; otherwise 0
abbrev pub held_balance : Bool → Item → ℕ
held_balance false item = 1
held_balance true Nothing = 0
held_balance true _ = 1

-- what is under way at a seat: what its owner holds, and the growths that are owed for and not yet
-- taken
abbrev pub under_way : Seat → ℕ
under_way s =
    held_balance s.owner.loaded s.item + sum_by (λ (l : Lane). length l.out + length l.box) s.lanes

-- ---- what is true at every moment

-- The seat of owner i: all that the owner has for the others was given to them, and if it is
-- loaded, nothing is left to do for it; only a fresh item has fresh growths.
pub record IsSoundSeat (q : Problem) (c : Cut) (i : ℕ) (s : Seat) : Type 0 where
  pub problem : s.owner.problem ≡ q
  pub cut : s.owner.cut ≡ c
  pub me : s.owner.me ≡ i
  pub sound : IsSoundOwner s.owner
  pub whole : s.owner.broken ≡ false
  pub count : length s.lanes ≡ c.owners
  pub given : (j : ℕ) → j < c.owners → given_to s.owner j ≡ length (part_for s.owner j)
  pub done : s.owner.loaded ≡ true → IsDone s.owner
  pub unloaded : s.owner.loaded ≡ false → s.item ≡ Nothing
  -- the owner has nothing for itself
  pub own : lane_to s i ≡ empty_lane
  pub fresh : s.item ≢ Fresh → (j : ℕ) → (lane_to s j).fresh ≡ []

-- A sound state: what owner i grew for owner j is what j received, then what is in the box, then
-- what is owed for, then what is fresh; and the balance counts exactly what is under way.
pub record IsSoundState (q : Problem) (c : Cut) (w : WorldState) : Type 0 where
  pub count : length w.seats ≡ c.owners
  pub seats : (i : ℕ) (s : Seat) → IsAt w i s → IsSoundSeat q c i s
  pub ways :
      (i j : ℕ) (s t : Seat) → i ≢ j → IsAt w i s → IsAt w j t
      → part_for s.owner j ≡ received_from t.owner i
      ++ ((lane_to s j).box ++ ((lane_to s j).out ++ (lane_to s j).fresh))
  pub balance : w.balance ≡ sum_by under_way w.seats

-- The owner is of this problem, cut and number, and sound, which it stays after a refusal.
pub record IsOwner (q : Problem) (c : Cut) (i : ℕ) (o : Owner) : Type 0 where
  pub problem : o.problem ≡ q
  pub cut : o.cut ≡ c
  pub me : o.me ≡ i
  pub sound : IsSoundOwner o

-- An orderly state, as every state is, even after memory was refused: the owners are sound, and
-- what one received from another is in that one's log.
pub record IsOrderly (q : Problem) (c : Cut) (w : WorldState) : Type 0 where
  pub count : length w.seats ≡ c.owners
  pub owners : (i : ℕ) (s : Seat) → IsAt w i s → IsOwner q c i s.owner
  pub heard :
      (i j : ℕ) (s t : Seat) (g : Growth) → i ≢ j → IsAt w i s → IsAt w j t
      → Contains (received_from s.owner j) g → Contains t.owner.log g

-- ---- what follows

-- the log of the owner of r says that r has e
abbrev pub LogSays : Cut → WorldState → ℕ → ℕ → Type 0
LogSays c w r e = (s : Seat) × IsAt w (owner_of c r) s × IsTold s.owner.log r e

-- all that the logs say is in the least values
abbrev pub SaysOnlyLeast : Problem → Cut → WorldState → Type 0
SaysOnlyLeast q c w = (r e : ℕ) → LogSays c w r e → Least q r e

-- the logs say exactly the least values
abbrev pub SaysLeast : Problem → Cut → WorldState → Type 0
SaysLeast q c w = (r e : ℕ) → LogSays c w r e ↔ Least q r e

-- no growth is fresh, owed for or in a box
abbrev pub IsStill : WorldState → Type 0
IsStill w = (i j : ℕ) (s : Seat) → IsAt w i s → lane_to s j ≡ empty_lane

-- no rank of a log reaches 2^37
abbrev pub AreRanksLow : WorldState → Type 0
AreRanksLow w =
    (i : ℕ) (s : Seat) (g : Growth) → IsAt w i s → Contains s.owner.log g → g.rank < 2 ^ 37

-- What holds of every state that a world of this problem and cut reaches: it is sound; its logs say
-- only what the least values have; at a balance of 0 nothing is under way, and they say exactly
-- that; and its ranks are low.
pub record IsLawful (q : Problem) (c : Cut) (w : WorldState) : Type 0 where
  pub problem : IsSoundProblem q
  pub cut : IsCutOf q c
  pub sound : IsSoundState q c w
  pub only_least : SaysOnlyLeast q c w
  pub still : w.balance ≡ 0 → IsStill w
  pub least : w.balance ≡ 0 → SaysLeast q c w
  pub ranks : AreRanksLow w
