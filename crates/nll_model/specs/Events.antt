-- The events of a schedule: when each is possible, and what it does. Source: project's choice. An
-- event is one atomic step of the running solver: a push into a mailbox, a pop from one, counting
-- growths as sent or received, or a look at the balance.
use Rattle.std.specs.Prelude.{◌≡◌, ◌≢◌, ℕ, ◌+◌, ◌<◌, true, false, List, [], ◌∷◌, ◌++◌, length}
use Rattle.std.specs.Prelude.{map, drop, slice_set, sum_by, Option, Some, None}
use Rattle.nll_mail.specs.declared.growth.Growth.{Growth}
use Rattle.nll_owner.specs.Logs.{IsPrefix}
use Rattle.nll_owner.specs.Owner.{IsSoundOwner, IsDone, part_for, given_to, with_growth}
use Rattle.nll_model.specs.State.{Lane, Seat, WorldState, IsAt, lane_to, with_seat, with_lane}
use Rattle.nll_model.specs.declared.event.Event.{Event}
use Rattle.nll_model.specs.declared.event.Event.TheVariants.{Load, Take, Owe, Clear, Push, Leave}
use Rattle.nll_model.specs.declared.outcome.Step.{Step}
use Rattle.nll_model.specs.declared.outcome.Step.TheVariants.{Done, Quiet, Open}
use Rattle.nll_model.specs.declared.seat.Item.TheVariants.{Nothing, Fresh, Owed}

-- ---- where an event is possible

-- the owner is loaded, works on nothing and hasn't left
abbrev pub IsFreeOwner : Seat → Type 0
IsFreeOwner s = (s.owner.loaded ≡ true) × (s.item ≡ Nothing) × (s.left ≡ false)

-- nothing that is owed for waits to be sent
abbrev pub HasSent : Seat → Type 0
HasSent s = (j : ℕ) → (lane_to s j).out ≡ []

-- An event is possible: a load if the owner isn't loaded; a take if the owner is free and the box
-- from the other isn't empty; an owe if the owner has an item that isn't owed for; a clear if it
-- has one that is; a push if something that is owed for waits to be sent; a leave if the owner is
-- free and has sent all.
abbrev pub IsPossible : WorldState → Event → Type 0
IsPossible w (Load i) = (s : Seat) × IsAt w i s × (s.owner.loaded ≡ false)
IsPossible w (Take i j) =
    (s u : Seat) × (i ≢ j) × IsAt w i s × IsFreeOwner s × IsAt w j u × ((lane_to u i).box ≢ [])
IsPossible w (Owe i) = (s : Seat) × IsAt w i s × (s.item ≡ Fresh)
IsPossible w (Clear i) = (s : Seat) × IsAt w i s × (s.item ≡ Owed)
IsPossible w (Push i j) =
    (s : Seat) × (i ≢ j) × IsAt w i s × (j < length s.lanes) × ((lane_to s j).out ≢ [])
IsPossible w (Leave i) = (s : Seat) × IsAt w i s × IsFreeOwner s × HasSent s

-- ---- what an event does

-- An owner's turn: its log grew, in any well-formed and well-supported way, until nothing was left
-- to do; all that it has for the others and hadn't given them yet is fresh, and so is its item.
pub record TakesTurn (old new : Seat) : Type 0 where
  pub begins : IsPrefix old.owner.log new.owner.log
  pub problem : new.owner.problem ≡ old.owner.problem
  pub cut : new.owner.cut ≡ old.owner.cut
  pub me : new.owner.me ≡ old.owner.me
  pub sound : IsSoundOwner new.owner
  pub whole : new.owner.broken ≡ false
  pub loaded : new.owner.loaded ≡ true
  pub done : IsDone new.owner
  pub item : new.item ≡ Fresh
  pub left : new.left ≡ old.left
  pub count : length new.lanes ≡ length old.lanes
  pub given :
      (j : ℕ) → j < new.owner.cut.owners → given_to new.owner j ≡ length (part_for new.owner j)
  pub lanes :
      (j : ℕ) → j < new.owner.cut.owners
      → lane_to new j ≡ record (lane_to old j) {
        fresh = drop (given_to old.owner j) (part_for new.owner j);
      }

-- the lane once its fresh growths are owed for
abbrev pub owed_lane : Lane → Lane
owed_lane l = record { fresh = []; out = l.out ++ l.fresh; box = l.box }

-- the seat once its fresh growths and its item are owed for
abbrev pub owed_seat : Seat → Seat
owed_seat s = record s { item = Owed; lanes = map owed_lane s.lanes }

-- how many growths of the seat are fresh
abbrev pub fresh_count : Seat → ℕ
fresh_count s = sum_by (λ (l : Lane). length l.fresh) s.lanes

-- What an event does where it is possible, and its answer.
abbrev pub Does : WorldState → Event → Step → WorldState → Type 0
-- the owner takes its first turn
Does w (Load i) Done new =
    (s t : Seat) × IsAt w i s × (s.owner.loaded ≡ false)
    × TakesTurn s t × (t.owner.received ≡ s.owner.received) × (new ≡ with_seat w i t)
-- the owner takes a turn by the first growth of the other's box, which it receives
Does w (Take i j) Done new =
    (s t u : Seat) × (g : Growth) × (rest : List Growth) × (i ≢ j)
    × IsAt w i s × (s.owner.loaded ≡ true) × (s.item ≡ Nothing) × (s.left ≡ false)
    × IsAt w j u × ((lane_to u i).box ≡ g ∷ rest)
    × TakesTurn s t × (t.owner.received ≡ with_growth s.owner.received j g)
    × (new ≡ with_seat (with_seat w i t) j (with_lane u i (record (lane_to u i) { box = rest })))
-- all that is fresh is owed for, and the balance grows by its number
Does w (Owe i) Done new =
    (s : Seat) × IsAt w i s × (s.item ≡ Fresh)
    × (new ≡ record {
      seats = slice_set w.seats i (owed_seat s);
      balance = w.balance + fresh_count s;
    })
-- the owner is done with its item, and the balance falls by 1
Does w (Clear i) Done new =
    (s : Seat) × IsAt w i s × (s.item ≡ Owed) × (w.balance ≡ new.balance + 1)
    × (new ≡ record {
      seats = slice_set w.seats i (record s { item = Nothing });
      balance = new.balance;
    })
-- the first growth that is owed for goes to the back of the box
Does w (Push i j) Done new =
    (s : Seat) × (g : Growth) × (rest : List Growth) × (i ≢ j)
    × IsAt w i s × (j < length s.lanes) × ((lane_to s j).out ≡ g ∷ rest)
    × (new ≡ with_seat w i (with_lane s j (record (lane_to s j) {
      out = rest;
      box = (lane_to s j).box ++ g ∷ [];
    })))
-- at a balance of 0 the owner has left
Does w (Leave i) Quiet new =
    (s : Seat) × IsAt w i s × (w.balance ≡ 0)
    × (s.owner.loaded ≡ true) × (s.item ≡ Nothing) × (s.left ≡ false) × HasSent s
    × (new ≡ with_seat w i (record s { left = true }))
-- at any other balance it stays
Does w (Leave i) Open new =
    (s : Seat) × IsAt w i s × (0 < w.balance)
    × (s.owner.loaded ≡ true) × (s.item ≡ Nothing) × (s.left ≡ false) × HasSent s
    × (new ≡ w)
Does w _ _ new = ⊥

-- An event with its answer; without one the event isn't possible, and nothing has changed.
abbrev pub IsAnswerOf : WorldState → Event → Option Step → WorldState → Type 0
IsAnswerOf w event (Some answer) new = Does w event answer new
IsAnswerOf w event None new = (IsPossible w event → ⊥) × (new ≡ w)

-- A sequence of events, each with its answer.
abbrev pub AreSteps : WorldState → List Event → List (Option Step) → WorldState → Type 0
AreSteps w [] [] new = new ≡ w
AreSteps w (event ∷ events) (answer ∷ answers) new =
    (next : WorldState) × IsAnswerOf w event answer next × AreSteps next events answers new
AreSteps w _ _ new = ⊥
