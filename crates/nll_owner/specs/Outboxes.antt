-- What an owner keeps for the other owners: for each of them the indices in its log of the growths
-- that it still has to send. Source: project's choice. Only private contracts cite this file.
use Rattle.std.specs.Prelude.{◌≡◌, ℕ, ◌-◌, ◌<◌, ◌≤◌, Bool, true, List, [], ◌++◌, length, map, take}
use Rattle.std.specs.Prelude.{drop, Some, slice_get, slice_index_or, false}
use Rattle.std.specs.List.{flat_map, range_with_len}
use Rattle.nll_problem.specs.Limits.{most_owners}
use Rattle.nll_cut.specs.Partition.{reads}
use Rattle.nll_cut.specs.Readers.{is_read}
use Rattle.nll_owner.specs.Owner.{Owner, given_to}
use Rattle.nll_owner.specs.Logs.{part}
use Rattle.nll_owner.specs.declared.outboxes.Places.{Places}

-- ---- one queue

-- the indices of a range, ascending
abbrev pub places_of : Places → List ℕ
places_of range = range_with_len range.first (range.end - range.first)

-- the indices of the ranges from one of them on
abbrev pub queued : List Places → ℕ → List ℕ
queued ranges at = flat_map places_of (drop at ranges)

-- This many indices are queued, and no range is empty.
pub record IsQueue (ranges : List Places) (at count : ℕ) : Type 0 where
  pub within : at ≤ length ranges
  pub proper :
      (k : ℕ) (d : Places) → k < length ranges
      → (slice_index_or ranges k d).first < (slice_index_or ranges k d).end
  pub counted : count ≡ length (queued ranges at)

-- ---- the queues for all owners

-- The queues by the receiving owner, and how much of the log was looked through.
pub record Outboxes : Type 0 where
  pub queues : List (List ℕ)
  pub place : ℕ

-- the outboxes of these parts
abbrev pub outboxes_of : List (List ℕ) → ℕ → Outboxes
outboxes_of lists next = record { queues = lists; place = next }

-- the indices of what is still to be sent to owner j
abbrev pub queue_of : Outboxes → ℕ → List ℕ
queue_of b j = slice_index_or b.queues j []

-- no queue has more indices than were looked through, and there are no more queues than the most
-- owners
pub record AreQueues (b : Outboxes) : Type 0 where
  pub few : length b.queues ≤ most_owners
  pub short : (j : ℕ) → length (queue_of b j) ≤ b.place

-- The queue of each owner has exactly the indices of what is still to be sent to it of the log up
-- to the index: its part of that, except what was given to it.
pub record AreQueued (o : Owner) (b : Outboxes) : Type 0 where
  pub owners : length b.queues ≡ o.cut.owners
  pub within : b.place ≤ length o.log
  pub enough :
      (j : ℕ) → given_to o j ≤ length (part o.problem o.cut j (take b.place o.log))
  pub each :
      (j : ℕ) → j < o.cut.owners
      → map (slice_get o.log) (queue_of b j)
      ≡ map Some (drop (given_to o j) (part o.problem o.cut j (take b.place o.log)))

-- the queues have all that is to be sent, and the whole log was looked through
abbrev pub AreAllQueued : Owner → Outboxes → Type 0
AreAllQueued o b = AreQueued o b × (b.place ≡ length o.log)

-- ---- a step

-- the readers say who reads what of the owner's log
abbrev pub TellsAs : Owner → List (List Bool) → Type 0
TellsAs o readers = (j r : ℕ) → is_read readers j r ≡ reads o.problem o.cut j r

-- These indices were appended to the queues of the owners below a number that pass a test; the
-- other queues are as they were.
pub record GotPlaces (reads : ℕ → Bool) (places : List ℕ) (below : ℕ) (old new : Outboxes)
    : Type 0 where
  pub got :
      (j : ℕ) → j < below → reads j ≡ true → queue_of new j ≡ queue_of old j ++ places
  pub passed : (j : ℕ) → reads j ≡ false → queue_of new j ≡ queue_of old j
  pub left : (j : ℕ) → below ≤ j → queue_of new j ≡ queue_of old j
