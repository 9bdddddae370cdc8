-- What is proved of the mailboxes of owners that have sent each other everything. Source: project's
-- choice.
use Rattle.std.specs.Prelude.{◌≡◌, ◌≢◌, ◌⊎◌, ◌↔◌, ℕ, ◌<◌, List, map, Contains}
use Rattle.fixpoint.specs.Rules.{Rules}
use Rattle.fixpoint.specs.Logs.{log_of, part}

-- the pair is of two different owners
abbrev pub IsPair : ℕ → ℕ × ℕ → Type 0
IsPair count pair = (pair.0 < count) × (pair.1 < count) × (pair.0 ≢ pair.1)

-- one pair comes before another: by its first number, and then by its second
abbrev pub IsPairBefore : ℕ × ℕ → ℕ × ℕ → Type 0
IsPairBefore pair other = (pair.0 < other.0) ⊎ ((pair.0 ≡ other.0) × (pair.1 < other.1))

-- There is a settled mailbox for each ordered pair of different owners, and no other; what was sent
-- through it is the part of the sender's log that the receiver reads; and all of it was received.
pub record AreDelivered {A F G P : Type 0} (rules : Rules A F G) (ends : P → ℕ × ℕ)
    (sent received : P → List G) (a : A) (logs : List (List G))
    (posts : List P) : Type 0 where
  pub pairs : (pair : ℕ × ℕ) → Contains (map ends posts) pair ↔ IsPair (rules.parts a) pair
  pub whole_part :
      (p : P) → Contains posts p → sent p ≡ part rules a (ends p).1 (log_of logs (ends p).0)
  pub all_of_it : (p : P) → Contains posts p → received p ≡ sent p
