-- What a worker has between its steps. Only private contracts cite this file. Source: project's
-- choice.
use Rattle.std.specs.Prelude.{◌≡◌, ◌^◌, ℕ, ◌+◌, ◌<◌, ◌≤◌, true, false, List, length, take, min}
use Rattle.std.specs.Prelude.{Contains, Option}
use Rattle.mail.specs.declared.mail.Mail as Mail
use Rattle.ledger.specs.declared.ledger.Ledger as Ledger
use Rattle.fixpoint.specs.Rules.{Rules}
use Rattle.fixpoint.specs.Logs.{log_of}
use Rattle.fixpoint.specs.State.{State, IsSoundPart, IsDone, received_from, part_for, given_to}
use Rattle.fixpoint.specs.Finishing.{HasStray}
use Rattle.fixpoint.specs.Sums.{sum_to}
use Rattle.worker.specs.Mailboxes.{Alike, Both, Keeps}
use Rattle.worker.specs.Finishing.{IsOpenStill}
use Rattle.worker.specs.Tallies.{HasGrown, IsTallied, due_of}
use Rattle.worker.specs.declared.tally.Tally.{Tally}
use Rattle.worker.specs.declared.inbox.Heard.{Heard}
use Rattle.worker.specs.declared.inbox.Heard.TheVariants.{Nothing, Growths, Stray, Memory}

-- the worker needn't end now
abbrev pub WorkerGoesOn : Heard → Type 0
WorkerGoesOn Nothing = Unit {0}
WorkerGoesOn Growths = Unit {0}
WorkerGoesOn Stray = ⊥
WorkerGoesOn Memory = ⊥

module _ {A F G : Type 0} (rules : Rules A F G) where
  -- Exactly what was given to each owner was posted to it.
  pub record HasPosted (o : State A G) (posts : List (List G)) : Type 0 where
    pub count : length posts ≡ rules.parts o.system
    pub front :
        (j : ℕ) → j < rules.parts o.system
        → log_of posts j ≡ take (given_to o j) (part_for rules o j)

  -- of the part for owner j, this many more growths were given, or all that were left
  abbrev pub HasGivenOn : ℕ → ℕ → State A G → State A G → Type 0
  HasGivenOn most j old new =
      given_to new j ≡ min (given_to old j + most) (length (part_for rules old j))

  -- so of each of the first this many parts
  abbrev pub HasGivenMore : ℕ → ℕ → State A G → State A G → Type 0
  HasGivenMore most owners old new = (j : ℕ) → j < owners → HasGivenOn most j old new

  -- The part is loaded and has nothing left to do. It owes 1 for its load and for each growth that
  -- another owner reads, posted or not.
  pub record IsWorking (o : State A G) (owed : ℕ) : Type 0 where
    pub sound : IsSoundPart rules o
    pub whole : o.broken ≡ false
    pub loaded : o.loaded ≡ true
    pub done : IsDone rules o
    pub owes : owed ≡ 1 + due_of rules o

  -- What was taken was received; all of it and the load are cleared, except this many items.
  pub record HasTaken (o : State A G) (taken : List (List G)) (cleared items : ℕ)
      : Type 0 where
    pub count : length taken ≡ rules.parts o.system
    pub heard : (j : ℕ) → j < rules.parts o.system → log_of taken j ≡ received_from o j
    pub few : (j : ℕ) → j < rules.parts o.system → length (log_of taken j) ≤ 2 ^ 37
    pub clears :
        cleared + items ≡ 1 + sum_to (rules.parts o.system) (λ j. length (log_of taken j))

  -- Between two turns all that grew is owed for and counted, and all that was taken is cleared.
  -- There were no more turns than cleared items.
  pub record IsAtRest (o : State A G) (taken : List (List G)) (owed cleared : ℕ)
      (t : Tally) : Type 0 where
    pub working : IsWorking o owed
    pub taking : HasTaken o taken cleared 0
    pub counted : IsTallied rules o t
    pub cleared_is : t.cleared ≡ cleared
    pub turns : t.turns ≤ cleared

  -- all that the part received was taken
  abbrev pub HasTakenAll : State A G → List (List G) → Type 0
  HasTakenAll o taken =
      (j : ℕ) (g : G) → j < rules.parts o.system → Contains (received_from o j) g
      → Contains (log_of taken j) g

  -- the outcome of a turn
  abbrev pub ComesTo : State A G → List (List G) → ℕ → ℕ → Tally → Heard → Type 0
  ComesTo o taken owed cleared t Nothing = IsAtRest o taken owed cleared t
  ComesTo o taken owed cleared t Growths = IsAtRest o taken owed cleared t
  ComesTo o taken owed cleared t Stray =
      HasStray rules o.system o.me (log_of taken) × HasTakenAll o taken
  ComesTo o taken owed cleared t Memory = HasTakenAll o taken

  module _ {L B H E : Type 0} (ledger : Ledger.Ghosts L B H E) {M S R C P : Type 0}
      (mail : Mail.Ghosts M G S R C P) where
    -- The part only grew and is sound; its share still belongs to the same book; and each receiver
    -- is still the same end.
    pub record StaysAtWork (old new : State A G) (book : B) (share : H) (new_book : B)
        (new_share : H) (ends new_ends : List (Option R)) : Type 0 where
      pub grows : HasGrown old new
      pub sound : IsSoundPart rules new
      pub still : IsOpenStill ledger book share new_book new_share
      pub keeps : Alike (Both (Keeps mail)) ends new_ends
