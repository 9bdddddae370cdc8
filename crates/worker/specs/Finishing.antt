-- What a worker is given, and what it gives back.
-- Source: project's choice.
use Rattle.std.specs.Prelude.{◌≡◌, ◌≢◌, ℕ, ◌<◌, ◌≤◌, true, false, List, [], length, map}
use Rattle.std.specs.Prelude.{Bool, Option}
use Rattle.mail.specs.declared.mail.Mail as Mail
use Rattle.ledger.specs.declared.ledger.Ledger as Ledger
use Rattle.fixpoint.specs.Limits.{most_parts}
use Rattle.fixpoint.specs.Rules.{Rules}
use Rattle.fixpoint.specs.Logs.{log_of}
use Rattle.fixpoint.specs.State.{State}
use Rattle.fixpoint.specs.Finishing.{Finishes}
use Rattle.fixpoint.specs.declared.ending.Ending.{Ending}
use Rattle.fixpoint.specs.declared.ending.Ending.TheVariants.{Quiet, Stopped, Unstarted, NoOwner}
use Rattle.fixpoint.specs.declared.ending.Ending.TheVariants.{Forbidden}
use Rattle.worker.specs.declared.job.Start.{Start}
use Rattle.worker.specs.declared.job.Start.TheVariants.{Made, Failed, Refused}
use Rattle.worker.specs.Mailboxes.{Alike, AreAllEmpty, Both, HasEnds, Keeps, through}

-- The part is of this system and number.
pub record IsPartOf {A G : Type 0} (a : A) (i : ℕ) (o : State A G) : Type 0 where
  pub system : o.system ≡ a
  pub me : o.me ≡ i

-- the worker was started
abbrev pub WasStarted : Ending → Type 0
WasStarted Forbidden = ⊥
WasStarted Unstarted = ⊥
WasStarted _ = Unit {0}

-- how a worker ends, by what became of its start
abbrev pub EndsAs : Start → Ending → Type 0
EndsAs Made e = WasStarted e
EndsAs Failed e = e ≡ Unstarted
EndsAs Refused e = e ≡ Forbidden

-- the answer of the permit for a worker that ended so
abbrev pub IsAnswered : (Bool → Type 0) → Ending → Type 0
IsAnswered permits Forbidden = permits false
IsAnswered permits _ = permits true

-- the worker could make its part
abbrev pub WasMade : Ending → Type 0
WasMade Forbidden = ⊥
WasMade Unstarted = ⊥
WasMade NoOwner = ⊥
WasMade _ = Unit {0}

-- it finished with a part of this log, and what the part returned beside it says what the log tells
abbrev pub FinishedAs : {A F G Y : Type 0} → Rules A F G → (A → ℕ → List G → Y → Type 0) → A
    → ℕ → (ℕ → List G) → (ℕ → List G) → ℕ → ℕ → Ending → List G → Y
    → Type 0
FinishedAs {A} {F} {G} rules yields a i sent got owed cleared ending log yielded =
    (o : State A G) × (o.log ≡ log) × Finishes rules a i o sent got owed cleared ending
    × yields a i log yielded

-- the worker neither ended quiet nor was stopped by another
abbrev pub IsError : Ending → Type 0
IsError Quiet = ⊥
IsError Stopped = ⊥
IsError _ = Unit {0}

module _ {L B H E : Type 0} (ledger : Ledger.Ghosts L B H E) where
  -- What is left of the share of owner i whose worker ended so.
  pub record Leaves (book : B) (i : ℕ) (left : E) (ending : Ending) : Type 0 where
    pub of_book : ledger.left_belongs book left
    pub number_is : ledger.left_number left ≡ i
    pub quiet_is : ending ≡ Quiet → ledger.left_quiet left ≡ true
    pub not_quiet : ending ≢ Quiet → ledger.left_quiet left ≡ false
    pub called_is : ledger.left_called left ≡ true → IsError ending

  -- A share of the book in which nothing happened yet, for owner i.
  pub record IsFresh (book : B) (i : ℕ) (share : H) : Type 0 where
    pub of_book : ledger.belongs book share
    pub number_is : ledger.number share ≡ i
    pub owed_is : ledger.owed share ≡ 1
    pub cleared_is : ledger.cleared share ≡ 0
    pub called_is : ledger.called share ≡ false

  -- It is still the same owner's share of the same book, and hasn't called `stop` since.
  pub record IsOpenStill (book : B) (share : H) (new_book : B) (new_share : H) : Type 0 where
    pub of_book : ledger.belongs new_book new_share
    pub book_is : new_book ≡ book
    pub number_is : ledger.number new_share ≡ ledger.number share
    pub called_is : ledger.called new_share ≡ ledger.called share

  module _ {M T S R C P : Type 0} (mail : Mail.Ghosts M T S R C P) where
    -- The worker of owner i is given a fresh share, ends of mailboxes through which nothing was
    -- sent, a sender to each other owner, and an empty list with room for its senders once they are
    -- closed.
    pub record IsGiven (owners : ℕ) (book : B) (i : ℕ) (share : H) (senders : List (Option S))
        (receivers : List (Option R)) (kept : List (Option C)) (room : ℕ) : Type 0 where
      pub me_in : i < owners
      pub few : owners ≤ most_parts
      pub fresh : IsFresh book i share
      pub ends : HasEnds i senders
      pub posts : AreAllEmpty owners (map (through mail.sent) senders)
      pub taken : AreAllEmpty owners (map (through mail.received) receivers)
      pub none_kept : kept ≡ []
      pub space : length senders ≤ room

  module _ {A F G Y : Type 0} (rules : Rules A F G) (yields : A → ℕ → List G → Y → Type 0)
      {M S R C P : Type 0} (mail : Mail.Ghosts M G S R C P) where
    -- The worker of owner i gives back the log of its part and what the part returned beside it,
    -- what is left of its share, and the ends of its mailboxes: each sender closed, each receiver
    -- as the end of its mailbox that it was.
    pub record IsEnded (a : A) (book : B) (i : ℕ) (senders : List (Option S))
        (receivers : List (Option R)) (log : List G) (yielded : Y) (left : E)
        (closed : List (Option C)) (ended : List (Option R)) (ending : Ending) : Type 0 where
      pub shuts :
          Alike (Both (λ s z. (r : R) → mail.pairs s r → mail.closes z r)) senders closed
      pub keeps : Alike (Both (Keeps mail)) receivers ended
      pub leaves : Leaves book i left ending
      pub finishes :
          WasMade ending
          → FinishedAs rules yields a i (log_of (map (through mail.all_sent) closed))
          (log_of (map (through mail.received) ended))
          (ledger.left_owed left) (ledger.left_cleared left) ending log yielded
