-- The outcome of a run. Source: project's choice; the least solution is that of the rules.
use Rattle.std.specs.Prelude.{◌≡◌, ℕ, ◌<◌, List, [], length, map, Contains, AllPairs, Some}
use Rattle.std.specs.Prelude.{slice_get}
use Rattle.fixpoint.specs.Rules.{Rules}
use Rattle.fixpoint.specs.Logs.{AreSound, SayLeast, log_of, part}
use Rattle.fixpoint.specs.Finishing.{AreRanked}
use Rattle.mail.specs.declared.mail.Mail as Mail
use Rattle.run.specs.Delivery.{AreDelivered, IsPairBefore}

-- Each owner's part gave out one thing, which says what the owner's log tells.
pub record AreYields {A G Y : Type 0} (parts : A → ℕ)
    (yields : A → ℕ → List G → Y → Type 0) (a : A) (grown : List (List G))
    (given : List Y) : Type 0 where
  pub counted : length given ≡ parts a
  pub each :
      (i : ℕ) (y : Y) → i < parts a → slice_get given i ≡ Some y → yields a i (log_of grown i) y

-- Each owner received from each other exactly the growths of the facts that it reads, once each and
-- in the order in which they grew, and none was left in a mailbox. The logs say the least solution.
pub record IsOutcome {A F G Y : Type 0} (rules : Rules A F G)
    (yields : A → ℕ → List G → Y → Type 0) {M S R C P : Type 0}
    (mail : Mail.Ghosts M G S R C P) (a : A) (grown : List (List G))
    (given : List Y) (posts : List P) : Type 0 where
  -- a settled mailbox for each ordered pair of different owners, and no other, by sender and then
  -- by receiver; the sender's part for the receiver was sent through it, and all of it was received
  pub delivered :
      AreDelivered rules mail.post_ends mail.post_sent mail.post_received a grown posts
  pub in_order : AllPairs IsPairBefore (map mail.post_ends posts)
  pub none_left : (p : P) → Contains posts p → mail.post_rest p ≡ []
  -- each owner's log is well-formed, and well-supported by it and what the owner received
  pub sound : AreSound rules a grown (λ i j. part rules a i (log_of grown j))
  -- no rank is left out, and none reaches 2^37
  pub ranked : AreRanked rules a grown
  -- the log of each fact's owner tells it exactly if the least solution has it, and what the parts
  -- gave out says the same
  pub logged : SayLeast rules a grown
  pub yielded : AreYields rules.parts yields a grown given
