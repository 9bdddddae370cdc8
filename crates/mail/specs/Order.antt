-- What a queue keeps true between a mailbox's two ends: what was sent is what was received and,
-- behind it, what the queue holds.
-- Source: project's choice. Private contracts and rules of queues alone cite this file.
use Rattle.std.specs.Prelude.{◌≡◌, ℕ, ◌≤◌, Bool, true, List, ◌++◌, length}
use mathlib.Core.Option.{some}
use lib.ListN.{get_elem?}
use Rattle.mail.specs.declared.queue_mail.Known.{Known}
use Rattle.mail.specs.Limits.{most_posts}

module _ {T : Type 0} where
  -- what an end knows: whether it may post and take, what was sent, and what was received
  abbrev pub known : Bool → Bool → List T → List T → Known T
  known may_post may_take all_sent all_received = record {
    posts = may_post;
    takes = may_take;
    sent = all_sent;
    received = all_received;
  }

  -- the end of this number is the poster if it may post, and then knows what was sent; it is the
  -- taker if it may take, and then knows what was received
  pub record IsPosterOrTaker
      (poster taker : ℕ) (all_sent all_received : List T) (number : ℕ) (end : Known T)
      : Type 0 where
    pub posting : end.posts ≡ true → (number ≡ poster) × (end.sent ≡ all_sent)
    pub taking : end.takes ≡ true → (number ≡ taker) × (end.received ≡ all_received)

  -- one end at most posts and one at most takes, and what was sent is what was received and what
  -- the queue holds
  pub record IsInOrder (items : List T) (ends : List (Known T)) : Type 0 where
    pub poster : ℕ
    pub taker : ℕ
    pub sent : List T
    pub received : List T
    pub order : sent ≡ received ++ items
    pub few : length sent ≤ most_posts
    pub each : (number : ℕ) (end : Known T)
        → get_elem? ends number ≡ some end → IsPosterOrTaker poster taker sent received number end
