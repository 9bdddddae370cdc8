-- The outcome of a run. Source: project's choice, after RFC 2094, "Solving constraints".
use Rattle.std.specs.Prelude.{◌≡◌, ◌≢◌, ◌↔◌, ◌⊎◌, ℕ, ◌+◌, ◌^◌, ◌<◌, Bool}
use Rattle.std.specs.Prelude.{List, [], map, Contains, AllPairs}
use Rattle.nll_problem.specs.Problem.{Problem}
use Rattle.nll_problem.specs.Solution.{Least}
use Rattle.nll_core.specs.Values.{IsHeld, IsShaped}
use Rattle.nll_cut.specs.Partition.{Cut, owner_of}
use Rattle.nll_mail.specs.declared.growth.Growth.{Growth}
use Rattle.mail.specs.declared.mail.Mail as Mail
use Rattle.nll_owner.specs.Logs.{AreSoundLogs, IsTold, log_of, part}
use Rattle.run.specs.Delivery.{IsPair, IsPairBefore}

-- There is a settled mailbox for each ordered pair of owners, and no other; what was sent through
-- it is the part of the sender's log that the receiver reads; and all of it was received.
pub record AreGrowthsDelivered {P : Type 0} (ends : P → ℕ × ℕ) (sent received : P → List Growth)
    (q : Problem) (c : Cut) (logs : List (List Growth)) (posts : List P) : Type 0 where
  pub pairs : (pair : ℕ × ℕ) → Contains (map ends posts) pair ↔ IsPair c.owners pair
  pub whole_part :
      (p : P) → Contains posts p → sent p ≡ part q c (ends p).1 (log_of logs (ends p).0)
  pub all_of_it : (p : P) → Contains posts p → received p ≡ sent p

-- the log of each region's owner says exactly what the region has in the least solution
abbrev pub SayLeast : Problem → Cut → List (List Growth) → Type 0
SayLeast q c logs =
    (r e : ℕ) → IsTold (log_of logs (owner_of c r)) r e ↔ Least q r e

-- the growth's rank is one above that of a growth which is in the log of owner i, or in what i
-- received from another
abbrev pub RanksNext : Problem → Cut → List (List Growth) → ℕ → Growth → Type 0
RanksNext q c grown i g =
    (h : Growth)
    × (Contains (log_of grown i) h
    ⊎ ((j : ℕ) × (j < c.owners) × (j ≢ i) × Contains (part q c i (log_of grown j)) h))
    × (h.rank + 1 ≡ g.rank)

-- No rank is left out: each growth of a rank above 1 has one of the rank before it. So the highest
-- rank is at most the number of growths, which is at most that of pairs of a region and an element.
-- No rank reaches 2^37.
pub record AreRanked (q : Problem) (c : Cut) (grown : List (List Growth)) : Type 0 where
  pub next :
      (i : ℕ) (g : Growth) → i < c.owners → Contains (log_of grown i) g → 1 < g.rank
      → RanksNext q c grown i g
  pub low : (i : ℕ) (g : Growth) → i < c.owners → Contains (log_of grown i) g → g.rank < 2 ^ 37

-- Each owner received from each other exactly the growths of the regions that it reads, once each
-- and in the order in which they grew, and none was left in a mailbox. The values are the least.
pub record IsRunOutcome {M S R C P : Type 0} (mail : Mail.Ghosts M Growth S R C P) (q : Problem)
    (c : Cut) (values : List (List Bool)) (grown : List (List Growth)) (posts : List P)
    : Type 0 where
  -- a settled mailbox for each ordered pair of different owners, and no other, by sender and then
  -- by receiver; the sender's part for the receiver was sent through it, and all of it was received
  pub delivered : AreGrowthsDelivered mail.post_ends mail.post_sent mail.post_received q c grown
      posts
  pub in_order : AllPairs IsPairBefore (map mail.post_ends posts)
  pub none_left : (p : P) → Contains posts p → mail.post_rest p ≡ []
  -- each owner's log is well-formed, and well-supported by it and what the owner received
  pub sound : AreSoundLogs q c grown (λ i j. part q c i (log_of grown j))
  -- no rank is left out, and none reaches 2^37
  pub ranked : AreRanked q c grown
  -- the values are the least, and the log of each region's owner says the same
  pub shaped : IsShaped q values
  pub least : (r e : ℕ) → IsHeld values r e ↔ Least q r e
  pub logged : SayLeast q c grown
