-- What settled mailboxes say, while they are settled one by one. Only private contracts cite this
-- file. Source: project's choice.
use Rattle.std.specs.Prelude.{◌≡◌, ◌≢◌, ℕ, ◌<◌, List, [], ◌∷◌, ◌++◌, length, map, drop, slice_get}
use Rattle.std.specs.Prelude.{Option, Some, None, Contains, AllPairs}
use Rattle.mail.specs.declared.mail.Mail as Mail
use Rattle.nll_sets.specs.Prefix.{IsPrefix}
use Rattle.fixpoint.specs.Logs.{log_of}
use Rattle.run.specs.Delivery.{IsPairBefore}
use Rattle.worker.specs.Mailboxes.{through}
use Rattle.run.specs.Table.{list_at}

module _ {M T S R C P : Type 0} (mail : Mail.Ghosts M T S R C P) (out into : ℕ → ℕ → List T)
  where
    -- The settled mailbox from owner i to owner j says what its two ends said.
    pub record IsPostOf (i j : ℕ) (p : P) : Type 0 where
      pub apart : i ≢ j
      pub ends_are : mail.post_ends p ≡ (i, j)
      pub sent_is : mail.post_sent p ≡ out i j
      pub received_is : mail.post_received p ≡ into i j
      pub whole : mail.post_sent p ≡ mail.post_received p ++ mail.post_rest p

    -- Of the pairs that are done, what was received is a prefix of what was sent; each pair of two
    -- different owners has its settled mailbox, and there is no other.
    pub record ArePostsOf (done : ℕ → ℕ → Type 0) (posts : List P) : Type 0 where
      pub prefix : (i j : ℕ) → done i j → IsPrefix (into i j) (out i j)
      pub each :
          (i j : ℕ) → done i j → i ≢ j
          → (p : P) × Contains posts p × (mail.post_ends p ≡ (i, j))
      pub only : (p : P) → Contains posts p → (i : ℕ) × (j : ℕ) × done i j × IsPostOf i j p

    -- those of the pairs that are done were appended
    abbrev pub AddsPosts : (ℕ → ℕ → Type 0) → List P → List P → Type 0
    AddsPosts done old new = (more : List P) × (new ≡ old ++ more) × ArePostsOf done more

-- the settled mailbox of these two ends was appended, if there is one
abbrev pub AddsPost : {M T S R C P : Type 0} → Mail.Ghosts M T S R C P → Option C → Option R
    → List P → List P → Type 0
AddsPost mail None r old new = new ≡ old
AddsPost mail (Some z) None old new = ⊥
AddsPost {M} {T} {S} {R} {C} {P} mail (Some z) (Some r) old new =
    (p : P) × (new ≡ old ++ p ∷ []) × (mail.post_ends p ≡ mail.ends r)
    × (mail.post_sent p ≡ mail.all_sent z) × (mail.post_received p ≡ mail.received r)
    × (mail.post_sent p ≡ mail.post_received p ++ mail.post_rest p)

-- Settled mailboxes come by sender, then by receiver, and all of them before this pair.
pub record ComeBefore {P : Type 0} (ends : P → ℕ × ℕ) (posts : List P) (pair : ℕ × ℕ)
    : Type 0 where
  pub in_order : AllPairs IsPairBefore (map ends posts)
  pub before : (p : P) → Contains posts p → IsPairBefore (ends p) pair

-- the entry of the row for j and the first one of a column are paired for i and j
abbrev pub AreNext : {C R : Type 0} → (ℕ → ℕ → C → R → Type 0) → ℕ → ℕ → List C → List R → Type 0
AreNext {C} {R} paired i j row column =
    (z : C) × (r : R) × (rest : List R) × (slice_get row j ≡ Some z) × (column ≡ r ∷ rest)
    × paired i j z r

-- each of this many columns lost its first entry
abbrev pub LosesFirsts : {R : Type 0} → ℕ → List (List R) → List (List R) → Type 0
LosesFirsts owners old new =
    (length new ≡ length old) × ((j : ℕ) → j < owners → list_at new j ≡ drop 1 (list_at old j))

-- the pairs of a row, up to a place
abbrev pub InRow : ℕ → ℕ → ℕ → ℕ → Type 0
InRow from made i j = (i ≡ from) × (j < made)

-- the pairs of all rows below
abbrev pub InRows : ℕ → ℕ → ℕ → ℕ → Type 0
InRows made owners i j = (i < made) × (j < owners)

-- what the closed sender at each place has sent
abbrev pub sent_at : {C T : Type 0} → (C → List T) → List (List (Option C)) → ℕ → ℕ
    → List T
sent_at all_sent rows i j = log_of (map (through all_sent) (list_at rows i)) j

-- what the receiver at each place has received
abbrev pub got_by : {R T : Type 0} → (R → List T) → List (List (Option R)) → ℕ → ℕ
    → List T
got_by received columns i j = log_of (map (through received) (list_at columns j)) i
