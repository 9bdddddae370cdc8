-- Lists of ends of mailboxes, and what each end becomes. Source: project's choice.
use Rattle.std.specs.Prelude.{◌≡◌, ℕ, List, [], ◌∷◌, length, Option, Some, None, slice_get}
use Rattle.mail.specs.declared.mail.Mail as Mail
use Rattle.fixpoint.specs.Logs.{log_of}

-- P holds of two lists, index by index
abbrev pub Alike : {X Y : Type 0} → (X → Y → Type 0) → List X → List Y → Type 0
Alike P [] [] = Unit {0}
Alike P (x ∷ xs) (y ∷ ys) = P x y × Alike P xs ys
Alike P _ _ = ⊥

-- P holds of two ends, or there is neither
abbrev pub Both : {X Y : Type 0} → (X → Y → Type 0) → Option X → Option Y → Type 0
Both P None None = Unit {0}
Both P (Some x) (Some y) = P x y
Both P _ _ = ⊥

-- what was sent through an end, by f: nothing if there is no end
abbrev pub through : {X T : Type 0} → (X → List T) → Option X → List T
through f None = []
through f (Some x) = f x

-- no end is missing except the one at the index of owner i
abbrev pub HasEnds : {X : Type 0} → ℕ → List (Option X) → Type 0
HasEnds i ends = (j : ℕ) → slice_get ends j ≡ Some None → j ≡ i

-- there is a list for each of this many owners, and all are empty
abbrev pub AreAllEmpty : {T : Type 0} → ℕ → List (List T) → Type 0
AreAllEmpty n lists = (length lists ≡ n) × ((j : ℕ) → log_of lists j ≡ [])

module _ {M T S R C P : Type 0} (mail : Mail.Ghosts M T S R C P) where
  -- the sender is an end of the mailbox of which it was one
  abbrev pub Stays : S → S → Type 0
  Stays old new = (r : R) → mail.pairs old r → mail.pairs new r

  -- the closed sender is an end of the mailbox of which the sender was one, and has sent the same
  abbrev pub Shuts : S → C → Type 0
  Shuts s closed =
      (mail.all_sent closed ≡ mail.sent s) × ((r : R) → mail.pairs s r → mail.closes closed r)

  -- the receiver is an end of the mailbox of which it was one, and comes from and goes to the same
  abbrev pub Keeps : R → R → Type 0
  Keeps old new =
      ((s : S) → mail.pairs s old → mail.pairs s new)
      × ((closed : C) → mail.closes closed old → mail.closes closed new)
      × (mail.ends new ≡ mail.ends old)
