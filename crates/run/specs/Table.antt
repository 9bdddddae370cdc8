-- The mailboxes between all owners, by sender and by receiver. Only private contracts cite this
-- file. Source: project's choice.
use Rattle.std.specs.Prelude.{◌≡◌, ◌≢◌, ℕ, ◌<◌, ◌≤◌, List, [], ◌∷◌, ◌++◌, length, slice_get}
use Rattle.std.specs.Prelude.{slice_index_or, Option, Some, None}
use Rattle.mail.specs.declared.mail.Mail as Mail

-- the list at a place
abbrev pub list_at : {X : Type 0} → List (List X) → ℕ → List X
list_at lists k = slice_index_or lists k []

-- the two ends of a mailbox through which nothing was sent
abbrev pub AreNewEnds : {M T S R C P : Type 0} → Mail.Ghosts M T S R C P → S → R → Type 0
AreNewEnds mail s r = mail.pairs s r × (mail.sent s ≡ []) × (mail.received r ≡ [])

-- the two ends of the mailbox from owner i to owner j, which belong together; from an owner to
-- itself there is neither
abbrev pub AreEnds : {S R : Type 0} → (S → R → Type 0) → (R → ℕ × ℕ) → ℕ → ℕ → Option S → Option R
    → Type 0
AreEnds tied ends i j None None = i ≡ j
AreEnds tied ends i j (Some s) (Some r) = (i ≢ j) × tied s r × (ends r ≡ (i, j))
AreEnds tied ends i j _ _ = ⊥

module _ {S R : Type 0} (paired : ℕ → ℕ → S → R → Type 0) where
  -- the entry of the row of i for j and that of the column of j for i are paired for i and j
  abbrev pub IsCell : ℕ → ℕ → List S → List R → Type 0
  IsCell i j row column =
      (s : S) × (r : R) × (slice_get row j ≡ Some s) × (slice_get column i ≡ Some r)
      × paired i j s r

  -- The first this many rows, and what all columns have from them.
  pub record IsEndTable (done owners : ℕ) (rows : List (List S)) (columns : List (List R))
      : Type 0 where
    pub row_count : length rows ≡ done
    pub column_count : length columns ≡ owners
    pub width : (i : ℕ) → i < done → length (list_at rows i) ≡ owners
    pub height : (j : ℕ) → j < owners → length (list_at columns j) ≡ done
    pub cell :
        (i j : ℕ) → i < done → j < owners → IsCell i j (list_at rows i) (list_at columns j)

  -- A row that is made up to an index: each column below it got one more entry from it.
  pub record IsPartRow (made from : ℕ) (row : List S) (old new : List (List R)) : Type 0 where
    pub size : length row ≡ made
    pub column_count : length new ≡ length old
    pub each :
        (j : ℕ) → j < made → (s : S) × (r : R) × (slice_get row j ≡ Some s)
        × (list_at new j ≡ list_at old j ++ r ∷ []) × paired from j s r
    pub others : (j : ℕ) → made ≤ j → list_at new j ≡ list_at old j
