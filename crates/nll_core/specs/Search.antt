-- What a search through a relation has reached, and what it adds. Source: project's choice. Only
-- private contracts cite this file.
use Rattle.std.specs.Prelude.{◌≡◌, ◌≢◌, ◌⊎◌, ◌↔◌, ℕ, ◌+◌, ◌<◌, ◌≤◌, Bool, true, false, not, ⊤}
use Rattle.std.specs.Prelude.{List, length, count_by, slice_index}
use Rattle.nll_sets.specs.ElementSet.{flag}
use Rattle.nll_problem.specs.Graph.{Graph, IsStep}
use Rattle.nll_problem.specs.Walks.{IsWalk}

-- The elements that were reached: as a set, and as a list in the order in which they were reached.
pub record Search : Type 0 where
  pub reached : List Bool
  pub list : List ℕ

-- ---- sets

-- the set has x
abbrev pub IsIn : List Bool → ℕ → Type 0
IsIn flags x = flag flags x ≡ true

-- the set has all elements of this kind
abbrev pub HasAll : (ℕ → Type 0) → List Bool → Type 0
HasAll kind flags = (x : ℕ) → kind x → IsIn flags x

-- x is of this kind and in the set
abbrev pub Within : List Bool → (ℕ → Type 0) → ℕ → Type 0
Within set kind x = kind x × IsIn set x

-- x is at least `from` and below `to`
abbrev pub IsInRange : ℕ → ℕ → ℕ → Type 0
IsInRange from to x = (from ≤ x) × (x < to)

-- how many elements are not in the set
abbrev pub missing : List Bool → ℕ
missing flags = count_by not flags

-- ---- walks

-- y may follow x, and the set has y
abbrev pub IsStepInside : Graph → List Bool → ℕ → ℕ → Type 0
IsStepInside g set x = Within set (IsStep g x)

-- a walk by steps of the relation, which may go anywhere, leads from x to y
abbrev pub LeadsTo : (ℕ → ℕ → Type 0) → ℕ → ℕ → Type 0
LeadsTo step x y = (way : List ℕ) × IsWalk step (λ _. ⊤) x way y

-- a walk leads to x from an element of the set
abbrev pub IsLedTo : (ℕ → ℕ → Type 0) → List Bool → ℕ → Type 0
IsLedTo step reached x = (y : ℕ) × IsIn reached y × LeadsTo step y x

-- the set has all elements that one step from x leads to
abbrev pub IsCovered : (ℕ → ℕ → Type 0) → List Bool → ℕ → Type 0
IsCovered step reached x = HasAll (step x) reached

-- ---- what a search adds

-- x is in the list at an index that is at least `place`
abbrev pub IsFrom : ℕ → List ℕ → ℕ → Type 0
IsFrom place list x = (k : ℕ) × (place ≤ k) × (k < length list) × (slice_index list k ≡ x)

-- this holds at each index of the list that is at least `place`
abbrev pub HoldsFrom : ℕ → List ℕ → (ℕ → Type 0) → Type 0
HoldsFrom place list kind = (k : ℕ) → place ≤ k → k < length list → kind (slice_index list k)

-- Exactly the elements of this kind that the set lacked were added to the set and appended to the
-- list, each once.
pub record AddsOfKind (kind : ℕ → Type 0) (old new : Search) : Type 0 where
  pub width : length new.reached ≡ length old.reached
  pub kept : HasAll (IsIn old.reached) new.reached
  pub longer : length old.list ≤ length new.list
  pub front : (k : ℕ) → k < length old.list → slice_index new.list k ≡ slice_index old.list k
  pub fresh : HoldsFrom (length old.list) new.list (λ x. flag old.reached x ≡ false)
  pub inside : HoldsFrom (length old.list) new.list (IsIn new.reached)
  pub cause : HoldsFrom (length old.list) new.list kind
  pub once : (j : ℕ) → length old.list ≤ j
      → HoldsFrom (j + 1) new.list (λ x. slice_index new.list j ≢ x)
  pub only : (x : ℕ) → IsIn new.reached x → IsIn old.reached x ⊎ IsFrom (length old.list) new.list x
  pub count : missing new.reached + length new.list ≡ missing old.reached + length old.list

-- The elements of this kind were visited: those that were new are added, and the set has all.
pub record Visits (kind : ℕ → Type 0) (old new : Search) : Type 0 where
  pub adds : AddsOfKind kind old new
  pub all : HasAll kind new.reached

-- the elements of this kind that are in the set were visited
abbrev pub VisitsWithin : List Bool → (ℕ → Type 0) → Search → Search → Type 0
VisitsWithin set kind old new = Visits (Within set kind) old new

-- The list from the index `place` on has only reached elements, and each other reached element is
-- covered.
pub record IsPending (step : ℕ → ℕ → Type 0) (s : Search) (place : ℕ) : Type 0 where
  pub within : place ≤ length s.list
  pub listed : HoldsFrom place s.list (IsIn s.reached)
  pub others : (x : ℕ) → IsIn s.reached x → IsFrom place s.list x ⊎ IsCovered step s.reached x

-- What walks lead to from the set was added, until each step from the set leads into it.
pub record Spreads (step : ℕ → ℕ → Type 0) (old new : Search) : Type 0 where
  pub adds : AddsOfKind (IsLedTo step old.reached) old new
  pub closed : (x : ℕ) → IsIn new.reached x → IsCovered step new.reached x

-- the set has exactly what walks lead to from `at`
abbrev pub IsFound : (ℕ → ℕ → Type 0) → ℕ → Search → Type 0
IsFound step at s = (x : ℕ) → IsIn s.reached x ↔ LeadsTo step at x
