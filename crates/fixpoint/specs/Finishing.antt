-- What each worker of a run has at the end, and what is true of all their logs then. A worker is
-- what runs the part of an owner. Source: project's choice.
use Rattle.std.specs.Prelude.{◌≡◌, ◌≢◌, ◌⊎◌, ℕ, ◌+◌, ◌<◌, List, length, Contains}
use Rattle.nll_sets.specs.Prefix.{IsPrefix}
use Rattle.fixpoint.specs.Limits.{most_growths}
use Rattle.fixpoint.specs.Rules.{Rules}
use Rattle.fixpoint.specs.Logs.{log_of, part}
use Rattle.fixpoint.specs.State.{State, IsSoundPart, IsDone, Passes, received_from, part_for}
use Rattle.fixpoint.specs.Sums.{sum_to}
use Rattle.fixpoint.specs.declared.ending.Ending.{Ending}
use Rattle.fixpoint.specs.declared.ending.Ending.TheVariants.{Quiet, Stray}

module _ {A F G : Type 0} (rules : Rules A F G) where
  -- a growth was taken that its sender can't have posted to owner i
  abbrev pub HasStray : A → ℕ → (ℕ → List G) → Type 0
  HasStray a i got =
      (j : ℕ) × (g : G) × (j < rules.parts a) × Contains (got j) g
      × (Passes rules a i j g → ⊥)

  -- What the worker of owner i has at the end: its part, what it posted to each other owner and
  -- took from each, what it owed and cleared, and how it ended.
  pub record Finishes (a : A) (i : ℕ) (o : State A G) (sent got : ℕ → List G)
      (owed cleared : ℕ) (ending : Ending) : Type 0 where
    pub system : o.system ≡ a
    pub me : o.me ≡ i
    pub sound : IsSoundPart rules o
    -- it posted to each other owner in order, from the front
    pub front : (j : ℕ) → j < rules.parts a → IsPrefix (sent j) (part_for rules o j)
    pub stray : ending ≡ Stray → HasStray a i got
    -- its part received nothing but what it took
    pub taken :
        (j : ℕ) (g : G) → j < rules.parts a → Contains (received_from o j) g
        → Contains (got j) g
    -- if it ended quiet, its part received what it took and has nothing left to do; it has posted
    -- all, owed for the load and for all that it posted, and cleared the load and all that it took
    pub heard : ending ≡ Quiet → (j : ℕ) → j < rules.parts a → got j ≡ received_from o j
    pub done : ending ≡ Quiet → IsDone rules o
    pub whole : ending ≡ Quiet → (j : ℕ) → j < rules.parts a → sent j ≡ part_for rules o j
    pub owes : ending ≡ Quiet → owed ≡ 1 + sum_to (rules.parts a) (λ j. length (sent j))
    pub clears : ending ≡ Quiet → cleared ≡ 1 + sum_to (rules.parts a) (λ j. length (got j))

  -- the growth's rank is one above that of a growth which is in the log of owner i, or in what i
  -- received from another
  abbrev pub ComesNext : A → List (List G) → ℕ → G → Type 0
  ComesNext a grown i g =
      (h : G)
      × (Contains (log_of grown i) h
      ⊎ ((j : ℕ) × (j < rules.parts a) × (j ≢ i)
      × Contains (part rules a i (log_of grown j)) h))
      × (rules.rank h + 1 ≡ rules.rank g)

  -- No rank is left out: each growth of a rank above 1 has one of the rank before it. So the
  -- highest rank is at most the number of all growths. No rank reaches 2^37.
  pub record AreRanked (a : A) (grown : List (List G)) : Type 0 where
    pub next :
        (i : ℕ) (g : G) → i < rules.parts a → Contains (log_of grown i) g → 1 < rules.rank g
        → ComesNext a grown i g
    pub low :
        (i : ℕ) (g : G) → i < rules.parts a → Contains (log_of grown i) g
        → rules.rank g < most_growths
