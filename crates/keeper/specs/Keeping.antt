-- What a keeper keeps. Source: project's choice. Only private contracts cite this file.
use Rattle.std.specs.Prelude.{◌≡◌, ◌⊎◌, ℕ, ◌+◌, ◌^◌, ◌<◌, ◌≤◌, Bool, true, false, IsTrue, List}
use Rattle.std.specs.Prelude.{[], ◌++◌, ◌∷◌, length, Contains, slice_set, slice_index_or}
use Rattle.nll_sets.specs.Prefix.{IsPrefix}
use Rattle.fixpoint.specs.Rules.{Rules}
use Rattle.fixpoint.specs.Logs.{tells, part}
use Rattle.fixpoint.specs.State.{State, IsSoundPart, IsDone, IsNoted, list_in, received_from}
use Rattle.keeper.specs.Engine.{MayEnter}

-- the part that is made of these
abbrev pub kept_state : {A G : Type 0} → A → ℕ → List G → List (List G) → List ℕ → Bool
    → Bool → State A G
kept_state a i list got gave is_loaded is_broken = record {
  system = a;
  me = i;
  log = list;
  received = got;
  given = gave;
  loaded = is_loaded;
  broken = is_broken;
}

-- the lists with one more growth from owner j
abbrev pub with_heard : {G : Type 0} → List (List G) → ℕ → G → List (List G)
with_heard received j g = slice_set received j (slice_index_or received j [] ++ g ∷ [])

module _ {A F G : Type 0} (rules : Rules A F G) where
  -- whether the part knows the fact
  abbrev pub has : State A G → F → Bool
  has o f = tells rules (list_in rules o f) f

  -- a growth of this fact was appended to the log, and nothing else changed
  abbrev pub GrowsBy : F → State A G → State A G → Type 0
  GrowsBy f old new =
      (g : G) × (rules.fact g ≡ f) × (new ≡ record old { log = old.log ++ g ∷ [] })

  -- What is true of a part and its clock, which is the highest rank so far.
  pub record IsKept (o : State A G) (clock : ℕ) : Type 0 where
    pub sound : IsSoundPart rules o
    -- no rank is above the clock
    pub own_ranks : (g : G) → Contains o.log g → rules.rank g ≤ clock
    pub heard_ranks : (j : ℕ) (g : G) → Contains (received_from o j) g → rules.rank g ≤ clock
    -- the clock is the rank of a growth
    pub top : (clock ≡ 0) ⊎ ((h : G) × IsNoted o h × (rules.rank h ≡ clock))
    -- it received only ranks below 2^61, so the clock is hardly above that
    pub early : clock ≤ 2 ^ 61 + length o.log

  -- The list has facts that owner i may enter: all that follow from what is known and aren't known.
  pub record ListsDue (a : A) (i : ℕ) (known : F → Bool) (list : List F) : Type 0 where
    pub each : (f : F) → Contains list f → MayEnter rules a i known f
    pub all :
        (f : F) → rules.owner a f ≡ i → rules.derives a known f
        → IsTrue (known f) ⊎ Contains list f

  -- For each owner there is a list: what it receives of this log.
  pub record AreParts (a : A) (log : List G) (lists : List (List G))
      : Type 0 where
    pub counted : length lists ≡ rules.parts a
    pub each :
        (j : ℕ) → j < rules.parts a → slice_index_or lists j [] ≡ part rules a j log

  -- The lists for the owners below a number got a growth, if they read it; the others are as they
  -- were.
  pub record AreDealt (a : A) (g : G) (below : ℕ) (old new : List (List G))
      : Type 0 where
    pub counted : length new ≡ length old
    pub got :
        (j : ℕ) → j < below → j < length old
        → slice_index_or new j [] ≡ slice_index_or old j [] ++ part rules a j (g ∷ [])
    pub left : (j : ℕ) → below ≤ j → slice_index_or new j [] ≡ slice_index_or old j []

-- The log got some more growths, and nothing else changed.
pub record LogGrows {A G : Type 0} (old new : State A G) : Type 0 where
  pub begins : IsPrefix old.log new.log
  pub others : new ≡ record old { log = new.log }

module _ {A F G : Type 0} (rules : Rules A F G) where
  -- A part goes on from here: the store has what it knows, nothing is due, and the lists have what
  -- each owner receives of the whole log.
  pub record IsQuiet (o : State A G) (stored : F → Bool) (due : List F) (looked : ℕ)
      (lists : List (List G)) : Type 0 where
    pub store : (f : F) → stored f ≡ has rules o f
    pub none_due : due ≡ []
    pub whole_log : looked ≡ length o.log
    pub parts : AreParts rules o.system o.log lists

  -- What is true of a part between two calls, unless one was refused: it goes on from here, and has
  -- nothing left to do if it's loaded, or knows nothing if it isn't.
  pub record IsWholePart (o : State A G) (stored : F → Bool) (due : List F) (looked : ℕ)
      (lists : List (List G)) : Type 0 where
    pub quiet : IsQuiet o stored due looked lists
    pub done : o.loaded ≡ true → IsDone rules o
    pub fresh : o.loaded ≡ false → (f : F) → has rules o f ≡ false
