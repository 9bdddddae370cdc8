-- A part as contracts see it: its log, what it received, and what it gave to others. A part is what
-- one owner has. Source: project's choice. However the code keeps facts, they say no more than the
-- lists do.
use Rattle.std.specs.Prelude.{◌≡◌, ◌⊎◌, ℕ, ◌+◌, ◌^◌, ◌<◌, ◌≤◌, Bool, true, false, List, []}
use Rattle.std.specs.Prelude.{◌++◌, length, Contains, slice_index_or, slice_set, replicate}
use Rattle.nll_sets.specs.Prefix.{IsPrefix}
use Rattle.fixpoint.specs.Limits.{most_growths}
use Rattle.fixpoint.specs.Rules.{Rules}
use Rattle.fixpoint.specs.Logs.{IsLogOf, IsWellSupported, IsSaturated, list_of, part}

-- The part of owner `me`: what is analysed; its log; what it received from each owner; how many
-- growths it gave to each owner; whether it was loaded; and whether a call of it was refused.
pub record State (A G : Type 0) : Type 0 where
  pub system : A
  pub me : ℕ
  pub log : List G
  pub received : List (List G)
  pub given : List ℕ
  pub loaded : Bool
  pub broken : Bool

-- the lists with these growths from owner j appended
abbrev pub with_growths : {G : Type 0} → List (List G) → ℕ → List G → List (List G)
with_growths received j gs = slice_set received j (slice_index_or received j [] ++ gs)

-- the new lists are the old ones with a prefix of these growths from owner j appended: none of
-- them, some or all
abbrev pub GotBeginning : {G : Type 0} → List (List G) → ℕ → List G → List (List G) → Type 0
GotBeginning {G} old j gs new =
    (some : List G) × IsPrefix some gs × (new ≡ with_growths old j some)

module _ {A G : Type 0} where
  -- what it received from owner j
  abbrev pub received_from : State A G → ℕ → List G
  received_from o j = slice_index_or o.received j []

  -- how many growths it gave to owner j
  abbrev pub given_to : State A G → ℕ → ℕ
  given_to o j = slice_index_or o.given j 0

  -- the growth is in its log or in what it received
  abbrev pub IsNoted : State A G → G → Type 0
  IsNoted o g = Contains o.log g ⊎ ((j : ℕ) × Contains (received_from o j) g)

  -- it was loaded, or a call of it was refused
  abbrev pub IsReadyPart : State A G → Type 0
  IsReadyPart o = o.broken ≡ false → o.loaded ≡ true

module _ {A F G : Type 0} (rules : Rules A F G) where
  -- the list in which it looks up a fact
  abbrev pub list_in : State A G → F → List G
  list_in o f = list_of rules o.system o.me o.log (received_from o) f

  -- nothing is left to do: it has each of its facts that follows from what it knows
  abbrev pub IsDone : State A G → Type 0
  IsDone o = IsSaturated rules o.system o.me (list_in o)

  -- the part of its log that owner j receives
  abbrev pub part_for : State A G → ℕ → List G
  part_for o j = part rules o.system j o.log

  -- What is true of a part at every moment, even after a call of it was refused.
  pub record IsSoundPart (o : State A G) : Type 0 where
    pub valid : rules.valid o.system
    pub me : o.me < rules.parts o.system
    pub well_formed : IsLogOf rules o.system o.me o.log
    pub supported : IsWellSupported rules o.system (list_in o) o.log
    -- its facts are proper, and there are not too many
    pub proper : (g : G) → Contains o.log g → rules.proper o.system (rules.fact g)
    pub few : length o.log < most_growths
    -- it received only what it reads, from the owner of the fact
    pub senders : length o.received ≡ rules.parts o.system
    pub heard :
        (j : ℕ) (g : G) → Contains (received_from o j) g
        → (rules.owner o.system (rules.fact g) ≡ j)
        × (rules.reads o.system o.me (rules.fact g) ≡ true)
    -- each rank of its own is one above that of another growth
    pub steps :
        (g : G) → Contains o.log g → 1 < rules.rank g
        → (h : G) × IsNoted o h × (rules.rank h + 1 ≡ rules.rank g)
    -- it gave no more than there is
    pub receivers : length o.given ≡ rules.parts o.system
    pub given : (j : ℕ) → given_to o j ≤ length (part_for o j)

  -- Owner i may receive the growth from owner j: it is of a fact of j that i reads and that is
  -- proper, and its rank is below 2^61, as the ranks of all growths of a run are.
  pub record Passes (a : A) (i j : ℕ) (g : G) : Type 0 where
    pub sender : rules.owner a (rules.fact g) ≡ j
    pub read : rules.reads a i (rules.fact g) ≡ true
    pub proper : rules.proper a (rules.fact g)
    pub rank : (rules.rank g) < 2 ^ 61

  -- a part that has done nothing yet
  abbrev pub first_state : A → ℕ → State A G
  first_state a i = record {
    system = a;
    me = i;
    log = [];
    received = replicate (rules.parts a) [];
    given = replicate (rules.parts a) 0;
    loaded = false;
    broken = false;
  }
