-- Logs of growths: what owners write down and send each other, and when their logs say what
-- follows. Source: project's choice. Ranks are the times of logical clocks (Lamport, "Time, clocks,
-- and the ordering of events in a distributed system", 1978).
use Rattle.std.specs.Prelude.{◌≡◌, ◌≢◌, ◌↔◌, ℕ, ◌<◌, ◌≤◌, ◌&&◌, ◌==◌, Bool, List, [], length}
use Rattle.std.specs.Prelude.{nat_lt, Contains, AllPairs, slice_index_or, if◌then◌else◌}
use Rattle.std.specs.List.{filter, list_any}
use Rattle.fixpoint.specs.Rules.{Rules, IsLeast}

-- the log of owner i
abbrev pub log_of : {G : Type 0} → List (List G) → ℕ → List G
log_of logs i = slice_index_or logs i []

module _ {A F G : Type 0} (rules : Rules A F G) where
  -- the list tells the fact: it has a growth of it
  abbrev pub IsTold : List G → F → Type 0
  IsTold list f = (g : G) × Contains list g × (rules.fact g ≡ f)

  -- ---- one log

  -- The log is well-formed for owner i: its facts are that owner's, no fact comes twice, and the
  -- ranks ascend from at least 1.
  pub record IsLogOf (a : A) (i : ℕ) (log : List G) : Type 0 where
    pub own : (g : G) → Contains log g → rules.owner a (rules.fact g) ≡ i
    pub once : AllPairs (λ g h. rules.fact g ≡ rules.fact h → ⊥) log
    pub rising : AllPairs (λ g h. rules.rank g < rules.rank h) log
    pub from_one : (g : G) → Contains log g → 1 ≤ rules.rank g

  -- the growths of a log that owner j receives, in the log's order: those of facts that it reads
  abbrev pub part : A → ℕ → List G → List G
  part a j log = filter (λ (g : G). rules.reads a j (rules.fact g)) log

  -- ---- an owner's log, and what it received

  -- where owner i looks up a fact: in its own log, or in what it received from the fact's owner
  abbrev pub list_of : A → ℕ → List G → (ℕ → List G) → F → List G
  list_of a i log received f =
      if rules.owner a f == i then log else received (rules.owner a f)

  -- whether the list tells the fact
  abbrev pub tells : List G → F → Bool
  tells list f = list_any (λ (g : G). rules.same (rules.fact g) f) list

  -- whether the list tells the fact by a growth whose rank is below this one
  abbrev pub tells_before : ℕ → List G → F → Bool
  tells_before rank list f =
      list_any (λ (g : G). rules.same (rules.fact g) f && nat_lt (rules.rank g) rank) list

  -- The log is well-supported: each of its facts follows from what was known with lower ranks. So
  -- no growths support each other in a circle.
  abbrev pub IsWellSupported : A → (F → List G) → List G → Type 0
  IsWellSupported a list log =
      (g : G) → Contains log g
      → rules.derives a (λ f. tells_before (rules.rank g) (list f) f) (rules.fact g)

  -- owner i is saturated: it knows each of its facts that follows from what it knows
  abbrev pub IsSaturated : A → ℕ → (F → List G) → Type 0
  IsSaturated a i list =
      (f : F) → rules.owner a f ≡ i → rules.derives a (λ g. tells (list g) g) f → IsTold (list f) f

  -- ---- all owners

  -- Each owner's log is well-formed and well-supported by it and what the owner received, which is
  -- in the logs of the others.
  pub record AreSound (a : A) (logs : List (List G))
      (received : ℕ → ℕ → List G) : Type 0 where
    pub counted : length logs ≡ rules.parts a
    pub well_formed : (i : ℕ) → i < rules.parts a → IsLogOf a i (log_of logs i)
    pub supported :
        (i : ℕ) → i < rules.parts a
        → IsWellSupported a (list_of a i (log_of logs i) (received i)) (log_of logs i)
    pub heard :
        (i j : ℕ) → i < rules.parts a → j < rules.parts a → i ≢ j
        → (g : G) → Contains (received i j) g → Contains (log_of logs j) g

  -- The owners are settled: each is saturated, and has received its whole part of each other log.
  pub record AreSettled (a : A) (logs : List (List G))
      (received : ℕ → ℕ → List G) : Type 0 where
    pub saturated :
        (i : ℕ) → i < rules.parts a
        → IsSaturated a i (list_of a i (log_of logs i) (received i))
    pub told :
        (i j : ℕ) → i < rules.parts a → j < rules.parts a → i ≢ j
        → received i j ≡ part a i (log_of logs j)

  -- the log of each fact's owner tells exactly the least solution
  abbrev pub SayLeast : A → List (List G) → Type 0
  SayLeast a logs =
      (f : F) → IsTold (log_of logs (rules.owner a f)) f ↔ IsLeast rules a f
