-- An owner as contracts see it: its log, what it received, and what it gave to others. Source:
-- project's choice. The code keeps sets of elements as well; they say no more than the lists do.
use Rattle.std.specs.Prelude.{◌≡◌, ◌⊎◌, ℕ, ◌+◌, ◌*◌, ◌^◌, ◌<◌, ◌≤◌, Bool, true, false, List, []}
use Rattle.std.specs.Prelude.{◌∷◌, ◌++◌, length, Contains, slice_index_or, slice_set, replicate}
use Rattle.nll_problem.specs.Graph.{element_count}
use Rattle.nll_problem.specs.Problem.{Problem, IsBase, IsSound as IsSoundProblem}
use Rattle.nll_cut.specs.Partition.{Cut, owner_of, reads}
use Rattle.nll_mail.specs.declared.growth.Growth.{Growth}
pub use Rattle.fixpoint.specs.State.{with_growths, GotBeginning}
use Rattle.nll_owner.specs.Logs.{IsWellFormedLog, IsWellSupported, IsSaturated, IsCutOf, IsTold}
use Rattle.nll_owner.specs.Logs.{IsCalledFor, list_of, part}

-- The owner `me` of a cut of the problem: its log; what it received from each owner; how many
-- growths of each owner's part it gave to that owner; its clock, which is the highest rank so far;
-- whether it was loaded; and whether a call of it was refused.
pub record Owner : Type 0 where
  pub problem : Problem
  pub cut : Cut
  pub me : ℕ
  pub log : List Growth
  pub received : List (List Growth)
  pub given : List ℕ
  pub clock : ℕ
  pub loaded : Bool
  pub broken : Bool

-- what it received from owner j
abbrev pub received_from : Owner → ℕ → List Growth
received_from o j = slice_index_or o.received j []

-- the list in which it looks up a region
abbrev pub list_in : Owner → ℕ → List Growth
list_in o r = list_of o.cut o.me o.log (received_from o) r

-- its value, or its copy, of the region r has e
abbrev pub Has : Owner → ℕ → ℕ → Type 0
Has o r e = IsTold (list_in o r) r e

-- e is called for in the region r by what the owner has
abbrev pub IsCalled : Owner → ℕ → ℕ → Type 0
IsCalled o r e = IsCalledFor o.problem (Has o) r e

-- nothing is left to do: it has all that is called for in its regions
abbrev pub IsDone : Owner → Type 0
IsDone o = IsSaturated o.problem o.cut o.me (list_in o)

-- the part of its log that owner j receives
abbrev pub part_for : Owner → ℕ → List Growth
part_for o j = part o.problem o.cut j o.log

-- how many growths of that part were given to it
abbrev pub given_to : Owner → ℕ → ℕ
given_to o j = slice_index_or o.given j 0

-- how many pairs of a region and an element there are
abbrev pub pair_count : Problem → ℕ
pair_count q = q.regions * element_count q.graph

-- the owner has the base elements of its regions
abbrev pub HasBases : Owner → Type 0
HasBases o = (r e : ℕ) → owner_of o.cut r ≡ o.me → IsBase o.problem r e → Has o r e

-- the growth is in its log or in what it received
abbrev pub IsNoted : Owner → Growth → Type 0
IsNoted o g = Contains o.log g ⊎ ((j : ℕ) × Contains (received_from o j) g)

-- What is true of an owner at every moment, even after a call of it was refused.
pub record IsSoundOwner (o : Owner) : Type 0 where
  pub problem : IsSoundProblem o.problem
  pub cut : IsCutOf o.problem o.cut
  pub me : o.me < o.cut.owners
  pub well_formed : IsWellFormedLog o.cut o.me o.log
  pub supported : IsWellSupported o.problem (list_in o) o.log
  pub based : o.loaded ≡ true → HasBases o
  -- its growths are of elements of the problem, and there are no more of them than pairs
  pub elements : (g : Growth) → Contains o.log g → g.element < element_count o.problem.graph
  pub few : length o.log ≤ pair_count o.problem
  -- it received only what it reads, from the owner of the region
  pub senders : length o.received ≡ o.cut.owners
  pub heard :
      (j : ℕ) (g : Growth) → Contains (received_from o j) g
      → (owner_of o.cut g.region ≡ j) × (reads o.problem o.cut o.me g.region ≡ true)
  -- no rank is above its clock
  pub own_ranks : (g : Growth) → Contains o.log g → g.rank ≤ o.clock
  pub heard_ranks : (j : ℕ) (g : Growth) → Contains (received_from o j) g → g.rank ≤ o.clock
  -- no rank that it received is 2^61 or above, and its clock is at most the highest that it
  -- received and the number of its own growths together
  pub early : (j : ℕ) (g : Growth) → Contains (received_from o j) g → g.rank < 2 ^ 61
  pub paced :
      (n : ℕ) → ((j : ℕ) (g : Growth) → Contains (received_from o j) g → g.rank ≤ n)
      → o.clock ≤ n + length o.log
  -- its clock is the rank of a growth, and each rank of its own is one above that of another growth
  pub top : (o.clock ≡ 0) ⊎ ((h : Growth) × IsNoted o h × (h.rank ≡ o.clock))
  pub steps :
      (g : Growth) → Contains o.log g → 1 < g.rank
      → (h : Growth) × IsNoted o h × (h.rank + 1 ≡ g.rank)
  -- it gave no more than there is
  pub receivers : length o.given ≡ o.cut.owners
  pub given : (j : ℕ) → given_to o j ≤ length (part_for o j)

-- Owner i may receive the growth from owner j: it is of a region of j that i reads, and of an
-- element of the problem, and its rank is below 2^61, as the ranks of all growths of a run are.
pub record Passes (q : Problem) (c : Cut) (i j : ℕ) (g : Growth) : Type 0 where
  pub sender : owner_of c g.region ≡ j
  pub read : reads q c i g.region ≡ true
  pub element : g.element < element_count q.graph
  pub rank : g.rank < 2 ^ 61

-- it was loaded, or a call of it was refused
abbrev pub IsReadyOwner : Owner → Type 0
IsReadyOwner o = o.broken ≡ false → o.loaded ≡ true

-- the lists with one more growth from owner j
abbrev pub with_growth : List (List Growth) → ℕ → Growth → List (List Growth)
with_growth received j g = slice_set received j (slice_index_or received j [] ++ g ∷ [])

-- an owner that has done nothing yet
abbrev pub first_owner : Problem → Cut → ℕ → Owner
first_owner q c i = record {
  problem = q;
  cut = c;
  me = i;
  log = [];
  received = replicate c.owners [];
  given = replicate c.owners 0;
  clock = 0;
  loaded = false;
  broken = false;
}
