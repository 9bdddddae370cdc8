-- What runs of elements say of regions. Source: project's choice. Only private contracts cite this
-- file.
use Rattle.std.specs.Prelude.{◌≡◌, ◌⊎◌, ℕ, ◌<◌, ◌≤◌, List, length, Contains, slice_index_or}
use Rattle.nll_sets.specs.Runs.{IsWithin}
use Rattle.nll_sets.specs.declared.run.Run.{Run}
use Rattle.nll_mail.specs.declared.growth.Growth.{Growth}
use Rattle.nll_owner.specs.Logs.{IsTold}
use Rattle.nll_owner.specs.Owner.{Owner, Has, IsSoundOwner}
use Rattle.nll_owner.specs.Keeping.{IsSlot}
use Rattle.nll_owner.specs.declared.link.Due.{Due}
use Rattle.nll_owner.specs.declared.region_runs.RegionRun.{RegionRun}

-- one of the runs says that the region r has e
abbrev pub IsToldByRuns : List RegionRun → ℕ → ℕ → Type 0
IsToldByRuns runs r e =
    (k : RegionRun) × Contains runs k × (k.region ≡ r) × (k.run.first ≤ e) × (e ≤ k.run.last)

-- each of the runs has an element
abbrev pub AreProper : List RegionRun → Type 0
AreProper runs = (k : RegionRun) → Contains runs k → k.run.first ≤ k.run.last

-- The runs say what the growths say, and nothing else.
pub record TellTheSame (growths : List Growth) (runs : List RegionRun) : Type 0 where
  pub proper : AreProper runs
  pub each : (r e : ℕ) → IsTold growths r e → IsToldByRuns runs r e
  pub cause : (r e : ℕ) → IsToldByRuns runs r e → IsTold growths r e

-- A list says what it said before and what a run says, and nothing else.
pub record SaysRun (run : RegionRun) (old new : List RegionRun) : Type 0 where
  pub proper : AreProper new
  pub kept : (r e : ℕ) → IsToldByRuns old r e → IsToldByRuns new r e
  pub here : (e : ℕ) → IsWithin run.run e → IsToldByRuns new run.region e
  pub cause :
      (r e : ℕ) → IsToldByRuns new r e
      → IsToldByRuns old r e ⊎ ((run.region ≡ r) × IsWithin run.run e)

-- Each of the runs is of elements that the owner has in a region of the problem.
pub record AreHeld (o : Owner) (runs : List RegionRun) : Type 0 where
  pub proper : AreProper runs
  pub regions : (k : RegionRun) → Contains runs k → k.region < o.problem.regions
  pub has :
      (k : RegionRun) → Contains runs k → (e : ℕ) → IsWithin k.run e → Has o k.region e

-- The owner is sound and holds the region of what is due; the steps are those of its graph, and so
-- much of its log was followed up.
pub record IsInside (o : Owner) (d : Due) : Type 0 where
  pub sound : IsSoundOwner o
  pub steps : d.steps.now ≡ o.problem.graph
  pub slot : IsSlot o d.slot d.region
  pub place : d.place ≤ length o.log

-- The first runs of the list are due to the links that read a region, which the owner holds: they
-- are of this region. The owner has what the list says.
pub record AreDue (o : Owner) (d : Due) : Type 0 where
  pub inside : IsInside o d
  pub some : 0 < d.count
  pub count : d.count ≤ length d.runs.now
  pub first :
      (n : ℕ) (k : RegionRun) → n < d.count → slice_index_or d.runs.now n k ≡ k
      → k.region ≡ d.region
  pub held : AreHeld o d.runs.now

-- The owner has the elements of a run in the region r, and there are some.
pub record HasRun (o : Owner) (r : ℕ) (run : Run) : Type 0 where
  pub proper : run.first ≤ run.last
  pub has : (x : ℕ) → IsWithin run x → Has o r x
