-- Why a run is refused. Only private contracts cite this file. Source: project's choice.
use Rattle.std.specs.Prelude.{◌≡◌, ℕ, List, Option, Some, None, slice_get}
use Rattle.worker.specs.Finishing.{WasStarted}
use Rattle.fixpoint.specs.declared.ending.Ending.{Ending}
use Rattle.fixpoint.specs.declared.ending.Ending.TheVariants.{Quiet, Stopped, Stray}
use Rattle.fixpoint.specs.declared.ending.Ending.TheVariants as endings
use Rattle.run.specs.declared.error.RunError.{RunError}
use Rattle.run.specs.declared.error.RunError.TheVariants as errors

-- the worker found all quiet, was stopped by another, or took what can't be its sender's: none of
-- these is an error of a run by itself
abbrev pub IsCalm : Ending → Type 0
IsCalm Quiet = Unit {0}
IsCalm Stopped = Unit {0}
IsCalm Stray = Unit {0}
IsCalm _ = ⊥

-- a growth of memory was refused to the worker
abbrev pub IsOutOfMemory : Ending → Type 0
IsOutOfMemory endings.Memory = Unit {0}
IsOutOfMemory endings.NoOwner = Unit {0}
IsOutOfMemory _ = ⊥

-- Why a run whose workers ended so is refused, if it is: because a worker wasn't started, or else
-- because one was out of memory.
abbrev pub IsReason : List Ending → Option RunError → Type 0
IsReason all None = (k : ℕ) (e : Ending) → slice_get all k ≡ Some e → IsCalm e
IsReason all (Some errors.Thread) =
    (k : ℕ) × (e : Ending) × (slice_get all k ≡ Some e) × (WasStarted e → ⊥)
IsReason all (Some errors.Memory) =
    ((k : ℕ) (e : Ending) → slice_get all k ≡ Some e → WasStarted e)
    × ((k : ℕ) × (e : Ending) × (slice_get all k ≡ Some e) × IsOutOfMemory e)
