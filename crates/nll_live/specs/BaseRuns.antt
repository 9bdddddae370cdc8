-- Runs of base elements that variables ask for. Source: project's choice. Only private contracts
-- cite this file.
use Rattle.std.specs.Prelude.{◌⊎◌, ◌↔◌, ℕ, List}
use Rattle.nll_problem.specs.BaseRuns.{IsInBaseRuns}
use Rattle.nll_problem.specs.declared.base_run.BaseRun.{BaseRun}

-- the runs got exactly what this says
abbrev pub GainsRuns : (ℕ → ℕ → Type 0) → List BaseRun → List BaseRun → Type 0
GainsRuns kind old new = (r p : ℕ) → IsInBaseRuns new r p ↔ (IsInBaseRuns old r p ⊎ kind r p)
