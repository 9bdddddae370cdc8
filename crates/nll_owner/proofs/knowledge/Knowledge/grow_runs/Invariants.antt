use Rattle.std.proofs.Common.{ℕ, ◌<◌, ◌≤◌}
use Rattle.nll_sets.specs.Runs.{first_of, last_of}
use Rattle.nll_owner.specs.Owner.{Has}
use Rattle.nll_owner.specs.Keeping.{OwnerGrows}
use Rattle.nll_owner.proofs.knowledge.Knowledge.grow_runs.Given as goal

abbrev pub invariant-loop-run : goal.invariant-loop-run
invariant-loop-run l = record {
  grows : OwnerGrows l.fn.self l.self;
  covers : (k x : ℕ) → k < l.run-index → first_of l.found k ≤ x → x ≤ last_of l.found k → Has l.self l.region x;
}
