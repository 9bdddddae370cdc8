use Rattle.nll_problem.specs.Merging.{Merging}
use Rattle.nll_problem.proofs.merged_runs.merge.Given as goal

abbrev pub invariant-loop-place : goal.invariant-loop-place
invariant-loop-place l = Merging l.initial.runs.items l.runs.items l.kept l.place
