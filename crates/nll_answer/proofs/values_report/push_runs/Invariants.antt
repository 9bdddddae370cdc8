use Rattle.std.proofs.Common.{◌≡◌, ◌++◌, ◌∷◌, take}
use Rattle.std.specs.List.{flat_map}
use Rattle.nll_sets.specs.Runs.{numbers_in}
use Rattle.nll_answer.specs.Report.{element_text}
use Rattle.nll_answer.proofs.values_report.push_runs.Given as goal

abbrev pub invariant-loop-run : goal.invariant-loop-run
invariant-loop-run l =
    l.out.items ≡ l.fn.out.items ++ flat_map (λ e. 32 ∷ element_text l.labels l.points e)
    (numbers_in (take l.run-index l.runs))
