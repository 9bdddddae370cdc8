use Rattle.std.proofs.Common.{◌≡◌, ◌++◌, ◌∷◌, ◌-◌, ◌≤◌}
use Rattle.std.specs.List.{flat_map, range_with_len}
use Rattle.nll_answer.specs.Report.{element_text}
use Rattle.nll_answer.proofs.values_report.push_run.Given as goal

abbrev pub invariant-loop-number : goal.invariant-loop-number
invariant-loop-number l =
    (l.fn.run.first ≤ l.number) × (l.out.items
    ≡ l.fn.out.items ++ flat_map (λ e. 32 ∷ element_text l.labels l.points e)
    (range_with_len l.fn.run.first (l.number - l.fn.run.first)))
