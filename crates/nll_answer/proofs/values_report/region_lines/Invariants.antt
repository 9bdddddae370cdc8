use Rattle.std.proofs.Common.{◌≡◌}
use Rattle.nll_sets.specs.ElementSet.{elements}
use Rattle.nll_core.specs.Values.{set_of}
use Rattle.nll_answer.specs.Report.{value_lines}
use Rattle.nll_answer.proofs.values_report.region_lines.Given as goal

abbrev pub invariant-loop-number : goal.invariant-loop-number
invariant-loop-number l = l.out.items ≡ value_lines l.points l.number l.labels (λ r. elements (set_of l.values r))
