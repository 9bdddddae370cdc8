use Rattle.std.proofs.Common.{◌≡◌, ◌++◌, take}
use Rattle.std.specs.Prelude.{string_bytes}
use Rattle.std.specs.List.{flat_map}
use Rattle.nll_answer.specs.Report.{fault_line}
use Rattle.nll_answer.proofs.faults_report.faults_text.Given as goal

abbrev pub invariant-loop-longer : goal.invariant-loop-longer
invariant-loop-longer l =
    string_bytes l.out ≡ string_bytes l.initial.out ++ flat_map (fault_line l.labels) (take l.longer-index l.faults)
