use Rattle.std.proofs.Common.{◌≡◌, ◌+◌, ◌++◌, None}
use Rattle.std.specs.Prelude.{slice_index_or}
use Rattle.std.specs.List.{flat_map, range_with_len}
use Rattle.nll_answer.specs.ReplayReport.{answer_line}
use Rattle.nll_answer.proofs.replay_report.push_answers.Given as goal

abbrev pub invariant-loop-index : goal.invariant-loop-index
invariant-loop-index l =
    l.out.items ≡ l.fn.out.items ++ flat_map (λ k. answer_line (k + 1) (slice_index_or l.answers k None))
    (range_with_len 0 l.index)
