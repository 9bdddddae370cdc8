use Rattle.std.proofs.Common.{◌+◌, None}
use Rattle.std.specs.Prelude.{slice_index_or}
use Rattle.nll_answer.specs.ReplayReport.{answer_line}
use Rattle.nll_answer.proofs.ReplayLemmas.{answers_more}
use Rattle.nll_answer.proofs.replay_report.push_answers.Goals as goal

pub loop-index-preserved : goal.loop-index-preserved
loop-index-preserved c =
    answers_more (λ k. answer_line (k + 1) (slice_index_or c.args.answers.now k None)) c.loop-index.index _ _ _
    c.loop-index.invariant c.in_ok-push_answer.ensures
