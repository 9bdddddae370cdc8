use Rattle.std.proofs.Common.{◌∷◌, ◌++◌, ap, ◌∙◌}
use Rattle.std.specs.List.{flat_map}
use Rattle.nll_answer.specs.Report.{element_text}
use Rattle.nll_answer.proofs.ReportLemmas.{line_put}
use Rattle.nll_answer.proofs.values_report.push_line.Goals as goal

pub returns : goal.returns
returns c =
    line_put _ _ _ _ _ _ _ _ c.in_ok-extend_from_slice.ensures.items
    (c.in_ok-extend_from_slice-2.ensures.items
    ∙ ap (λ xs. c.extend_from_slice.new.self.items ++ xs) (c.as_bytes.ensures.value ∙ c.region.ensures))
    c.in_ok-extend_from_slice-3.ensures.items
    (c.in_ok-push_runs.ensures ∙ ap (λ xs. c.extend_from_slice-3.new.self.items ++ flat_map
    (λ e. 32 ∷ element_text c.args.labels.now c.args.points e) xs) c.runs.ensures.listed)
    c.in_ok-extend_from_slice-4.ensures.items
