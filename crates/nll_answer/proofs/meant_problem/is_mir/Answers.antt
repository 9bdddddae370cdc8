use Rattle.nll_text.specs.Lines.{lines_left}
use Rattle.nll_answer.proofs.MeaningLemmas.{header_of}
use Rattle.nll_answer.proofs.meant_problem.is_mir.Goals as goal

pub returns : goal.returns
returns c =
    let header = c.next_line.result.0.now in
    let body = lines_left c.next_line.result.1 in (
      λ h. (header, body, c.next_line.ensures, c.is_mir_header.ensures.0 h),
      λ of. c.is_mir_header.ensures.1 (header_of c.args.text.now header body c.next_line.ensures of),
    )
