use Rattle.std.proofs.lemmas.List.{append_assoc}
use Rattle.nll_report.proofs.SinkLemmas.{cut_as, put_as}
use Rattle.nll_report.proofs.messages.print_fault.Goals as goal

pub returns-clause-all : goal.returns-clause-all
returns-clause-all g c =
    put_as c.put_pieces.result _ _ _ _ (simp (append_assoc, c.format-line.ensures.text, c.kind_text.ensures))
    c.put_pieces.ensures.all

pub returns-clause-cut : goal.returns-clause-cut
returns-clause-cut g c =
    cut_as c.put_pieces.result _ _ _ _ _
    (simp (append_assoc, c.format-line.ensures.text, c.kind_text.ensures)) c.put_pieces.ensures.cut
