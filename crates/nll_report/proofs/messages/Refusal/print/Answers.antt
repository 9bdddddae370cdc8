use Rattle.std.proofs.Common.{ap, sym, codes, ◌∙◌, ◌++◌, ◌∷◌, []}
use Rattle.nll_report.specs.Refusal.{refusal_line}
use Rattle.nll_report.proofs.SinkLemmas.{cut_as, put_as}
use Rattle.nll_report.proofs.messages.Refusal.print.Goals as goal

pub returns-in-Usage-clause-cut : goal.returns-in-Usage-clause-cut
returns-in-Usage-clause-cut g c =
    cut_as c.put_pieces.result _ _ _ _ _ (ap refusal_line c.in-Usage.is) c.put_pieces.ensures.cut

pub returns-in-Memory-clause-all : goal.returns-in-Memory-clause-all
returns-in-Memory-clause-all g c =
    put_as c.put_pieces-in-Memory.result _ _ _ _ (ap refusal_line c.in-Memory.is) c.put_pieces-in-Memory.ensures.all

pub returns-in-Memory-clause-cut : goal.returns-in-Memory-clause-cut
returns-in-Memory-clause-cut g c =
    cut_as c.put_pieces-in-Memory.result _ _ _ _ _ (ap refusal_line c.in-Memory.is) c.put_pieces-in-Memory.ensures.cut

pub returns-in-CannotWrite-clause-all : goal.returns-in-CannotWrite-clause-all
returns-in-CannotWrite-clause-all g c =
    put_as c.put_pieces-in-CannotWrite.result _ _ _ _
    (ap refusal_line c.in-CannotWrite.is) c.put_pieces-in-CannotWrite.ensures.all

pub returns-in-CannotWrite-clause-cut : goal.returns-in-CannotWrite-clause-cut
returns-in-CannotWrite-clause-cut g c =
    cut_as c.put_pieces-in-CannotWrite.result _ _ _ _ _
    (ap refusal_line c.in-CannotWrite.is) c.put_pieces-in-CannotWrite.ensures.cut

pub returns-in-CutLength-clause-all : goal.returns-in-CutLength-clause-all
returns-in-CutLength-clause-all g c =
    put_as c.put_pieces-in-CutLength.result _ _ _ _
    (ap refusal_line c.in-CutLength.is) c.put_pieces-in-CutLength.ensures.all

pub returns-in-CutLength-clause-cut : goal.returns-in-CutLength-clause-cut
returns-in-CutLength-clause-cut g c =
    cut_as c.put_pieces-in-CutLength.result _ _ _ _ _
    (ap refusal_line c.in-CutLength.is) c.put_pieces-in-CutLength.ensures.cut

pub returns-in-Thread-clause-all : goal.returns-in-Thread-clause-all
returns-in-Thread-clause-all g c =
    put_as c.put_pieces-in-Thread.result _ _ _ _ (ap refusal_line c.in-Thread.is) c.put_pieces-in-Thread.ensures.all

pub returns-in-Thread-clause-cut : goal.returns-in-Thread-clause-cut
returns-in-Thread-clause-cut g c =
    cut_as c.put_pieces-in-Thread.result _ _ _ _ _ (ap refusal_line c.in-Thread.is) c.put_pieces-in-Thread.ensures.cut

pub returns-in-CannotRead-clause-all : goal.returns-in-CannotRead-clause-all
returns-in-CannotRead-clause-all g c =
    put_as c.put_pieces-in-CannotRead.result _ _ _ _
    (ap refusal_line c.in-CannotRead.is
    ∙ ap (λ path. codes "nllc: cannot read " ++ path ++ 10 ∷ []) (sym c.as_str.ensures.value))
    c.put_pieces-in-CannotRead.ensures.all

pub returns-in-CannotRead-clause-cut : goal.returns-in-CannotRead-clause-cut
returns-in-CannotRead-clause-cut g c =
    cut_as c.put_pieces-in-CannotRead.result _ _ _ _ _
    (ap refusal_line c.in-CannotRead.is
    ∙ ap (λ path. codes "nllc: cannot read " ++ path ++ 10 ∷ []) (sym c.as_str.ensures.value))
    c.put_pieces-in-CannotRead.ensures.cut
