use Rattle.nll_report.specs.Disk.{read_limit}
use Rattle.nll_report.proofs.ReadingLemmas.{read_up}
use Rattle.nll_report.proofs.disk.text_of.Goals as goal

pub returns-clause-text : goal.returns-clause-text
returns-clause-text g c = rw c.in-Ok.is (
    read_up g.F.Read.remaining c.take.result c.in-Ok.file read_limit _ _ c.take.ensures.limit c.take.ensures.inner
    c.in_ok-text.ensures.items c.in_ok-read_to_end.ensures.bytes)
