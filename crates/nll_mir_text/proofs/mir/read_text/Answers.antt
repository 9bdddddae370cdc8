use Rattle.std.proofs.Common.{inr, rules}
use Rattle.std.proofs.lemmas.Result.{err_from_is_err_and}
use Rattle.nll_text.specs.Lines.{lines_left}
use Rattle.nll_format.specs.Lines.{AreShort}
use Rattle.nll_format.specs.Text.{IsHeaded}
use Rattle.nll_format.proofs.LinesLemmas.{body_short}
use Rattle.nll_mir_text.specs.MirText.{mir}
use Rattle.nll_mir_text.proofs.VersionLemmas.{refused_at_header, refused_in, refused_uncut}
use Rattle.nll_mir_text.proofs.mir.read_text.Goals as goal
use Rattle.nll_mir_text.proofs.mir.read_text.Goals.{In-Some}

pub returns-in_err-header-clause-fault : goal.returns-in_err-header-clause-fault
returns-in_err-header-clause-fault c =
    let p = err_from_is_err_and c.from_residual.result c.from_residual.ensures.1 in
    rw (p.1, p.2) (refused_uncut _ _ c.in_err-header.ensures.fault)

pub returns-in_default-clause-fault : goal.returns-in_default-clause-fault
returns-in_default-clause-fault c =
    inr (refused_at_header _ _ _ c.in_ok-header.ensures.cut c.in_ok-header.ensures.utf8
    (rw c.in_default.is at c.header_version.ensures))

-- the text has the header of the version
headed : (c : In-Some) → IsHeaded (mir c.in-Some.version) c.args.text.now (lines_left c.in_ok-header.body)
headed c = record {
  header = c.in_ok-header.header.now;
  cut = c.in_ok-header.ensures.cut;
  utf8 = c.in_ok-header.ensures.utf8;
  is_header = c.in-Some.ensures;
}

pub read_lines-requires : goal.read_lines-requires
read_lines-requires c =
    let few = c.in_ok-header.ensures.few in
    let short : AreShort (lines_left c.in_ok-header.body) =
    body_short c.args.text.now c.in_ok-header.header.now _ c.in_ok-header.ensures.cut in
    search rules

pub returns-in-Err-read_lines-clause-fault : goal.returns-in-Err-read_lines-clause-fault
returns-in-Err-read_lines-clause-fault c =
    let h = headed (goal.at.returns-in-Err-read_lines-clause-fault c).In-Some in
    refused_in _ _ _ _ h (c.in-Err-read_lines.ensures.fault c.args.text.now h)

pub returns-clause-ok : goal.returns-clause-ok
returns-clause-ok c =
    let read = c.in_default-read_lines.ensures.read in (
      c.in-Some.version,
      read.0,
      record {
        body = lines_left c.in_ok-header.body;
        headed = headed (goal.at.returns-clause-ok c).In-Some;
        fine = read.1;
        ended = read.2;
      },
      read.3,
    )
