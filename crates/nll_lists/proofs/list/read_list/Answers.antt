use Rattle.std.proofs.Common.{refl}
use Rattle.std.proofs.lemmas.Result.{err_from_is_err_and}
use Rattle.nll_format.specs.Listing.{format_of}
use Rattle.nll_format.proofs.LinesLemmas.{body_short}
use Rattle.nll_format.proofs.ReadingLemmas.{unopened_refused}
use Rattle.nll_lists.proofs.list.read_list.Goals as goal

pub returns-in_err-body-clause-fault : goal.returns-in_err-body-clause-fault
returns-in_err-body-clause-fault g c =
    let p = err_from_is_err_and c.from_residual.result c.from_residual.ensures.1 in
    rw (p.1, p.2)
    (unopened_refused (format_of (g.F.ListFormat.listing c.args.format.now)) _ _
    (rw (c.kind.ensures, c.version.ensures) at c.in_err-body.ensures.fault))

pub read_lines-requires : goal.read_lines-requires
read_lines-requires g c κs =
    let headed = c.in_ok-body.ensures.ok in (
      (refl, tt),
      (
        tt,
        (
          rw c.new.ensures.items refl,
          (
            c.in_ok-body.ensures.few,
            body_short c.args.text.now headed.header _ headed.cut,
          ),
        ),
      ),
    )
