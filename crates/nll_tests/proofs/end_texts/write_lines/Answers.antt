use Rattle.std.proofs.Common.{refl}
use Rattle.nll_format.proofs.LinesLemmas.{body_short}
use Rattle.nll_tests.proofs.end_texts.write_lines.Goals as goal

pub read_lines-read-requires : goal.read_lines-read-requires
read_lines-read-requires c κs =
    let headed = c.in_ok-body.ensures.ok in (
      (refl, tt),
      (tt, (refl, (c.in_ok-body.ensures.few, body_short c.args.text.now headed.header _ headed.cut))),
    )
