use Rattle.std.proofs.Common.{arith, sym, ◌∙◌}
use Rattle.nll_text.proofs.WordLemmas.{past_blank}
use Rattle.nll_text.proofs.bytes.behind_gap.Goals as goal

pub loop-rest-preserved : goal.loop-rest-preserved
loop-rest-preserved c =
    let past = past_blank c.args.line.now c.loop-rest.rest.now (omega arith)
    (sym c.is_blank.ensures ∙ c.if-not-is_blank.false) c.loop-rest.invariant.cut in
    record { cut = past.0; tokens = past.1 }
