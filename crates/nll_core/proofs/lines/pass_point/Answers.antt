use Rattle.std.proofs.lemmas.Result.{IfOk-from_err}
use Rattle.nll_core.proofs.LineLemmas.{ends_on}
use Rattle.nll_core.proofs.lines.pass_point.Goals as goal

pub returns-else-not-goes_on : goal.returns-else-not-goes_on
returns-else-not-goes_on c =
    ends_on c.args.graph.now c.args.point c.args.ends.now.items
    (c.requires.line.0 c.if-not-goes_on.false) c.requires.before

pub returns-in_err-resize : goal.returns-in_err-resize
returns-in_err-resize c = IfOk-from_err c.from_residual.result _ c.from_residual.ensures.0
