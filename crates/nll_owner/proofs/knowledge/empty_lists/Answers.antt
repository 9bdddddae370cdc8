use Rattle.std.proofs.Common.{map, ap}
use Rattle.std.proofs.lemmas.Result.{IfOk-from_err}
use Rattle.nll_owner.proofs.knowledge.empty_lists.Goals as goal

pub loop-init : goal.loop-init
loop-init c = ap (map (λ list. list.items)) c.new-lists.ensures.items

pub returns-in_err-push : goal.returns-in_err-push
returns-in_err-push c = IfOk-from_err c.from_residual.result _ c.from_residual.ensures.0
