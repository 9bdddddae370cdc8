use Rattle.std.proofs.Common.{sym, ◌∙◌, arith}
use Rattle.std.proofs.lemmas.Bool.{false≢true}
use Rattle.nll_core.proofs.ReturnLemmas.{returns_more, returns_same, returns_all}
use Rattle.nll_core.proofs.frontiers.landings.return_points.Goals as goal
use Rattle.nll_core.proofs.frontiers.landings.return_points.Goals.{then-is_return+in_ok-push, else-is_return}

pub loop-point-preserved : goal.loop-point-preserved
loop-point-preserved c = elim c.if-is_return.branch [
  | then-is_return+in_ok-push w ↦ rw (w.points-is, w.in_ok-push.ensures.items)
      (returns_more c.args.graph.now c.loop-point.point c.loop-point.points.items
      c.loop-point.invariant (c.is_return.ensures.0 w.if-is_return.true))
  | else-is_return w ↦ rw w.points-is
      (returns_same c.args.graph.now c.loop-point.point c.loop-point.points.items c.loop-point.invariant
      (λ h. false≢true (sym w.if-is_return.false ∙ c.is_return.ensures.1 h)))
]

pub returns : goal.returns
returns c =
    returns_all c.args.graph.now c.points-point-end.ensures.sound c.loop-point.point c.loop-point.points.items
    (omega (arith, c.loop-point-test.false, c.loop-point.auto.point-end, c.points-point-end.ensures.value))
    c.loop-point.invariant
