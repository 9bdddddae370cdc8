use Rattle.std.proofs.Common.{◌+◌, ℕ, length, subst, sym}
use Rattle.nll_live.specs.Kinds.{KeepsAt}
use Rattle.nll_live.specs.Live.{IsLive}
use Rattle.nll_live.proofs.SetLemmas.{AreSetsUpTo, sets_step}
use Rattle.nll_live.proofs.live_sets.sets_of.Goals as goal

pub loop-variable-preserved : goal.loop-variable-preserved
loop-variable-preserved c =
    let body = c.args.ways.now.body.now in
    let x : ℕ = c.loop-variable.variable in
    let holds : ℕ → ℕ → Type 0 = λ y. IsLive body (KeepsAt c.args.kind body y) y in
    record {
      room = c.in_ok-live_points.ensures.room;
      sets = subst (AreSetsUpTo (length body.points) holds (x + 1)) (sym c.in_ok-push.ensures.items)
          (sets_step (length body.points) holds x c.loop-variable.sets.items _
          c.loop-variable.invariant.sets c.in_ok-live_points.ensures.width c.in_ok-live_points.ensures.each);
    }
