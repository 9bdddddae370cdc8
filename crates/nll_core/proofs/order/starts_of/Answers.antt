use Rattle.std.proofs.Common.{ap, sym, arith}
use Rattle.nll_problem.specs.declared.constraint.Constraint.{Constraint}
use Rattle.nll_core.proofs.order.starts_of.Goals as goal

pub index_mut-requires : goal.index_mut-requires
index_mut-requires c =
    let k = c.index-constraints-place.result in
    let own = c.requires k (c.loop-place.place, c.loop-place-test.true, sym c.index-constraints-place.is) in
    omega (
      arith,
      own.0,
      ap (λ (d : Constraint). d.sub) c.index-constraints-place.is,
      c.sub.view_is,
      c.loop-place.invariant,
      c.loop-place.starts.ok.0,
    )
