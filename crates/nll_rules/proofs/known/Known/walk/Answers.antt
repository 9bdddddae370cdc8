use Rattle.std.proofs.Common.{◌<◌, Option, Some, None, length, refl, sym, subst, arith}
use Rattle.nll_types.specs.Types.{TypeTree}
use Rattle.nll_body.specs.Flat.{path_in}
use Rattle.nll_rules.specs.Knowing.{IsAtHand}
use Rattle.nll_rules.proofs.KnowingLemmas.{learns_then}
use Rattle.nll_rules.proofs.KnownLemmas.{row_none, row_there}
use Rattle.nll_rules.proofs.ReborrowLemmas.{way_on, way_stops, way_ends}
use Rattle.nll_rules.proofs.known.Known.walk.Goals as goal

pub returns-in_err-next-clause-learns : goal.returns-in_err-next-clause-learns
returns-in_err-next-clause-learns c =
    learns_then _ _ _ c.loop-projection.invariant.0 c.step.ensures.learns

pub returns-in-None : goal.returns-in-None
returns-in-None c =
    let e = rw c.statements-statements.ensures at c.projections-projection-items.ensures in
    let on = c.loop-projection.invariant in
    let k = c.args.self.now in
    let n = c.loop-projection.projection-index in
    let l : n < length (path_in k.lists c.args.place).projections = rw e at c.loop-projection-test.true in
    let row = rw (c.in-None.is, e, on.0.structs) at c.in_ok-next.ensures.row in
    let past = rw e at c.in_ok-next.ensures.past in
    let stops = way_stops k.structs k.variables (path_in k.lists c.args.place) n _ _ on.1
    c.loop-projection.crossed.items _ l refl (sym (row_none _ _ _ _ (row on.1 on.2))) (past on.1 on.2) on.3 in record {
      learns = learns_then _ _ _ on.0 c.step.ensures.learns;
      row = subst (λ (o : Option TypeTree). IsAtHand c.step.new.self o None) stops.0 refl;
      rests = stops.1;
    }

pub loop-projection-preserved : goal.loop-projection-preserved
loop-projection-preserved c =
    let e = rw c.statements-statements.ensures at c.projections-projection-items.ensures in
    let on = c.loop-projection.invariant in
    let k = c.args.self.now in
    let n = c.loop-projection.projection-index in
    let l : n < length (path_in k.lists c.args.place).projections = rw e at c.loop-projection-test.true in
    let row = rw (c.in-Some-2.is, e, on.0.structs) at c.in_ok-next.ensures.row in
    let past = rw e at c.in_ok-next.ensures.past in
    let next = row_there _ _ _ _ _ (row on.1 on.2) in (
      learns_then k c.loop-projection.self c.step.new.self on.0 c.step.ensures.learns,
      next.0,
      next.2,
      way_on k.structs k.variables (path_in k.lists c.args.place) n _ _ on.1 next.0 c.loop-projection.crossed.items _ l
          refl (sym {b = Some next.0} next.1) (past on.1 on.2) on.3,
    )

pub returns : goal.returns
returns c =
    let e = rw c.statements-statements.ensures at c.projections-projection-items.ensures in
    let on = c.loop-projection.invariant in
    let k = c.args.self.now in
    let n = c.loop-projection.projection-index in
    let l = rw e at c.loop-projection-test.false in
    let ends = way_ends k.structs k.variables (path_in k.lists c.args.place) n on.1 c.loop-projection.crossed.items
    (omega (arith, l)) on.3 in record {
      learns = on.0;
      row = subst (λ (o : Option TypeTree). IsAtHand c.loop-projection.self o (Some c.loop-projection.row)) ends.0 on.2;
      rests = ends.1;
    }
