use Rattle.std.proofs.Common.{ap, ◌∙◌, arith}
use Rattle.std.proofs.lemmas.Result.{err_from_is_err_and}
use Rattle.nll_problem.specs.Problem.{Problem}
use Rattle.nll_rules.proofs.PointLemmas.{before_none, before_more, before_all, before_refused}
use Rattle.nll_rules.proofs.constraints.add_points.Goals as goal

pub loop-point-init : goal.loop-point-init
loop-point-init c =
    record {
      adds = before_none c.args.body.now c.args.builder.now;
      known = c.requires.known;
    }

pub add_next-requires-clause-sound : goal.add_next-requires-clause-sound
add_next-requires-clause-sound c = c.points-point-end.ensures.sound

pub add_next-requires-clause-points : goal.add_next-requires-clause-points
add_next-requires-clause-points c = ap (λ (q : Problem). q.graph.points) c.loop-point.invariant.adds.others
    ∙ c.requires.points

pub add_next-requires-clause-regions : goal.add_next-requires-clause-regions
add_next-requires-clause-regions c = ap (λ (q : Problem). q.regions) c.loop-point.invariant.adds.others
    ∙ c.requires.regions

pub loop-point-preserved : goal.loop-point-preserved
loop-point-preserved c = record {
  adds = before_more c.args.body.now c.loop-point.point c.args.builder.now c.loop-point.builder
      c.add_next.new.builder c.loop-point.invariant.adds c.in_ok-add_next.ensures.ok;
  known = c.in_ok-add_next.ensures.known;
}

pub add_next-requires-clause-known : goal.add_next-requires-clause-known
add_next-requires-clause-known c = c.loop-point.invariant.known

pub returns-clause-ok : goal.returns-clause-ok
returns-clause-ok c =
    before_all c.args.body.now c.loop-point.point c.args.builder.now c.loop-point.builder
    (omega (arith, c.points-point-end.ensures.value)) c.loop-point.invariant.adds

pub returns-in_err-add_next-clause-err : goal.returns-in_err-add_next-clause-err
returns-in_err-add_next-clause-err c =
    let p = err_from_is_err_and c.from_residual.result c.from_residual.ensures.1 in
    rw (p.1, p.2) (before_refused c.args.body.now c.loop-point.point c.args.builder.now c.loop-point.builder
    _ c.loop-point.invariant.adds c.in_err-add_next.ensures.err)
