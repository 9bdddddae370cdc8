use Rattle.std.proofs.Common.{◌∙◌, ap}
use Rattle.std.proofs.lemmas.Result.{IfErr-weaker, err_from_is_err_and, on_ok_weaker}
use Rattle.nll_problem.specs.Problem.{Problem}
use Rattle.nll_rules.specs.Adding.{AddsConstraints}
use Rattle.nll_rules.specs.BodyProblem.{IsAsserted}
use Rattle.nll_rules.proofs.KnowingLemmas.{known_first}
use Rattle.nll_rules.proofs.PointLemmas.{asserted_asked, asserted_refused, asked_refused}
use Rattle.nll_rules.proofs.constraints.add_constraints.Goals as goal
use Rattle.nll_rules.proofs.constraints.add_constraints.Goals.{In_ok-add_everywhere}

pub add_everywhere-requires : goal.add_everywhere-requires
add_everywhere-requires c =
    rw (c.asserts.ensures, c.requires.regions) (λ x h. c.points.ensures.sound.known_asserts x.0 x.1 h)

-- what the body asserts came
asserted : (c : In_ok-add_everywhere)
    → AddsConstraints (IsAsserted c.args.body.now) c.args.builder.now c.add_everywhere.new.builder
asserted c = rw (← c.asserts.ensures) c.in_ok-add_everywhere.ensures.ok

pub new-requires : goal.new-requires
new-requires c = c.typed.ensures.rows.variables

pub add_points-told-requires-clause-known : goal.add_points-told-requires-clause-known
add_points-told-requires-clause-known c =
    let new = c.in_ok-known.ensures in
    known_first c.args.body.now c.typed.result c.in_ok-known.known c.points.ensures.sound c.typed.ensures new.structs
    new.shapes new.regions new.lists new.variables

pub add_points-told-requires-clause-points : goal.add_points-told-requires-clause-points
add_points-told-requires-clause-points c =
    ap (λ (q : Problem). q.graph.points) c.in_ok-add_everywhere.ensures.ok.others ∙ c.requires.points

pub add_points-told-requires-clause-regions : goal.add_points-told-requires-clause-regions
add_points-told-requires-clause-regions c =
    ap (λ (q : Problem). q.regions) c.in_ok-add_everywhere.ensures.ok.others ∙ c.requires.regions

pub returns-clause-ok : goal.returns-clause-ok
returns-clause-ok c =
    let d = goal.at.returns-clause-ok c in
    on_ok_weaker c.add_points-told.result
    (λ h. asserted_asked c.args.body.now c.args.builder.now c.add_everywhere.new.builder c.add_points-told.new.builder
    (asserted d.In_ok-add_everywhere) h)
    c.add_points-told.ensures.ok

pub returns-clause-err : goal.returns-clause-err
returns-clause-err c =
    let d = goal.at.returns-clause-err c in
    IfErr-weaker c.add_points-told.result _ _
    (λ e h. asked_refused c.args.body.now c.args.builder.now c.add_everywhere.new.builder e
    (asserted d.In_ok-add_everywhere) h)
    c.add_points-told.ensures.err

pub returns-in_err-add_everywhere-clause-err : goal.returns-in_err-add_everywhere-clause-err
returns-in_err-add_everywhere-clause-err c =
    let p = err_from_is_err_and c.from_residual.result c.from_residual.ensures.1 in
    rw (p.1, p.2) (asserted_refused c.args.body.now c.args.builder.now _
    (rw (← c.asserts.ensures) c.in_err-add_everywhere.ensures.err))
