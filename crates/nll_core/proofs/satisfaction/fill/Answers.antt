use Rattle.std.proofs.Common.{◌↔◌, ℕ, List, Bool, subst, sym}
use Rattle.std.proofs.lemmas.Result.{on_ok_weaker}
use Rattle.nll_sets.specs.Runs.{IsInRuns, MakeUp}
use Rattle.nll_sets.specs.declared.run.Run.{Run}
use Rattle.nll_problem.specs.At.{IsAmong}
use Rattle.nll_problem.specs.Graph.{Graph}
use Rattle.nll_problem.specs.declared.constraint.Constraint.{Constraint}
use Rattle.nll_core.specs.Search.{IsIn}
use Rattle.nll_core.specs.Values.{set_of}
use Rattle.nll_core.specs.Walking.{IsAskedOf, AreAskedOf}
use Rattle.nll_core.proofs.GrowingLemmas.{gains_weaker}
use Rattle.nll_core.proofs.LedWalkLemmas.{among_points, whole_asked}
use Rattle.nll_core.proofs.satisfaction.fill.Goals as goal
use Rattle.nll_core.proofs.satisfaction.fill.Goals.{After-fill_whole, After-fill_all}

pub reach-requires-clause-points : goal.reach-requires-clause-points
reach-requires-clause-points c = among_points c.lines.result.now c.args.pair.now.constraints.now
    (λ k h. subst (λ (g : Graph). IsAmong g.points k.at) (sym c.lines.ensures)
    (c.regions-regions.ensures.sound.constraint_points k (c.requires.pair k h).0))
    (c.is_everywhere.ensures.none c.if-is_everywhere.false)

-- what runs have that make up what is asked for
made_up : (g : Graph) (sub : List Bool) (pair : List Constraint) (runs : List Run) (found : List Bool)
    → MakeUp runs found → AreAskedOf g sub pair found → (e : ℕ) → IsInRuns runs e ↔ IsAskedOf g sub pair e
made_up g sub pair runs found make_up asked e = (λ h. (asked e).0 ((make_up e).0 h), λ w. (make_up e).1 ((asked e).1 w))

-- at all points, it is all that the region has
whole : (c : After-fill_whole) → (e : ℕ)
    → IsIn (set_of c.args.values.now c.args.pair.now.sub) e
    ↔ IsAskedOf c.args.problem.now.graph (set_of c.args.values.now c.args.pair.now.sub)
    c.args.pair.now.constraints.now e
whole c =
    whole_asked c.args.problem.now.graph (set_of c.args.values.now c.args.pair.now.sub) c.args.pair.now.constraints.now
    (c.is_everywhere.ensures.some c.if-is_everywhere.true)

pub returns-then-is_everywhere-clause-gains : goal.returns-then-is_everywhere-clause-gains
returns-then-is_everywhere-clause-gains c =
    on_ok_weaker c.fill_whole.result (λ gains. gains_weaker _ _ (λ r e h. (h.0, (whole c e).0 h.1)) _ _ gains)
    c.fill_whole.ensures.gains

pub returns-then-is_everywhere-clause-asks : goal.returns-then-is_everywhere-clause-asks
returns-then-is_everywhere-clause-asks c =
    on_ok_weaker c.fill_whole.result (λ covers e h. covers e ((whole c e).1 h)) c.fill_whole.ensures.covers

-- else they are of what walks reach
walked : (c : After-fill_all) → (e : ℕ)
    → IsInRuns c.as_runs.result.now e ↔ IsAskedOf c.args.problem.now.graph
    (set_of c.args.values.now c.args.pair.now.sub) c.args.pair.now.constraints.now e
walked c =
    made_up c.args.problem.now.graph (set_of c.args.values.now c.args.pair.now.sub) c.args.pair.now.constraints.now
    c.as_runs.result.now
    c.reach.new.self.reached c.as_runs.ensures.make_up
    (subst (λ (of : Graph × List Bool). AreAskedOf of.0 of.1 c.args.pair.now.constraints.now c.reach.new.self.reached)
    (λ i. (c.lines.ensures i, c.set.ensures i)) c.in_ok-reach.ensures.reached)

pub returns-clause-gains : goal.returns-clause-gains
returns-clause-gains c =
    on_ok_weaker c.fill_all.result (λ gains. gains_weaker _ _ (λ r e h. (h.0, (walked c e).0 h.1)) _ _ gains)
    c.fill_all.ensures.gains

pub returns-clause-asks : goal.returns-clause-asks
returns-clause-asks c =
    on_ok_weaker c.fill_all.result (λ covers e h. covers e ((walked c e).1 h)) c.fill_all.ensures.covers
