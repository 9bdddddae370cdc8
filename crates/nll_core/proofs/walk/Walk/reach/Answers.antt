use Rattle.std.proofs.Common.{◌≡◌, ℕ, [], List, Contains, length, true, false, subst, sym, ◌∙◌, ⊎_elim, arith}
use Rattle.std.proofs.lemmas.Bool.{cases_lt, false_from_ne_true, false≢true}
use Rattle.std.proofs.lemmas.Result.{on_ok_weaker}
use Rattle.nll_sets.specs.ElementSet.{flag}
use Rattle.nll_sets.specs.Runs.{IsRunFrom}
use Rattle.nll_sets.specs.declared.run.Run.{Run}
use Rattle.nll_problem.specs.Graph.{Graph}
use Rattle.nll_problem.specs.declared.constraint.Constraint.{Constraint}
use Rattle.nll_core.specs.Search.{IsIn}
use Rattle.nll_core.specs.Walking.{GrowsByRuns, IsLedFrom, FillsFrom, AreAtPoints, IsPointOf, NoneEverywhere, point_of}
use Rattle.nll_core.proofs.SearchLemmas.{none_in_empty}
use Rattle.nll_core.proofs.LedWalkLemmas.{contained_at, each_contained, entering_more, entering_skip, point_below, reached_points, reached_ends, start_inside, led_asks}
use Rattle.nll_core.proofs.walk.Walk.reach.Goals as goal
use Rattle.nll_core.proofs.walk.Walk.reach.Goals.{After-clear, In_default}

-- ---- the loop that enters points

-- none of the constraints holds at all points, since each is at a point
none_everywhere : (g : Graph) (pair : List Constraint) → AreAtPoints g pair → NoneEverywhere pair
none_everywhere g pair points c there all = subst (IsPointOf g) all (points c there)

pub next_inside-requires-clause-points : goal.next_inside-requires-clause-points
next_inside-requires-clause-points c = none_everywhere c.args.lines.now c.args.pair.now c.requires.points

pub point_at-point-requires-clause-points : goal.point_at-point-requires-clause-points
point_at-point-requires-clause-points c = none_everywhere c.args.lines.now c.args.pair.now c.requires.points

pub place_from-place-requires-clause-points : goal.place_from-place-requires-clause-points
place_from-place-requires-clause-points c = none_everywhere c.args.lines.now c.args.pair.now c.requires.points

pub enter-requires-clause-point : goal.enter-requires-clause-point
enter-requires-clause-point c =
    let here = c.requires.points _ (contained_at c.args.pair.now c.in-Some.found.place c.in-Some.ensures.found.1) in
    omega (arith, c.point_at-point.ensures, point_below c.args.lines.now _ here)

pub enter-requires-clause-inside : goal.enter-requires-clause-inside
enter-requires-clause-inside c = (
  omega (arith, c.point_at-point.ensures, c.in-Some.ensures.has.0),
  omega (arith, c.point_at-point.ensures, c.in-Some.ensures.has.1),
)

pub loop-found-preserved : goal.loop-found-preserved
loop-found-preserved c =
    let graph = c.args.lines.now in
    let sub = c.args.sub.now in
    let pair = c.args.pair.now in
    let place = c.in-Some.found.place in
    let within = c.in-Some.ensures.found.1 in
    let is = c.point_at-point.ensures in
    let from = subst (λ p. IsRunFrom sub p c.in-Some.found.run) (sym is) c.in-Some.ensures.run in
    entering_more graph sub pair _ _ _ _ _ _ place c.point_at-point.result c.in_ok-next.next c.place_from-place.result
    c.requires.ascending is within
    (entering_skip graph sub pair _ _ _ _ c.loop-found.place place
    (omega (arith, within)) c.in-Some.ensures.before c.loop-found.invariant)
    (c.in_ok-next.ensures.grows sub from)
    (λ x a b _. c.in_ok-next.ensures.settled sub from c.loop-found.invariant.closed x a b)
    (λ _. c.in_ok-next.ensures.covers)
    c.place_from-place.ensures.bound c.place_from-place.ensures.before

-- ---- what follows

-- what was cleared has nothing
nothing : (c : After-clear) → (x : ℕ) → flag c.clear.new.self x ≡ false
nothing c x = false_from_ne_true _
    (λ h. none_in_empty (length c.args.self.now.reached) x
    (subst (λ flags. flag flags x ≡ true) c.clear.ensures h))

-- what was entered, from an empty list
entered : (c : In_default) → GrowsByRuns c.args.lines.now c.args.sub.now
    (IsLedFrom c.args.lines.now c.args.sub.now c.args.pair.now) c.clear.new.self c.loop-found.self.reached
    [] c.loop-found.self.todo.items
entered c =
    subst (λ (items : List Run). GrowsByRuns c.args.lines.now c.args.sub.now
    (IsLedFrom c.args.lines.now c.args.sub.now c.args.pair.now) c.clear.new.self c.loop-found.self.reached items
    c.loop-found.self.todo.items) c.clear-2.ensures.items c.loop-found.invariant.grows

-- all of their points that are in the value were entered
covers : (c : In_default) → (k : Constraint) → Contains c.args.pair.now k → IsIn c.args.sub.now (point_of k)
    → IsIn c.loop-found.self.reached (point_of k)
covers c =
    each_contained (λ (k : Constraint). IsIn c.args.sub.now (point_of k) → IsIn c.loop-found.self.reached (point_of k))
    c.args.pair.now (λ k l s. ⊎_elim
    (λ front. c.loop-found.invariant.covers k front s)
    (λ past. absurd (false≢true (sym (c.in_default.ensures.none k past l) ∙ s)))
    (cases_lt k c.loop-found.place))

pub spread-requires-clause-inside : goal.spread-requires-clause-inside
spread-requires-clause-inside c =
    let d = goal.at.spread-requires-clause-inside c in
    start_inside _ _ _ _ _ _ (nothing d.After-clear) (entered d.In_default)

pub returns-then-not-ends-clause-reached : goal.returns-then-not-ends-clause-reached
returns-then-not-ends-clause-reached c =
    let d = goal.at.returns-then-not-ends-clause-reached c in
    led_asks c.args.lines.now c.args.sub.now c.args.pair.now c.spread.new.reached c.requires.points
    (reached_points c.args.lines.now c.args.sub.now c.points-points.ensures.sound c.args.pair.now c.clear.new.self
    c.loop-found.self.reached c.spread.new.reached _ _ c.in_ok-ends.ends (nothing d.After-clear)
    (entered d.In_default) (covers d.In_default) c.in_ok-ends.ensures c.if-not-ends.true)

pub returns-clause-reached : goal.returns-clause-reached
returns-clause-reached c =
    let d = goal.at.returns-clause-reached c in
    on_ok_weaker c.fill_from.result (λ f. led_asks c.args.lines.now c.args.sub.now c.args.pair.now
    c.fill_from.new.reached c.requires.points
    (reached_ends c.args.lines.now c.args.sub.now c.points-points.ensures.sound
    c.args.pair.now c.clear.new.self c.loop-found.self.reached c.spread.new.reached _ _ c.in_ok-ends.ends
    (nothing d.After-clear) (entered d.In_default) (covers d.In_default) c.in_ok-ends.ensures
    c.fill_from.new.reached c.if-not-ends.false c.requires.sub_width
    (subst (λ n. FillsFrom n c.args.sub.now c.spread.new.reached c.fill_from.new.reached) c.points-points.ensures.value
    f))) c.fill_from.ensures.fills
