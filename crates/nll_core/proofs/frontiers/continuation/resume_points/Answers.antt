use Rattle.std.proofs.Common.{◌≤◌, ◌<◌, ℕ, refl, arith}
use Rattle.std.proofs.lemmas.Result.{IfOk-weaker}
use Rattle.nll_sets.specs.declared.run.Run.{Run}
use Rattle.nll_core.proofs.ResumeLemmas.{old_inside, resumes_none, two_inside, three_inside, three_listed, three_fit, resumes_points}
use Rattle.nll_core.proofs.frontiers.continuation.resume_points.Goals as goal
use Rattle.nll_core.proofs.frontiers.continuation.resume_points.Goals.{In_ok-enter_starts}

pub returns-then-run-points : goal.returns-then-run-points
returns-then-run-points c = rw (← c.steps.view_is)
    (resumes_none c.steps.inside.lines c.args.seen.now c.args.starts.now c.args.run c.args.reached.now
    (rw (← c.steps.view_is) at c.requires.before)
    c.points-points.ensures.sound (rw (← c.steps.view_is) at c.requires.starts) c.args.found.now.items
    (omega (arith, c.if-run-points.true, c.points-points.ensures.value)))

pub enter_next-requires-clause-inside : goal.enter_next-requires-clause-inside
enter_next-requires-clause-inside c =
    old_inside c.steps.inside.lines c.args.seen.now c.args.starts.now c.args.run c.args.reached.now
    (rw (← c.steps.view_is) at c.requires.before)

-- the points of the run
abbrev part_of : In_ok-enter_starts → Run
part_of c = record { first = c.args.run.first; last = c.min.result }

last_point : (c : In_ok-enter_starts) → (x : ℕ) → x ≤ c.args.run.last → x < c.steps.inside.lines.points
    → x ≤ c.min.result
last_point c x high point = omega (arith, high, point, c.min.ensures, c.points-points.ensures.value)

pub enter_landings-requires-clause-inside : goal.enter_landings-requires-clause-inside
enter_landings-requires-clause-inside c =
    let d = (goal.at.enter_landings-requires-clause-inside c).In_ok-enter_starts in
    two_inside c.steps.inside.lines c.args.seen.now c.args.starts.now c.args.run c.args.reached.now
    (rw (← c.steps.view_is) at c.requires.before)
    c.points-points.ensures.sound (rw (← c.steps.view_is) at c.requires.starts) (part_of d) refl
    (last_point d) c.args.found.now.items c.requires.none
    _ _ _ _ c.in_ok-enter_next.ensures.grows c.in_ok-enter_next.ensures.covers c.in_ok-enter_starts.ensures.grows

pub spread-requires-clause-fit : goal.spread-requires-clause-fit
spread-requires-clause-fit c =
    let d = (goal.at.spread-requires-clause-fit c).In_ok-enter_starts in
    three_fit c.steps.inside.lines c.args.seen.now c.args.starts.now c.args.run c.args.reached.now
    (rw (← c.steps.view_is) at c.requires.before)
    c.points-points.ensures.sound (rw (← c.steps.view_is) at c.requires.starts) (part_of d) refl
    (last_point d) c.args.found.now.items c.requires.none
    _ _ _ _ c.in_ok-enter_next.ensures.grows c.in_ok-enter_next.ensures.covers c.in_ok-enter_starts.ensures.grows
    c.in_ok-enter_starts.ensures.covers _ _ c.in_ok-enter_landings.ensures.grows
    c.in_ok-enter_landings.ensures.covers

pub spread-requires-clause-listed : goal.spread-requires-clause-listed
spread-requires-clause-listed c =
    let d = (goal.at.spread-requires-clause-listed c).In_ok-enter_starts in
    three_listed c.steps.inside.lines c.args.seen.now c.args.starts.now c.args.run c.args.reached.now
    (rw (← c.steps.view_is) at c.requires.before)
    c.points-points.ensures.sound (rw (← c.steps.view_is) at c.requires.starts) (part_of d) refl
    (last_point d) c.args.found.now.items c.requires.none
    _ _ _ _ c.in_ok-enter_next.ensures.grows c.in_ok-enter_next.ensures.covers c.in_ok-enter_starts.ensures.grows
    c.in_ok-enter_starts.ensures.covers _ _ c.in_ok-enter_landings.ensures.grows
    c.in_ok-enter_landings.ensures.covers

pub spread-requires-clause-inside : goal.spread-requires-clause-inside
spread-requires-clause-inside c =
    let d = (goal.at.spread-requires-clause-inside c).In_ok-enter_starts in
    three_inside c.steps.inside.lines c.args.seen.now c.args.starts.now c.args.run c.args.reached.now
    (rw (← c.steps.view_is) at c.requires.before)
    c.points-points.ensures.sound (rw (← c.steps.view_is) at c.requires.starts) (part_of d) refl
    (last_point d) c.args.found.now.items c.requires.none
    _ _ _ _ c.in_ok-enter_next.ensures.grows c.in_ok-enter_next.ensures.covers c.in_ok-enter_starts.ensures.grows
    c.in_ok-enter_starts.ensures.covers _ _ c.in_ok-enter_landings.ensures.grows
    c.in_ok-enter_landings.ensures.covers

pub returns : goal.returns
returns c =
    let d = (goal.at.returns c).In_ok-enter_starts in
    rw (← c.steps.view_is) (IfOk-weaker c.spread.result _ _
    (λ ended spreads. resumes_points c.steps.inside.lines c.args.seen.now c.args.starts.now c.args.run
    c.args.reached.now (rw (← c.steps.view_is) at c.requires.before) c.points-points.ensures.sound
    (rw (← c.steps.view_is) at c.requires.starts) (part_of d) refl
    (last_point d) c.args.found.now.items c.requires.none
    _ _ _ _ c.in_ok-enter_next.ensures.grows c.in_ok-enter_next.ensures.covers c.in_ok-enter_starts.ensures.grows
    c.in_ok-enter_starts.ensures.covers _ _ c.in_ok-enter_landings.ensures.grows
    c.in_ok-enter_landings.ensures.covers _ _ ended spreads)
    c.spread.ensures)
