use Rattle.std.proofs.Common.{◌<◌, List, length, sym, subst, ◌∙◌, arith}
use Rattle.std.proofs.lemmas.Bool.{false≢true}
use Rattle.std.proofs.lemmas.Result.{on_ok_weaker}
use Rattle.nll_problem.specs.declared.at.At.{At}
use Rattle.nll_sets.specs.declared.run.Run.{Run}
use Rattle.nll_core.specs.Frontiers.{FrontierGoesOn, ListsNew}
use Rattle.nll_core.proofs.ListingLemmas.{lists_gaps}
use Rattle.nll_core.proofs.SearchLemmas.{flag_within}
use Rattle.nll_core.proofs.FrontierLemmas.{asked_walks, goes_by_walks, goes_whole, points_among}
use Rattle.nll_core.proofs.frontiers.continuation.resume.Goals as goal
use Rattle.nll_core.proofs.frontiers.continuation.resume.Goals.{Then-has_all}

-- the run is of elements
below : (c : Then-has_all) → c.args.run.last < length c.args.reached.now
below c =
    omega (
      arith,
      flag_within c.args.seen.now _ (c.requires.run c.args.run.last (c.requires.proper, omega arith)),
      c.requires.seen_width,
      c.requires.width,
    )

pub gaps-requires-clause-below : goal.gaps-requires-clause-below
gaps-requires-clause-below c = below (goal.at.gaps-requires-clause-below c).Then-has_all

pub insert_run-requires-clause-below : goal.insert_run-requires-clause-below
insert_run-requires-clause-below c = below (goal.at.insert_run-requires-clause-below c).Then-has_all

pub returns-then-has_all-clause-width : goal.returns-then-has_all-clause-width
returns-then-has_all-clause-width c = c.in_ok-insert_run.ensures.ok.width

pub returns-then-has_all-clause-after : goal.returns-then-has_all-clause-after
returns-then-has_all-clause-after c =
    goes_whole c.args.steps.now c.args.seen.now c.args.run c.args.starts.now c.args.reached.now c.insert_run.new.self
    (c.has_all.ensures.0 c.if-has_all.true) c.requires.run c.requires.before c.in_ok-insert_run.ensures.ok

pub returns-then-has_all-clause-found : goal.returns-then-has_all-clause-found
returns-then-has_all-clause-found c =
    subst (λ (list : List Run). ListsNew c.args.reached.now c.insert_run.new.self list c.gaps.new.out.items)
    c.requires.none
    (lists_gaps _ _ _ _ _ c.in_ok-gaps.ensures.listed c.in_ok-insert_run.ensures.ok)

pub points-points-requires : goal.points-points-requires
points-points-requires c = λ every. false≢true (sym c.if-has_all.false ∙ c.has_all.ensures.1 every)

pub resume_walks-requires-clause-starts : goal.resume_walks-requires-clause-starts
resume_walks-requires-clause-starts c =
    points_among c.args.steps.now.points c.points-points.result (rw c.points-points.ensures at c.requires.starts)

pub resume_walks-requires-clause-before : goal.resume_walks-requires-clause-before
resume_walks-requires-clause-before c =
    λ x h. asked_walks c.args.steps.now c.args.seen.now c.points-points.result x
    (rw c.points-points.ensures at (c.requires.before x h))

pub returns-clause-after : goal.returns-clause-after
returns-clause-after c = on_ok_weaker c.resume_walks.result
    (λ w. subst (λ (starts : List At). FrontierGoesOn c.args.steps.now c.args.seen.now c.args.run starts
    c.args.reached.now
    c.resume_walks.new.reached) (sym c.points-points.ensures)
    (goes_by_walks c.args.steps.now c.args.seen.now c.args.run c.points-points.result c.args.reached.now
    c.resume_walks.new.reached w))
    c.resume_walks.ensures.after
