use Rattle.std.proofs.Common.{◌∙◌, [], sym, subst, arith}
use Rattle.std.proofs.lemmas.Bool.{false≢true, not-true, not-false, lt-ltb}
use Rattle.nll_problem.specs.Graph.{Graph, IsReturn}
use Rattle.nll_core.proofs.ResumeLemmas.{
  walks_had,
  walks_idle,
  resumed,
  resumed_ends,
  lists_resumed,
  lists_resumed_ends,
}
use Rattle.nll_core.proofs.ListingLemmas.{lists_none}
use Rattle.nll_core.proofs.frontiers.continuation.resume_walks.Goals as goal
use Rattle.nll_core.proofs.frontiers.continuation.resume_walks.Goals.{then-begins_nothing-via-then-begins_nothing, then-begins_nothing-via-else-begins_nothing+then-has_whole, then-run-points, else-run-points, else-not-ended-via-else-not-ended, else-not-ended-via-then-not-ended+else-not-has_return}

pub returns-then-begins_nothing-clause-after : goal.returns-then-begins_nothing-clause-after
returns-then-begins_nothing-clause-after c = elim c.then-begins_nothing.branch [
  | then-begins_nothing-via-then-begins_nothing w ↦ walks_idle c.args.steps.now c.args.seen.now c.args.starts.now
      c.args.run c.args.reached.now
      (c.begins_nothing.ensures.none w.if-begins_nothing.true) (c.begins_nothing.ensures.apart w.if-begins_nothing.true)
  | then-begins_nothing-via-else-begins_nothing+then-has_whole w ↦ walks_had c.args.steps.now c.args.seen.now
      c.args.starts.now c.args.run c.args.reached.now
      c.requires.before (w.has_whole.ensures w.if-has_whole.true)
]

pub returns-then-begins_nothing-clause-found : goal.returns-then-begins_nothing-clause-found
returns-then-begins_nothing-clause-found c = rw c.requires.none (lists_none c.args.reached.now [])

pub returns-then-not-has_return-clause-after : goal.returns-then-not-has_return-clause-after
returns-then-not-has_return-clause-after c =
    resumed c.args.steps.now c.args.seen.now c.args.starts.now c.args.run c.args.reached.now c.requires.before
    (rw c.steps.view_is at c.points-points.ensures.sound) c.requires.starts c.resume_points.new.reached
    c.args.found.now.items
    c.resume_points.new.found.items c.in_ok-ended.ended c.in_ok-ended.ensures
    c.if-not-ended.true
    (elim c.if-run-points.branch [
      | then-run-points w ↦ λ _ _ _.
          omega (arith, w.if-run-points.true, rw c.steps.view_is at c.points-points.ensures.value)
      | else-run-points w ↦ λ x h back. absurd (false≢true
          (sym (not-true _ (sym w.value-is ∙ c.if-not-has_return.true))
          ∙ w.has_return.ensures.1 (x, h, subst (λ (g : Graph). IsReturn g x) (sym c.steps.view_is) back)))
    ])

pub returns-then-not-has_return-clause-found : goal.returns-then-not-has_return-clause-found
returns-then-not-has_return-clause-found c =
    lists_resumed c.args.steps.now c.args.seen.now c.args.starts.now c.args.run c.args.reached.now c.requires.before
    (rw c.steps.view_is at c.points-points.ensures.sound) c.requires.starts c.resume_points.new.reached
    c.args.found.now.items
    c.resume_points.new.found.items c.in_ok-ended.ended c.in_ok-ended.ensures
    c.requires.none

pub returns-clause-after : goal.returns-clause-after
returns-clause-after c =
    resumed_ends c.args.steps.now c.args.seen.now c.args.starts.now c.args.run c.args.reached.now c.requires.before
    (rw c.steps.view_is at c.points-points.ensures.sound) c.requires.starts c.resume_points.new.reached
    c.args.found.now.items
    c.resume_points.new.found.items c.in_ok-ended.ended c.in_ok-ended.ensures
    c.fill_from.new.reached c.points-points.result (rw c.steps.view_is at c.points-points.ensures.value)
    c.requires.seen_width
    (elim c.else-not-ended.branch [
      | else-not-ended-via-else-not-ended w ↦ c.in_ok-ended.ensures.ends_from w.if-not-ended.false
      | else-not-ended-via-then-not-ended+else-not-has_return w ↦ elim w.if-run-points.branch [
        | then-run-points v ↦ absurd (false≢true
            (sym w.if-not-has_return.false ∙ (v.value-is ∙ lt-ltb _ _ v.if-run-points.true)))
        | else-run-points v ↦
            let found = v.has_return.ensures.0 (not-false _ (sym v.value-is ∙ w.if-not-has_return.false)) in
            (found.0, found.1, subst (λ (g : Graph). IsReturn g found.0) c.steps.view_is found.2)
      ]
    ])
    c.in_ok-fill_from.ensures.fills

pub returns-clause-found : goal.returns-clause-found
returns-clause-found c =
    lists_resumed_ends c.args.steps.now c.args.seen.now c.args.starts.now c.args.run c.args.reached.now
    c.requires.before (rw c.steps.view_is at c.points-points.ensures.sound) c.requires.starts
    c.resume_points.new.reached
    c.args.found.now.items
    c.resume_points.new.found.items c.in_ok-ended.ended c.in_ok-ended.ensures
    c.requires.none c.fill_from.new.reached c.points-points.result c.fill_from.new.list.items
    c.in_ok-fill_from.ensures.fills c.in_ok-fill_from.ensures.lists
