use Rattle.std.proofs.Common.{◌-◌, ℕ, sym, ap, subst, ◌∙◌, arith, ◌<◌, List, length, length-drop, map, set, take, drop, get_or, Contains}
use Rattle.std.proofs.lemmas.List.{get_or_default, take_rest, drop-drop}
use Rattle.std.proofs.lemmas.Result.{IfOk-from_err}
use Rattle.nll_owner.specs.Owner.{Owner}
use Rattle.nll_owner.specs.Following.{IsFollowing, following_of}
use Rattle.nll_owner.specs.RegionRuns.{AreHeld, IsToldByRuns}
use Rattle.nll_owner.specs.declared.region_runs.RegionRun.{RegionRun}
use Rattle.nll_owner.proofs.OwnerLemmas.{grows_none, grows_append}
use Rattle.nll_owner.proofs.RegionRunLemmas.{held_behind, held_grows}
use Rattle.nll_owner.proofs.FollowingLemmas.{following_all, row_behind, row_more}
use Rattle.nll_owner.proofs.SlotLemmas.{has_held}
use Rattle.nll_owner.proofs.follow_up.follow_runs.Goals as goal
use Rattle.nll_owner.proofs.follow_up.follow_runs.Goals.{After-index-rest-0}

pub loop-next-init : goal.loop-next-init
loop-next-init c = record { grows = grows_none _ c.requires.sound; following = c.requires.following }

pub returns-clause-following : goal.returns-clause-following
returns-clause-following c =
    following_all c.args.runs.now c.loop-next.next c.loop-next.knowledge _
    (omega (arith, c.loop-next-test.false)) c.loop-next.invariant.following

pub returns-clause-grows : goal.returns-clause-grows
returns-clause-grows c = c.loop-next.invariant.grows

-- the runs that are left, and the first of them
abbrev rest : After-index-rest-0 → List RegionRun
rest c = take (length c.args.runs.now - c.loop-next.next) (drop c.loop-next.next c.args.runs.now)

abbrev first : After-index-rest-0 → RegionRun
first c = get_or (rest c) 0 c.index-rest-0.result

some_left : (n : ℕ) (runs : List RegionRun) → n < length runs → 0 < length (drop n runs)
some_left n runs less = omega (arith, length-drop n runs, less)

some : (c : After-index-rest-0) → 0 < length (rest c)
some c =
    subst (λ (runs : List RegionRun). 0 < length runs) (sym (take_rest c.args.runs.now c.loop-next.next))
    (some_left c.loop-next.next c.args.runs.now c.loop-next-test.true)

held : (c : After-index-rest-0) → AreHeld c.loop-next.knowledge (rest c)
held c =
    subst (AreHeld c.loop-next.knowledge) (sym (take_rest c.args.runs.now c.loop-next.next))
    (held_behind _ _ c.loop-next.next (held_grows _ _ c.loop-next.invariant.grows _ c.requires.held))

there : (c : After-index-rest-0) → Contains (rest c) (first c)
there c = (0, some c, get_or_default (rest c) 0 _ _ (some c))

following : (c : After-index-rest-0) → IsFollowing (IsToldByRuns (rest c)) c.loop-next.knowledge
    (following_of (map (λ row. row.items) c.loop-next.rows.items) c.args.place)
following c =
    subst (λ (runs : List RegionRun). IsFollowing (IsToldByRuns runs) c.loop-next.knowledge
    (following_of (map (λ row. row.items) c.loop-next.rows.items) c.args.place))
    (sym (take_rest c.args.runs.now c.loop-next.next)) c.loop-next.invariant.following

pub slot-slot-requires-clause-region : goal.slot-slot-requires-clause-region
slot-slot-requires-clause-region c =
    let d = (goal.at.slot-slot-requires-clause-region c).After-index-rest-0 in
    (held d).regions (first d) (there d)

pub slot-slot-requires-clause-held : goal.slot-slot-requires-clause-held
slot-slot-requires-clause-held c =
    let d = (goal.at.slot-slot-requires-clause-held c).After-index-rest-0 in
    has_held _ c.loop-next.invariant.grows.sound (first d).region (first d).run.first
    ((held d).has (first d) (there d) (first d).run.first (omega arith, (held d).proper (first d) (there d)))

pub count_of-count-requires-clause-some : goal.count_of-count-requires-clause-some
count_of-count-requires-clause-some c = some (goal.at.count_of-count-requires-clause-some c).After-index-rest-0

pub advance-requires-clause-due : goal.advance-requires-clause-due
advance-requires-clause-due c = record {
  inside = record {
    sound = c.loop-next.invariant.grows.sound;
    steps = c.requires.steps ∙ sym (ap (λ (o : Owner). o.problem.graph) c.loop-next.invariant.grows.others);
    slot = c.slot-slot.ensures;
    place = c.loop-next.invariant.following.within;
  };
  some = c.count_of-count.ensures.some;
  count = c.count_of-count.ensures.bound;
  first = c.count_of-count.ensures.same;
  held = held (goal.at.advance-requires-clause-due c).After-index-rest-0;
}

pub advance-requires-clause-behind : goal.advance-requires-clause-behind
advance-requires-clause-behind c l h =
    let d = (goal.at.advance-requires-clause-behind c).After-index-rest-0 in
    let w = row_behind (λ row. row.items) c.loop-next.rows.items c.args.place c.slot-slot.result _ (rest d)
    c.loop-next.knowledge c.index_mut-row.result.now
    (following d) c.slot-slot.ensures (rw c.slot.view_is at c.index_mut-row.ensures.value) l h in
    record { link = w.0; followed = w.1 }

pub loop-next-preserved : goal.loop-next-preserved
loop-next-preserved c =
    let d = (goal.at.loop-next-preserved c).After-index-rest-0 in
    let count = c.count_of-count.result in
    let runs = c.args.runs.now in
    record {
      grows = grows_append _ _ _ c.loop-next.invariant.grows c.advance.ensures.grows;
      following =
          subst (λ (left : List RegionRun). IsFollowing (IsToldByRuns left) c.advance.new.knowledge
          (following_of (map (λ row. row.items) (set c.loop-next.rows.items c.slot.inside.0 c.advance.new.self))
          c.args.place))
          (ap (λ (left : List RegionRun). drop count left) (take_rest runs c.loop-next.next)
          ∙ drop-drop count c.loop-next.next runs)
          (rw c.slot.view_is (row_more (λ row. row.items) c.loop-next.rows.items c.args.place c.slot-slot.result _
          (rest d) c.loop-next.knowledge c.index_mut-row.result.now
          (following d) c.slot-slot.ensures (rw c.slot.view_is at c.index_mut-row.ensures.value)
          count c.count_of-count.ensures.bound c.count_of-count.ensures.same
          c.advance.new.knowledge c.advance.ensures.grows c.advance.new.self c.advance.ensures.same
          c.in_ok-advance.ensures.followed));
    }

pub returns-in_err-advance-clause-grows : goal.returns-in_err-advance-clause-grows
returns-in_err-advance-clause-grows c = grows_append _ _ _ c.loop-next.invariant.grows c.advance.ensures.grows

pub returns-in_err-advance-clause-following : goal.returns-in_err-advance-clause-following
returns-in_err-advance-clause-following c = IfOk-from_err c.from_residual.result _ c.from_residual.ensures.0
