use Rattle.std.proofs.Common.{◌+◌, List, refl, subst, sym, rules, arith}
use Rattle.std.proofs.lemmas.List.Sorted.{Contains-permutation, IsPermutation-sym, IsNonDecreasingBy-from_sort_by_key}
use Rattle.nll_core.specs.declared.frontiers.landings.Landing.{Landing}
use Rattle.nll_core.proofs.LandingLemmas.{AreLandingsTo, Landed, landed_first, landed_more, landed_end, landings_none, landings_more, landings_all}
use Rattle.nll_core.proofs.frontiers.landings.sorted_landings.Goals as goal

pub loop-point-init : goal.loop-point-init
loop-point-init c =
    subst (λ (items : List Landing). AreLandingsTo c.args.lines.now 0 items) (sym c.new-list.ensures.items)
    (landings_none c.args.lines.now)

pub loop-target-init : goal.loop-target-init
loop-target-init c = landed_first _ _ _

pub loop-target-preserved : goal.loop-target-preserved
loop-target-preserved c =
    subst (λ (items : List Landing). Landed c.loop-point.point c.jumps-target-items.result.now c.loop-point.list.items
    items (c.loop-target.target-index + 1)) (sym c.in_ok-push.ensures.items)
    (landed_more _ _ _ _ _ _ refl c.loop-target.invariant)

pub loop-point-preserved : goal.loop-point-preserved
loop-point-preserved c =
    landings_more c.args.lines.now c.loop-point.point c.loop-point.list.items c.loop-target.list.items
    c.loop-point.invariant
    (landed_end c.args.lines.now c.loop-point.point c.jumps-target-items.result.now _ _ _
    (omega (arith, c.loop-target-test.false, c.loop-target.auto.target-index-end)) c.jumps-target-items.ensures
    c.loop-target.invariant)

pub returns-clause-each : goal.returns-clause-each
returns-clause-each c = λ l.
    let all =
    landings_all c.args.lines.now c.points-point-end.ensures.sound c.loop-point.point c.loop-point.list.items
    (omega (arith, c.loop-point-test.false, c.loop-point.auto.point-end, c.points-point-end.ensures.value))
    c.loop-point.invariant l in (
      λ h. all.0 (Contains-permutation _ _ l
          (IsPermutation-sym _ _ c.sort_unstable_by_key.ensures.permutation) h),
      λ h. Contains-permutation _ _ l c.sort_unstable_by_key.ensures.permutation (all.1 h),
    )

pub returns-clause-ascending : goal.returns-clause-ascending
returns-clause-ascending c =
    λ i j d less within. IsNonDecreasingBy-from_sort_by_key
    (λ (l : Landing). l.to) c.sort_unstable_by_key.new.self.items c.sort_unstable_by_key.ensures.sorted
    (λ a r f' k. search rules) i j d (omega (arith, less)) within
