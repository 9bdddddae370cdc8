use Rattle.std.proofs.Common.{◌≡◌, ◌+◌, ◌<◌, length, map, subst, sym, arith}
use Rattle.std.proofs.lemmas.List.{length-map}
use Rattle.nll_live.proofs.VectorLemmas.{rows_more}
use Rattle.nll_live.specs.Gathering.{AscendBelow, Lists}
use Rattle.nll_live.proofs.GatheringLemmas.{lists_one, ascend_one, ascend_later}
use Rattle.nll_live.proofs.points_by_variable.list_at.Goals as goal

pub returns-in_ok-push-clause-lists : goal.returns-in_ok-push-clause-lists
returns-in_ok-push-clause-lists c =
    let low : c.args.variable < length c.args.lists.now.items = omega arith in
    let more =
    rows_more (λ list. list.items) c.args.lists.now.items c.args.variable c.index_mut-list.result.now low
    c.index_mut-list.ensures.value c.push.new.self c.args.point c.in_ok-push.ensures.items in
    subst (λ new. Lists (λ x. x ≡ c.args.variable) c.args.point (map (λ list. list.items) c.args.lists.now.items) new)
    (sym more)
    (lists_one (map (λ list. list.items) c.args.lists.now.items) c.args.variable c.args.point
    (omega (arith, low, length-map c.args.lists.now.items (λ list. list.items))))

pub returns-in_ok-push-clause-ascending : goal.returns-in_ok-push-clause-ascending
returns-in_ok-push-clause-ascending c =
    let low : c.args.variable < length c.args.lists.now.items = omega arith in
    let more =
    rows_more (λ list. list.items) c.args.lists.now.items c.args.variable c.index_mut-list.result.now low
    c.index_mut-list.ensures.value c.push.new.self c.args.point c.in_ok-push.ensures.items in
    λ h. subst (AscendBelow (c.args.point + 1)) (sym more)
    (ascend_one (map (λ list. list.items) c.args.lists.now.items) c.args.variable c.args.point
    (omega (arith, low, length-map c.args.lists.now.items (λ list. list.items))) h)

pub returns-else-variable-len-clause-ascending : goal.returns-else-variable-len-clause-ascending
returns-else-variable-len-clause-ascending c =
    ascend_later c.args.point (c.args.point + 1) (map (λ list. list.items) c.args.lists.now.items) (omega arith)
