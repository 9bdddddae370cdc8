use Rattle.std.proofs.Common.{◌≡◌, ◌<◌, ◌≤◌, get_or, length, subst, arith}
use Rattle.std.proofs.lemmas.List.{get_or_default}
use Rattle.nll_core.proofs.SearchLemmas.{flag_within}
use Rattle.nll_owner.specs.Owner.{Has}
use Rattle.nll_owner.proofs.SlotLemmas.{own_held}
use Rattle.nll_owner.proofs.FollowingLemmas.{own_region}
use Rattle.nll_owner.proofs.link.may_rest.Goals as goal

pub slot-requires-clause-region : goal.slot-requires-clause-region
slot-requires-clause-region c =
    own_region c.args.knowledge.now c.requires.due.inside.sound c.args.link.now.sup c.requires.link.own

pub slot-requires-clause-held : goal.slot-requires-clause-held
slot-requires-clause-held c = own_held c.args.knowledge.now c.args.link.now.sup c.requires.link.own

pub gap_from-requires : goal.gap_from-requires
gap_from-requires c =
    let runs = c.args.due.now.runs.now in
    let n = c.loop-number.number in
    let k = get_or runs n c.index-due-number.result in
    let within : n < length runs = omega (arith, c.loop-number-test.true, c.requires.due.count) in
    let is : get_or runs n k ≡ k = get_or_default runs n _ _ within in
    let proper : k.run.first ≤ k.run.last = c.requires.due.held.proper k (n, within, is) in
    let has =
    subst (λ r. Has c.args.knowledge.now r k.run.last) (c.requires.due.first n k c.loop-number-test.true is)
    (c.requires.due.held.has k (n, within, is) k.run.last (proper, omega arith)) in
    let here = (c.set-inside.ensures.has c.args.due.now.region c.requires.due.inside.slot k.run.last).1 has in
    omega (
      arith,
      flag_within c.set-inside.result.now k.run.last here,
      c.set-inside.ensures.width,
      c.set-own.ensures.width,
    )

pub returns-clause-still : goal.returns-clause-still
returns-clause-still c =
    λ told _ n k low is x own. (c.set-own.ensures.has c.args.link.now.sup c.slot.ensures x).0
    (c.loop-number.invariant n k (omega (arith, low, c.loop-number-test.false)) is x own)

pub returns-then-not-link-clause-all : goal.returns-then-not-link-clause-all
returns-then-not-link-clause-all c = λ told _ x h. (c.set-own.ensures.has c.args.link.now.sup c.slot.ensures x).0
    (c.is_seen_within.ensures told x
    ((c.set-inside.ensures.has c.args.due.now.region c.requires.due.inside.slot x).1 h))
