use Rattle.std.proofs.Common.{◌≡◌, ℕ, get_or, sym, ◌∙◌, subst, arith}
use Rattle.std.proofs.lemmas.List.{get_or_default}
use Rattle.nll_owner.specs.Keeping.{IsSlotIn}
use Rattle.nll_owner.specs.Following.{AreLinksOf, AreFresh}
use Rattle.nll_owner.proofs.LinkingLemmas.{each_pushed, links_of_same, links_of_set}
use Rattle.nll_owner.proofs.link_table.links_of.Goals as goal

pub list_links-requires-clause-sups : goal.list_links-requires-clause-sups
list_links-requires-clause-sups c k h =
    (let low = (c.regions-regions.ensures.sound.constraint_regions k
    ((c.requires.index k).0 ((c.reading.ensures.each k).0 h).0)).0 in omega (arith, low, c.requires.cut))

pub list_links-requires-clause-subs : goal.list_links-requires-clause-subs
list_links-requires-clause-subs c k h = ((c.reading.ensures.each k).0 h).1

pub list_links-requires-clause-none : goal.list_links-requires-clause-none
list_links-requires-clause-none c = c.loop-slot.invariant.none

pub loop-slot-preserved : goal.loop-slot-preserved
loop-slot-preserved c =
    let row = c.in_ok-take.field-0 in
    let sub = c.region-sub.result in
    let links = c.list_links.new.row.items in
    let made : AreLinksOf c.args.cut.now c.args.me sub c.args.problem.now.constraints links × AreFresh links = (
      links_of_set c.args.cut.now c.args.me sub c.args.index.now c.args.problem.now.constraints links
          c.requires.index
          (links_of_same c.args.cut.now c.args.me sub c.reading.result.now c.args.index.now links
          c.reading.ensures.each c.in_ok-list_links.ensures.links),
      c.in_ok-list_links.ensures.fresh,
    ) in
    let here : AreLinksOf c.args.cut.now c.args.me sub c.args.problem.now.constraints row.items × AreFresh row.items =
    subst (λ xs. AreLinksOf c.args.cut.now c.args.me sub c.args.problem.now.constraints xs × AreFresh xs)
    (sym c.in_ok-take.ensures.items) made in
    let of : (r : ℕ) → IsSlotIn c.args.slots.now c.loop-slot.slot r
    → sub ≡ r = λ r at. sym c.region-sub.ensures.1
    ∙ (get_or_default c.args.slots.now c.loop-slot.slot sub r at.0 ∙ at.1) in
    record {
      none = c.in_ok-take.ensures.empty;
      count = omega (arith, c.in_ok-push.ensures.len, c.loop-slot.invariant.count);
      links = λ s r v low at is.
          let each =
          each_pushed (λ s v. (r : ℕ) → IsSlotIn c.args.slots.now s r
          → AreLinksOf c.args.cut.now c.args.me r c.args.problem.now.constraints v.items × AreFresh v.items)
          c.loop-slot.rows.items row c.loop-slot.slot
          c.loop-slot.invariant.count (λ k v low is r at. c.loop-slot.invariant.links k r v low at is)
          (λ r at. subst (λ x. AreLinksOf c.args.cut.now c.args.me x c.args.problem.now.constraints row.items
          × AreFresh row.items) (of r at) here) in
          each s v low (subst (λ xs. get_or xs s v ≡ v) c.in_ok-push.ensures.items is) r at;
    }

pub returns-clause-count : goal.returns-clause-count
returns-clause-count c = omega (arith, c.loop-slot.invariant.count, c.loop-slot-test.false, c.len-slot-end.ensures)

pub returns-clause-links : goal.returns-clause-links
returns-clause-links c s r row at =
    c.loop-slot.invariant.links s r row (omega (arith, at.0, c.loop-slot-test.false, c.len-slot-end.ensures)) at
