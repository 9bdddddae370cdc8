use Rattle.std.proofs.Common.{◌≡◌, ◌<◌, ◌++◌, map, set, length, ap, ◌∙◌, refl, arith}
use Rattle.std.proofs.lemmas.List.{length-map, map-set}
use Rattle.nll_owner.specs.Owner.{with_growths}
use Rattle.nll_owner.proofs.ReceiptLemmas.{told_region, told_held, told_element, from_in, told_sound, told_kept, told_beside, on_err_always}
use Rattle.fixpoint.proofs.ListLemmas.{list_at, lists_kept}
use Rattle.nll_owner.proofs.knowledge.Knowledge.enter_run.Goals as goal
use Rattle.nll_owner.proofs.knowledge.Knowledge.enter_run.Goals.{After-make_room, After-push_all-self-inside}

sender : (c : After-make_room) → c.args.from < length (map (λ list. list.items) c.self.inside.received.items)
sender c =
    from_in _ _ _ c.self.invariant c.args.from c.args.growths.now _ _ c.requires.run
    (rw (← c.self.view_is) at c.requires.passes)

kept : (c : After-make_room) → map (λ list. list.items)
    (set c.self.inside.received.items c.args.from c.make_room.new.list)
    ≡ map (λ list. list.items) c.self.inside.received.items
kept c =
    lists_kept (λ list. list.items) c.self.inside.received.items c.args.from c.index_mut-list.result.now
    (sender c) c.index_mut-list.ensures.value c.make_room.new.list c.make_room.ensures.items

pushed : (c : After-push_all-self-inside) → map (λ list. list.items)
    (set c.self.inside.received.items c.args.from c.push_all-self-inside.new.list)
    ≡ with_growths (map (λ list. list.items) c.self.inside.received.items) c.args.from c.args.growths.now
pushed c =
    let lists = c.self.inside.received.items in
    map-set (λ list. list.items) lists c.args.from c.push_all-self-inside.new.list
    ∙ ap (set (map (λ list. list.items) lists) c.args.from)
    (c.push_all-self-inside.ensures.items ∙ ap (λ xs. xs ++ c.args.growths.now)
    (c.make_room.ensures.items ∙ list_at (λ list. list.items) lists c.args.from c.index_mut-list.result.now
    (from_in _ _ _ c.self.invariant c.args.from c.args.growths.now _ _ c.requires.run
    (rw (← c.self.view_is) at c.requires.passes)) c.index_mut-list.ensures.value))

pub slot-slot-requires-clause-region : goal.slot-slot-requires-clause-region
slot-slot-requires-clause-region c =
    rw (← c.self.view_is) (told_region _ _ _ c.self.invariant c.args.from c.args.growths.now _ _ c.requires.run
    (rw (← c.self.view_is) at c.requires.passes))

pub slot-slot-requires-clause-held : goal.slot-slot-requires-clause-held
slot-slot-requires-clause-held c =
    rw (← c.self.view_is) (told_held _ _ _ c.self.invariant c.args.from c.args.growths.now _ _ c.requires.run
    (rw (← c.self.view_is) at c.requires.passes))

pub index_mut-list-requires : goal.index_mut-list-requires
index_mut-list-requires c =
    omega (
      arith,
      from_in _ _ _ c.self.invariant c.args.from c.args.growths.now _ _ c.requires.run
          (rw (← c.self.view_is) at c.requires.passes),
      length-map c.self.inside.received.items (λ list. list.items),
    )

pub invariant_of-self : goal.invariant_of-self
invariant_of-self c =
    rw (kept (goal.at.invariant_of-self c).After-make_room) c.self.invariant

pub returns-in_err-make_room-clause-err : goal.returns-in_err-make_room-clause-err
returns-in_err-make_room-clause-err c =
    rw (← c.self.view_is, kept (goal.at.returns-in_err-make_room-clause-err c).After-make_room)
    (on_err_always c.from_residual.result refl)

pub insert_run-requires-clause-below : goal.insert_run-requires-clause-below
insert_run-requires-clause-below c =
    told_element _ _ _ c.self.invariant c.args.from c.args.growths.now _ _ c.requires.run
    (rw (← c.self.view_is) at c.requires.passes) c.slot-slot.result (rw (← c.self.view_is) at c.slot-slot.ensures)

pub invariant_of-self-in_err-insert_run : goal.invariant_of-self-in_err-insert_run
invariant_of-self-in_err-insert_run c =
    let d = (goal.at.invariant_of-self-in_err-insert_run c).After-make_room in
    rw (kept d, c.in_err-insert_run.ensures.err) c.self.invariant

pub returns-in_err-insert_run-clause-err : goal.returns-in_err-insert_run-clause-err
returns-in_err-insert_run-clause-err c =
    rw (← c.self.view_is, kept (goal.at.returns-in_err-insert_run-clause-err c).After-make_room)
    (on_err_always c.from_residual-in_err-insert_run.result refl)

pub invariant_of-self-2 : goal.invariant_of-self-2
invariant_of-self-2 c =
    rw (pushed (goal.at.invariant_of-self-2 c).After-push_all-self-inside)
    (told_kept _ _ _ c.self.invariant c.args.from c.args.growths.now _ _ c.requires.run
    (rw (← c.self.view_is) at c.requires.passes) _ c.push_all-self-inside.ensures.latest c.slot-slot.result
    (rw (← c.self.view_is) at c.slot-slot.ensures) c.insert_run.new.self _
    c.in_ok-insert_run.ensures.gains c.in_ok-insert_run.ensures.covers c.in_ok-insert_run.ensures.tells)

pub returns-clause-ok : goal.returns-clause-ok
returns-clause-ok c =
    rw (← c.self.view_is, pushed (goal.at.returns-clause-ok c).After-push_all-self-inside) refl

pub returns-clause-sound : goal.returns-clause-sound
returns-clause-sound c =
    rw (pushed (goal.at.returns-clause-sound c).After-push_all-self-inside)
    (told_sound _ _ _ c.self.invariant c.args.from c.args.growths.now _ _ c.requires.run
    (rw (← c.self.view_is) at c.requires.passes) _ c.push_all-self-inside.ensures.latest)

pub returns-clause-has : goal.returns-clause-has
returns-clause-has c =
    rw (← c.self.view_is, pushed (goal.at.returns-clause-has c).After-push_all-self-inside)
    (told_beside _ _ _ c.self.invariant c.args.from c.args.growths.now _ _ c.requires.run
    (rw (← c.self.view_is) at c.requires.passes) _ c.push_all-self-inside.ensures.latest)
