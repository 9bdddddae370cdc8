use Rattle.std.proofs.Common.{ap, ◌∙◌, subst, map, length}
use Rattle.keeper.specs.Keeping.{AreParts, has}
use Rattle.keeper.proofs.ListLemmas.{on_ok_two}
use Rattle.keeper.proofs.DealingLemmas.{parts_front, parts_same}
use Rattle.keeper.proofs.DueLemmas.{due_first, begins_same}
use Rattle.keeper.proofs.pursue.load_all.Goals as goal

pub settle-requires-clause-due : goal.settle-requires-clause-due
settle-requires-clause-due g c =
    let r = g.E.Rules.rules in
    let law = g.met.E.Rules.lawful in
    let o = c.args.book.now in
    due_first r law o.system c.requires.sound.valid o.me (has r o)
    c.args.due.now.items c.begin.new.found.items c.requires.fresh c.requires.quiet.none_due
    (begins_same r law o.system c.requires.sound.valid o.me c.system-engine.result.now c.me.result
    c.system-engine.ensures c.me.ensures.value c.args.due.now.items c.begin.new.found.items c.in_ok-begin.ensures)

pub take_up-requires-clause-parts : goal.take_up-requires-clause-parts
take_up-requires-clause-parts g c =
    parts_front g.E.Rules.rules c.args.book.now.system c.system.result.now
    (c.system.ensures ∙ ap (λ o. o.system) c.settle.ensures.grows.others)
    (map (λ list. list.items) c.args.boxes.now.lists.items) c.args.book.now.log c.entries.result.now
    c.settle.ensures.grows.begins.0 c.args.boxes.now.place (c.entries.ensures.log ∙ c.settle.ensures.grows.begins.1)
    c.requires.quiet.whole_log c.requires.quiet.parts

pub returns-clause-quiet : goal.returns-clause-quiet
returns-clause-quiet g c =
    let r = g.E.Rules.rules in
    on_ok_two c.take_up.result
    (λ place parts. record {
      store = c.in_ok-settle.ensures.store;
      none_due = c.in_ok-settle.ensures.none;
      whole_log = place ∙ ap length c.entries.ensures.log;
      parts = subst (λ log. AreParts r c.settle.new.book.system log
          (map (λ list. list.items) c.take_up.new.boxes.lists.items)) c.entries.ensures.log
          (parts_same r c.settle.new.book.system c.system.result.now c.system.ensures
          (map (λ list. list.items) c.take_up.new.boxes.lists.items) c.entries.result.now parts);
    })
    c.take_up.ensures.place c.take_up.ensures.parts
