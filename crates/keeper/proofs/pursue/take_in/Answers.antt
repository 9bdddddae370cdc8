use Rattle.std.proofs.Common.{ap, sym, ◌∙◌, subst, map, length, [], ◌++◌, append-nil}
use Rattle.keeper.specs.Keeping.{AreParts}
use Rattle.keeper.proofs.ListLemmas.{on_ok_two}
use Rattle.keeper.proofs.DealingLemmas.{parts_front, parts_same}
use Rattle.keeper.proofs.pursue.take_in.Goals as goal

pub returns-in_err-hear_all-clause-begins : goal.returns-in_err-hear_all-clause-begins
returns-in_err-hear_all-clause-begins g c =
    ([], ap (λ o. o.log) c.hear_all.ensures.others ∙ sym (append-nil c.args.book.now.log))

pub take_up-requires-clause-parts : goal.take_up-requires-clause-parts
take_up-requires-clause-parts g c =
    parts_front g.E.Rules.rules c.args.book.now.system c.system.result.now
    (c.system.ensures ∙ (ap (λ o. o.system) c.settle.ensures.grows.others
    ∙ ap (λ o. o.system) c.hear_all.ensures.others))
    (map (λ list. list.items) c.args.boxes.now.lists.items) c.args.book.now.log c.entries.result.now
    c.settle.ensures.grows.begins.0 c.args.boxes.now.place
    (c.entries.ensures.log ∙ (c.settle.ensures.grows.begins.1
    ∙ ap (λ log. log ++ c.settle.ensures.grows.begins.0) (ap (λ o. o.log) c.hear_all.ensures.others)))
    c.requires.quiet.whole_log c.requires.quiet.parts

pub returns-clause-quiet : goal.returns-clause-quiet
returns-clause-quiet g c =
    let r = g.E.Rules.rules in
    on_ok_two c.take_up.result
    (λ place parts. record {
      store = c.in_ok-settle.ensures.store;
      none_due = c.in_ok-settle.ensures.none;
      whole_log = place ∙ ap length c.entries.ensures.log;
      parts = subst (λ log. AreParts r c.settle.new.book.system log
          (map (λ list. list.items) c.take_up.new.boxes.lists.items)) c.entries.ensures.log
          (parts_same r c.settle.new.book.system c.system.result.now c.system.ensures
          (map (λ list. list.items) c.take_up.new.boxes.lists.items) c.entries.result.now parts);
    })
    c.take_up.ensures.place c.take_up.ensures.parts
