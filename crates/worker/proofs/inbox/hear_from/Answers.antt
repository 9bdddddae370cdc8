use Rattle.std.proofs.Common.{◌<◌, ◌≤◌, ◌^◌, List, [], length, map, slice_set, Some, subst, refl, sym, ap, ◌∙◌, rules}
use Rattle.worker.specs.Hearing.{LooksInto}
use Rattle.worker.specs.Mailboxes.{Both, Keeps, through}
use Rattle.worker.proofs.ListLemmas.{map_set, map_read, read_set, alike_set, both_refl}
use Rattle.worker.proofs.inbox.hear_from.Goals as goal

pub returns-in-Some-clause-hears : goal.returns-in-Some-clause-hears
returns-in-Some-clause-hears g c =
    let xs = c.args.inbox.now.receivers.items in let lt : c.args.from < length xs = search rules in
    let f = (through g.M.Mail.received) in
    subst (λ (y : _ × _). LooksInto g.A.Rules.rules c.args.from (g.A.Analysis.state c.args.part.now)
    (g.A.Analysis.state c.hear.new.part) y.0 y.1 c.hear.new.batch.items
    c.hear.result)
    (λ i. (
      sym ((map_read f xs c.args.from c.index_mut.result.now [] lt c.index_mut.ensures.value ∙ ap f c.in-Some.is)) i,
      sym (read_set f xs c.args.from (Some c.hear.new.receiver) [] lt) i,
    )) c.hear.ensures.hears

pub returns-in-Some-clause-few : goal.returns-in-Some-clause-few
returns-in-Some-clause-few g c =
    let xs = c.args.inbox.now.receivers.items in let lt : c.args.from < length xs = search rules in
    let f = (through g.M.Mail.received) in
    λ small.
    subst (λ (l : List _). length l ≤ 2 ^ 37) (sym (read_set f xs c.args.from (Some c.hear.new.receiver) [] lt))
    (c.hear.ensures.few (subst (λ (l : List _). length l ≤ 2 ^ 37)
    ((map_read f xs c.args.from c.index_mut.result.now [] lt c.index_mut.ensures.value ∙ ap f c.in-Some.is)) small))

pub returns-in-Some-clause-others : goal.returns-in-Some-clause-others
returns-in-Some-clause-others g c =
    let xs = c.args.inbox.now.receivers.items in let lt : c.args.from < length xs = search rules in
    map_set (through g.M.Mail.received) xs c.args.from (Some c.hear.new.receiver)
    ∙ ap (λ y. slice_set (map (through g.M.Mail.received) xs) c.args.from y)
    (sym (read_set (through g.M.Mail.received) xs c.args.from (Some c.hear.new.receiver) [] lt))

pub returns-in-Some-clause-keeps : goal.returns-in-Some-clause-keeps
returns-in-Some-clause-keeps g c =
    alike_set (Both (Keeps g.M.Mail)) (both_refl (Keeps g.M.Mail) (λ r. ((λ s p. p), (λ s p. p), refl)))
    c.args.inbox.now.receivers.items c.args.from
    c.index_mut.result.now (Some c.hear.new.receiver) c.index_mut.ensures.value
    (subst (λ end. Both (Keeps g.M.Mail) end (Some c.hear.new.receiver)) (sym c.in-Some.is)
    (c.hear.ensures.pair, c.hear.ensures.closed, c.hear.ensures.ends))

pub returns-in-None-clause-keeps : goal.returns-in-None-clause-keeps
returns-in-None-clause-keeps g c =
    let same = both_refl (Keeps g.M.Mail) (λ r. ((λ s p. p), (λ s p. p), refl)) in
    alike_set (Both (Keeps g.M.Mail)) same c.args.inbox.now.receivers.items c.args.from c.index_mut.result.now
    c.index_mut.result.now c.index_mut.ensures.value (same c.index_mut.result.now)
