use Rattle.std.proofs.Common.{◌<◌, [], map, sym, subst, ◌∙◌, arith, vec_capacity}
use Rattle.fixpoint.specs.Logs.{log_of}
use Rattle.worker.specs.Finishing.{IsGiven, IsFresh, Leaves, FinishedAs}
use Rattle.worker.specs.Mailboxes.{HasEnds, through}
use Rattle.run.specs.Table.{AreEnds, IsEndTable}
use Rattle.run.proofs.PlaceLemmas.{place, within, mapped, map_size, all_of}
use Rattle.run.proofs.EndingLemmas.{table_then, empty_row, whole_row, empty_column, answer_of, if_ok_map, started_answer}
use Rattle.run.proofs.coordinator.run_with.Goals as goal

pub run_all-outcome-requires-clause-given : goal.run_all-outcome-requires-clause-given
run_all-outcome-requires-clause-given g c κs within' =
    let m = g.M.Mail in let b = g.L.Ledger in
    let p = c.in_ok-book.ensures in
    let n = c.parts-owners.ensures.count in
    let ws = c.in_ok-book.workers.items in
    all_of (λ w. IsGiven b m (g.A.Rules.rules.parts c.args.analysis.now) c.in_ok-book.book w.me w.share
    w.outbox.senders.items w.receivers.items w.room.items (vec_capacity w.room)) ws (λ k w e.
    let x = p.each k w e in let s = p.shares k w e in
    let l : k < c.parts-owners.result =
    (let h = within ws k w e in let r = p.table.row_count in let z = map_size (λ y. y.outbox.senders.items) ws in
    omega (arith, h, r, z)) in
    let row =
    empty_row m c.parts-owners.result _ _ p.table k w.outbox.senders.items l
    (mapped (λ y. y.outbox.senders.items) ws k w [] e) in
    let column =
    empty_column m c.parts-owners.result _ _ p.table k w.receivers.items l
    (mapped (λ y. y.receivers.items) ws k w [] e) in
    record {
      me_in = omega (arith, l, n, x.0);
      few = ((g.met.A.Rules g.world.𝓛 g.world.𝓜 g.world.𝓡 ((λ s x. x), (λ x. x), (λ x. x), λ x. x)).lawful.few
          c.args.analysis.now c.parts-owners.ensures.valid).1;
      fresh = subst (λ i. IsFresh b c.in_ok-book.book i w.share) (sym x.0) s;
      ends = subst (λ i. HasEnds i w.outbox.senders.items) (sym x.0)
          (whole_row m c.parts-owners.result _ _ p.table k w.outbox.senders.items l
          (mapped (λ y. y.outbox.senders.items) ws k w [] e));
      posts = (row.0 ∙ n, row.1);
      taken = (column.0 ∙ n, column.1);
      none_kept = x.1;
      space = (let z = map_size (through m.sent) w.outbox.senders.items in let y = row.0 in omega (arith, x.2, z, y));
    })

pub conclude-requires-clause-table : goal.conclude-requires-clause-table
conclude-requires-clause-table g c =
    let m = g.M.Mail in
    let each = c.in-Ok.ensures.ended in
    let table =
    table_then m (λ w. w.outbox.senders.items) (λ w. w.receivers.items) (λ d. d.closed.items)
    (λ d. d.receivers.items)
    c.in_ok-book.workers.items c.in-Ok.finished.items c.parts-owners.result each.len
    (λ k w d a z. (each.at k w d a z).shuts) (λ k w d a z. (each.at k w d a z).keeps) c.in_ok-book.ensures.table in
    subst (λ n. IsEndTable (AreEnds m.closes m.ends) n n (map (λ d. d.closed.items) c.in-Ok.finished.items)
    (map (λ d. d.receivers.items) c.in-Ok.finished.items)) c.parts-owners.ensures.count table

pub conclude-requires-clause-leaves : goal.conclude-requires-clause-leaves
conclude-requires-clause-leaves g c = λ k d e.
    let b = g.L.Ledger in
    let each = c.in-Ok.ensures.ended in
    let w = place c.in_ok-book.workers.items k
    (let h = within c.in-Ok.finished.items k d e in omega (arith, h, each.len)) in
    subst (λ i. Leaves b c.in_ok-book.book i d.left d.ending) (c.in_ok-book.ensures.each k w.0 w.1).0
    (each.at k w.0 d w.1 e).leaves

pub conclude-requires-clause-finishes : goal.conclude-requires-clause-finishes
conclude-requires-clause-finishes g c = λ k d e made.
    let m = g.M.Mail in let b = g.L.Ledger in
    let each = c.in-Ok.ensures.ended in
    let w = place c.in_ok-book.workers.items k
    (let h = within c.in-Ok.finished.items k d e in omega (arith, h, each.len)) in
    subst (λ i. FinishedAs g.A.Rules.rules g.A.Analysis.yields c.args.analysis.now i
    (log_of (map (through m.all_sent) d.closed.items))
    (log_of (map (through m.received) d.receivers.items)) (b.left_owed d.left) (b.left_cleared d.left)
    d.ending d.log.items
    d.yielded)
    (c.in_ok-book.ensures.each k w.0 w.1).0 ((each.at k w.0 d w.1 e).finishes made)

pub returns-in-Ok-clause-permitted : goal.returns-in-Ok-clause-permitted
returns-in-Ok-clause-permitted g c =
    let answered = c.in-Ok.ensures.answered in
    if_ok_map c.conclude.result _ _ (λ _ started k l.
    let w = place c.in_ok-book.workers.items k
    (let n = c.parts-owners.ensures.count in let z = c.in_ok-book.ensures.count in omega (arith, l, n, z)) in
    let d = place c.in-Ok.finished.items k
    (let h = within c.in_ok-book.workers.items k w.0 w.1 in omega (arith, h, answered.len)) in
    started_answer (g.P.Permit.permits c.args.permit.now k) d.0.ending (started k d.0 d.1)
    (answered.at k w.0 d.0 w.1 d.1))
    c.conclude.ensures.started

pub returns-in-Ok-clause-thread : goal.returns-in-Ok-clause-thread
returns-in-Ok-clause-thread g c = λ is.
    let answered = c.in-Ok.ensures.answered in
    let x = c.conclude.ensures.thread is in
    let w = place c.in_ok-book.workers.items x.0
    (let h = within c.in-Ok.finished.items x.0 x.1 x.2 in omega (arith, h, answered.len)) in
    let a = answer_of (g.P.Permit.permits c.args.permit.now x.0) x.1.ending (answered.at x.0 w.0 x.1 w.1 x.2) in
    let l = within c.in_ok-book.workers.items x.0 w.0 w.1 in
    let n = c.parts-owners.ensures.count in
    let z = c.in_ok-book.ensures.count in
    (x.0, a.0, omega (arith, l, n, z), a.1)
