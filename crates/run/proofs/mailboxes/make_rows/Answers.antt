use Rattle.std.proofs.Common.{◌+◌, map, sym, subst, ap, ◌∙◌}
use Rattle.run.specs.Table.{AreEnds, AreNewEnds, IsEndTable}
use Rattle.run.proofs.PlaceLemmas.{map_push}
use Rattle.run.proofs.TableLemmas.{table_more}
use Rattle.run.proofs.mailboxes.make_rows.Goals as goal

pub loop-from-preserved : goal.loop-from-preserved
loop-from-preserved g c =
    let m = g.M.Mail in let from = c.loop-from.from in
    let rows = map (λ o. o.senders.items) c.loop-from.rows.items in
    let more =
    table_more (AreEnds (AreNewEnds m) m.ends) from c.args.owners rows (map (λ x. x.items) c.loop-from.columns.items)
    (map (λ x. x.items) c.make_row.new.columns.items) c.in_ok-row.row.senders.items c.loop-from.invariant
    c.in_ok-row.ensures.row in
    let pushed = ap (map (λ o. o.senders.items)) c.in_ok-push.ensures.items
    ∙ map_push (λ o. o.senders.items) c.loop-from.rows.items c.in_ok-row.row in
    subst (λ l. IsEndTable (AreEnds (AreNewEnds m) m.ends) (from + 1) c.args.owners l
    (map (λ x. x.items) c.make_row.new.columns.items)) (sym pushed) more
