use Rattle.std.proofs.Common.{map}
use Rattle.run.specs.Table.{AreEnds, AreNewEnds, IsEndTable}
use Rattle.run.proofs.mailboxes.make_rows.Given as goal

abbrev pub invariant-loop-from : goal.invariant-loop-from
invariant-loop-from g l =
    let m = g.M.Mail in
    IsEndTable (AreEnds (AreNewEnds m) m.ends) l.from l.owners (map (λ o. o.senders.items) l.rows.items)
    (map (λ c. c.items) l.columns.items)
