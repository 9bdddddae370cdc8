use Rattle.std.proofs.Common.{◌≤◌, map, vec_capacity}
use Rattle.run.specs.Table.{AreEnds, AreNewEnds, IsPartRow}
use Rattle.run.proofs.mailboxes.make_row.Given as goal

abbrev pub invariant-loop-to : goal.invariant-loop-to
invariant-loop-to g l =
    let m = g.M.Mail in
    (l.owners ≤ vec_capacity l.row.senders)
    × IsPartRow (AreEnds (AreNewEnds m) m.ends) l.to l.from l.row.senders.items (map (λ c. c.items) l.fn.columns.items)
    (map (λ c. c.items) l.columns.items)
