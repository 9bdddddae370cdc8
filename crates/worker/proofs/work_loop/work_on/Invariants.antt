use Rattle.std.proofs.Common.{◌≡◌, false, map}
use Rattle.fixpoint.specs.State.{IsSoundPart}
use Rattle.worker.specs.Mailboxes.{Alike, Stays, Keeps, Both, through}
use Rattle.worker.specs.Finishing.{IsPartOf}
use Rattle.worker.specs.Turning.{ComesTo, HasPosted}
use Rattle.worker.proofs.work_loop.work_on.Given as goal

abbrev pub invariant-loop : goal.invariant-loop
invariant-loop g l =
    (goal.iterator-loop g).can_next l.iterator' × (goal.iterator-loop g).is_finite l.iterator'
    × IsPartOf (g.A.Analysis.state l.fn.part).system (g.A.Analysis.state l.fn.part).me (g.A.Analysis.state l.part)
    × IsSoundPart g.A.Rules.rules (g.A.Analysis.state l.part)
    × (g.L.Ledger.belongs l.account.book.now l.account.share × (l.account.book.now ≡ l.fn.account.book.now) ×
    (g.L.Ledger.number l.account.share ≡ (g.A.Analysis.state l.fn.part).me)
    × (g.L.Ledger.called l.account.share ≡ false))
    × ComesTo g.A.Rules.rules (g.A.Analysis.state l.part) (map (through g.M.Mail.received) l.inbox.receivers.items)
    (g.L.Ledger.owed l.account.share)
    (g.L.Ledger.cleared l.account.share) l.account.tally l.heard
    × HasPosted g.A.Rules.rules (g.A.Analysis.state l.part) (map (through g.M.Mail.sent) l.senders.items)
    × Alike (Both (Stays g.M.Mail)) l.fn.senders.items l.senders.items
    × Alike (Both (Keeps g.M.Mail)) l.fn.inbox.receivers.items l.inbox.receivers.items
