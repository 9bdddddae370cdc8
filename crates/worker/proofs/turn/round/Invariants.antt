use Rattle.std.proofs.Common.{◌≡◌, map}
use Rattle.worker.specs.Mailboxes.{through}
use Rattle.worker.specs.Turning.{IsAtRest, StaysAtWork}
use Rattle.worker.proofs.turn.round.Given as goal

abbrev pub invariant-loop-step : goal.invariant-loop-step
invariant-loop-step g l = record {
  stays : StaysAtWork g.A.Rules.rules g.L.Ledger g.M.Mail (g.A.Analysis.state l.fn.part) (g.A.Analysis.state l.part)
      l.fn.account.book.now l.fn.account.share l.account.book.now l.account.share
      l.fn.inbox.receivers.items l.inbox.receivers.items;
  rests : IsAtRest g.A.Rules.rules (g.A.Analysis.state l.part) (map (through g.M.Mail.received)
      l.inbox.receivers.items) (g.L.Ledger.owed l.account.share)
      (g.L.Ledger.cleared l.account.share) l.account.tally;
  -- where a turn receives one growth, none has come yet
  single : l.fn.pace.taken ≡ 1 → l.account.tally.turns ≡ l.fn.account.tally.turns;
}
