use Rattle.std.proofs.Common.{◌≡◌, ◌≤◌, ◌++◌, ◌-◌, length, Contains, vec_len, vec_capacity}
use Rattle.mail.specs.Limits.{most_posts}
use Rattle.fixpoint.specs.State.{Passes}
use Rattle.worker.proofs.inbox.take_batch.Given as goal

-- What was taken stands in the list, and all of it can be its sender's.
abbrev pub invariant-loop-receiver : goal.invariant-loop-receiver
invariant-loop-receiver g l = record {
  room : l.most ≤ vec_capacity l.batch;
  many : length l.batch.items ≤ l.most;
  taken : g.M.Mail.received l.receiver ≡ g.M.Mail.received l.fn.receiver ++ l.batch.items;
  passes : (h : _) → Contains l.batch.items h → Passes g.A.Rules.rules (g.A.Analysis.state l.part).system
      (g.A.Analysis.state l.part).me l.from h;
  few : length (g.M.Mail.received l.fn.receiver) ≤ most_posts → length (g.M.Mail.received l.receiver) ≤ most_posts;
  pair : (s : _) → g.M.Mail.pairs s l.fn.receiver → g.M.Mail.pairs s l.receiver;
  closed : (s : _) → g.M.Mail.closes s l.fn.receiver → g.M.Mail.closes s l.receiver;
  ends : g.M.Mail.ends l.receiver ≡ g.M.Mail.ends l.fn.receiver;
}

abbrev pub decreases-loop-receiver : goal.decreases-loop-receiver
decreases-loop-receiver g l = l.most - vec_len l.batch
