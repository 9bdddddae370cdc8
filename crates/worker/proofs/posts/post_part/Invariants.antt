use Rattle.std.proofs.Common.{◌≡◌, ◌+◌, ◌-◌, ◌≤◌, length}
use Rattle.fixpoint.specs.State.{part_for, given_to}
use Rattle.worker.proofs.PostingLemmas.{Posting}
use Rattle.worker.proofs.posts.post_part.Given as goal

abbrev pub invariant-loop-growth : goal.invariant-loop-growth
invariant-loop-growth g l = record {
  posting : Posting g.A.Rules.rules (g.A.Analysis.state l.fn.part) (g.A.Analysis.state l.part) l.to
      (g.M.Mail.sent l.sender);
  count : given_to (g.A.Analysis.state l.part) l.to ≡ given_to (g.A.Analysis.state l.fn.part) l.to + l.posted;
  few : l.posted ≤ l.most;
  pair : (r : _) → g.M.Mail.pairs l.fn.sender r → g.M.Mail.pairs l.sender r;
}

abbrev pub decreases-loop-growth : goal.decreases-loop-growth
decreases-loop-growth g l = length (part_for g.A.Rules.rules (g.A.Analysis.state l.part) l.to) - given_to
    (g.A.Analysis.state l.part) l.to
