use Rattle.std.proofs.Common.{◌≡◌, ◌+◌, ◌≤◌, ℕ, false, map}
use Rattle.fixpoint.specs.State.{IsSoundPart, given_to}
use Rattle.worker.specs.Mailboxes.{Alike, Stays, Both, through}
use Rattle.worker.specs.Tallies.{given_of}
use Rattle.worker.specs.Turning.{HasPosted, HasGivenMore}
use Rattle.worker.proofs.posts.post_all.Given as goal

abbrev pub invariant-loop-to : goal.invariant-loop-to
invariant-loop-to g l = record {
  sound : IsSoundPart g.A.Rules.rules (g.A.Analysis.state l.part);
  others : (g.A.Analysis.state l.part) ≡ record (g.A.Analysis.state l.fn.part) {
    given =
        (g.A.Analysis.state l.part).given;
  };
  many : g.M.Mail.is_bounded ≡ false → HasGivenMore g.A.Rules.rules l.most l.to (g.A.Analysis.state l.fn.part)
      (g.A.Analysis.state l.part);
  count : given_of g.A.Rules.rules (g.A.Analysis.state l.part)
      ≡ given_of g.A.Rules.rules (g.A.Analysis.state l.fn.part) + l.count;
  rest : (j : ℕ) → l.to ≤ j → given_to (g.A.Analysis.state l.part) j ≡ given_to (g.A.Analysis.state l.fn.part) j;
  posts : HasPosted g.A.Rules.rules (g.A.Analysis.state l.part) (map (through g.M.Mail.sent) l.senders.items);
  pairs : Alike (Both (Stays g.M.Mail)) l.fn.senders.items l.senders.items;
}
