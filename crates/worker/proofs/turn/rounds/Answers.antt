use Rattle.worker.proofs.AccountLemmas.{stays_on}
use Rattle.worker.proofs.turn.rounds.Goals as goal
use Rattle.worker.proofs.turn.rounds.Goals.{in-Nothing, in_default-round}

pub loop-preserved : goal.loop-preserved
loop-preserved g c =
    let f = c.round.ensures in
    record {
      stays = stays_on g.L.Ledger g.A.Rules.rules g.M.Mail _ _ _ _ _ _ _ _ _ _ _ _ c.loop.invariant.stays f.stays;
      comes = elim c.match-round.branch [
        | in-Nothing w ↦ rw w.heard-is w.in-Nothing.ensures.comes
        | in_default-round w ↦ rw w.heard-is f.comes
      ];
    }
