use Rattle.std.proofs.Common.{map, sym, subst, arith}
use Rattle.fixpoint.specs.Logs.{log_of}
use Rattle.worker.specs.Mailboxes.{Stays, Both, through}
use Rattle.fixpoint.specs.Finishing.{Finishes}
use Rattle.worker.proofs.FinishLemmas.{finished_as}
use Rattle.worker.proofs.ListLemmas.{alike_length, shut_lists, shut_on}
use Rattle.worker.proofs.worker.with_part.Goals as goal

pub close_all-closed-requires : goal.close_all-closed-requires
close_all-closed-requires g c =
    let same = alike_length (Both (Stays g.M.Mail)) _ _ c.work_on-left.ensures.pairs in
    (c.requires.given.none_kept, omega (arith, same, c.requires.given.space))

pub returns-clause-ended : goal.returns-clause-ended
returns-clause-ended g c =
    let m = g.M.Mail in
    let b = c.work_on-left in
    let p = c.into_parts-log.ensures in
    let lists = shut_lists m b.new.senders.items c.close_all-closed.result.items c.close_all-closed.ensures in
    record {
      shuts = shut_on m _ _ _ b.ensures.pairs c.close_all-closed.ensures;
      keeps = b.ensures.keeps;
      finishes = λ made. finished_as g.A.Rules.rules g.A.Analysis.yields _ _
          (g.A.Analysis.state b.new.part) _ _ _ _ _ _ _ p.log (subst (λ xs. Finishes g.A.Rules.rules
          (g.A.Analysis.state c.args.part).system (g.A.Analysis.state c.args.part).me
          (g.A.Analysis.state b.new.part) (log_of xs)
          (log_of (map (through m.received) b.new.inbox.receivers.items))
          (g.L.Ledger.left_owed b.result.0) (g.L.Ledger.left_cleared b.result.0) b.result.1) (sym lists)
          b.ensures.finishes) p.yields;
      leaves = b.ensures.leaves;
    }
