use Rattle.worker.specs.Finishing.{IsEnded}
use Rattle.worker.proofs.JobLemmas.{answered, each_from, ended, if_ok_map}
use Rattle.worker.proofs.starts.run_all.Goals as goal

pub returns-clause-ended : goal.returns-clause-ended
returns-clause-ended g c =
    let s = c.args.site.now in
    if_ok_map c.run_jobs.result _ _ (λ all a. each_from _ _ (λ k w d b.
    ended (λ x. IsEnded g.L.Ledger g.A.Rules.rules g.A.Analysis.yields g.M.Mail s.analysis.now s.book.now w.me
    w.outbox.senders.items w.receivers.items x.log.items x.yielded x.left x.closed.items x.receivers.items x.ending)
    (λ x. x.ending) (g.P.Permit.permits c.args.permit.now k) d b) c.args.workers.items all.items a)
    c.run_jobs.ensures

pub returns-clause-answered : goal.returns-clause-answered
returns-clause-answered g c =
    let s = c.args.site.now in
    if_ok_map c.run_jobs.result _ _ (λ all a. each_from _ _ (λ k w d b.
    answered (λ x. IsEnded g.L.Ledger g.A.Rules.rules g.A.Analysis.yields g.M.Mail s.analysis.now s.book.now w.me
    w.outbox.senders.items w.receivers.items x.log.items x.yielded x.left x.closed.items x.receivers.items x.ending)
    (λ x. x.ending) (g.P.Permit.permits c.args.permit.now k) d b) c.args.workers.items all.items a)
    c.run_jobs.ensures
