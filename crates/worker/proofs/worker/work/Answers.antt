use Rattle.worker.proofs.worker.work.Goals as goal

pub returns-in-Err-clause-ended : goal.returns-in-Err-clause-ended
returns-in-Err-clause-ended g c = c.call_off.ensures.ended c.args.site.now.analysis.now
