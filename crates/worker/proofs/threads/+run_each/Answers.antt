use Rattle.std.proofs.Common.{◌≡◌, length, rules}
use Rattle.worker.proofs.JobLemmas.{alike_none}
use Rattle.worker.proofs.threads.+run_each.Goals as goal

pub returns-in-None-clause-done : goal.returns-in-None-clause-done
returns-in-None-clause-done g t c =
    let none : length c.args.jobs.items ≡ 0 = search rules in
    alike_none _ _ c.args.jobs.items c.args.room.items none c.requires.room.0
