use Rattle.std.proofs.Common.{map}
use Rattle.nll_answer.proofs.run_answers.answer_run.Goals as goal

pub returns-in_ok-told-in-Ok-clause-ok : goal.returns-in_ok-told-in-Ok-clause-ok
returns-in_ok-told-in-Ok-clause-ok g c =
    let ran = c.in-Ok.ensures.ok in
    record {
      logs = map (λ list. list.items) c.in-Ok.outcome.grown.items;
      sound = ran.sound;
      logged = ran.logged;
      answer = c.in_ok-told-in-Ok.ensures.ok;
    }
