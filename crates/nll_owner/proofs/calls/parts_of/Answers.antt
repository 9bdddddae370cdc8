use Rattle.std.proofs.lemmas.Result.{IfOk-from_err}
use Rattle.nll_owner.proofs.OutboxLemmas.{queued_first}
use Rattle.nll_owner.proofs.calls.parts_of.Goals as goal

pub new-requires-2-clause-index : goal.new-requires-2-clause-index
new-requires-2-clause-index c = rw (← c.tables.view_is) at c.requires.tables.same_constraints

pub returns-in_err-outboxes : goal.returns-in_err-outboxes
returns-in_err-outboxes c =
    let back = c.from_residual in
    record {
      owner = IfOk-from_err back.result _ back.ensures.0;
      sound = IfOk-from_err back.result _ back.ensures.0;
      following = IfOk-from_err back.result _ back.ensures.0;
      queued = IfOk-from_err back.result _ back.ensures.0;
    }

pub returns-in_err-slots : goal.returns-in_err-slots
returns-in_err-slots c =
    let back = c.from_residual-in_err-slots in
    record {
      owner = IfOk-from_err back.result _ back.ensures.0;
      sound = IfOk-from_err back.result _ back.ensures.0;
      following = IfOk-from_err back.result _ back.ensures.0;
      queued = IfOk-from_err back.result _ back.ensures.0;
    }

pub returns-in_err-following : goal.returns-in_err-following
returns-in_err-following c =
    let back = c.from_residual-in_err-following in
    record {
      owner = IfOk-from_err back.result _ back.ensures.0;
      sound = IfOk-from_err back.result _ back.ensures.0;
      following = IfOk-from_err back.result _ back.ensures.0;
      queued = IfOk-from_err back.result _ back.ensures.0;
    }

pub returns-in-Err : goal.returns-in-Err
returns-in-Err c = record { owner = tt; sound = tt; following = tt; queued = tt }

pub returns-in-Ok-clause-owner : goal.returns-in-Ok-clause-owner
returns-in-Ok-clause-owner c = c.in-Ok.ensures.owner

pub returns-in-Ok-clause-sound : goal.returns-in-Ok-clause-sound
returns-in-Ok-clause-sound c = c.in-Ok.ensures.sound

pub returns-in-Ok-clause-following : goal.returns-in-Ok-clause-following
returns-in-Ok-clause-following c = c.in_ok-following.ensures

pub returns-in-Ok-clause-queued : goal.returns-in-Ok-clause-queued
returns-in-Ok-clause-queued c =
    rw (c.in_ok-outboxes.ensures, c.owners.ensures.value) (queued_first c.args.problem.now c.args.cut.now c.args.me)
