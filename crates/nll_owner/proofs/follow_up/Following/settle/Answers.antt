use Rattle.std.proofs.Common.{drop, length, map, ap, arith, sym, ◌∙◌}
use Rattle.std.proofs.lemmas.List.{take_rest}
use Rattle.std.proofs.lemmas.Result.{IfOk-from_err}
use Rattle.nll_owner.specs.Owner.{Owner}
use Rattle.nll_owner.specs.Following.{following_of}
use Rattle.nll_owner.specs.RegionRuns.{TellTheSame}
use Rattle.nll_owner.proofs.OwnerLemmas.{grows_none, grows_append}
use Rattle.nll_owner.proofs.FollowingLemmas.{following_log, followed_closed, log_runs_held}
use Rattle.nll_owner.proofs.follow_up.Following.settle.Goals as goal
use Rattle.nll_owner.proofs.follow_up.Following.settle.Goals.{After-as_slice}

pub loop-self-init : goal.loop-self-init
loop-self-init c =
    record { grows = grows_none _ c.requires.sound; following = rw (← c.self.view_is) at c.requires.following }

told : (c : After-as_slice) → TellTheSame
    (drop c.loop-self.self-inside.place c.loop-self.knowledge.log) c.as_slice.result.now
told c =
    rw c.as_slice.ensures (rw (
      take_rest c.entries-in-loop-self.result.now c.loop-self.self-inside.place,
      c.entries-in-loop-self.ensures.log,
    ) at c.in_ok-gather.ensures)

pub follow_runs-requires-clause-held : goal.follow_runs-requires-clause-held
follow_runs-requires-clause-held c =
    log_runs_held c.loop-self.knowledge c.loop-self.invariant.grows.sound c.loop-self.self-inside.place
    c.as_slice.result.now (told (goal.at.follow_runs-requires-clause-held c).After-as_slice)

pub follow_runs-requires-clause-following : goal.follow_runs-requires-clause-following
follow_runs-requires-clause-following c =
    rw c.entries-end.ensures.log (following_log c.loop-self.knowledge
    (following_of (map (λ row. row.items) c.loop-self.self-inside.rows.items) c.loop-self.self-inside.place)
    c.as_slice.result.now
    (told (goal.at.follow_runs-requires-clause-following c).After-as_slice) c.loop-self.invariant.following)

pub returns-clause-followed : goal.returns-clause-followed
returns-clause-followed c = (
  c.loop-self.invariant.following,
  omega
      (arith, c.loop-self.invariant.following.within, c.loop-self-test.false, ap length c.entries.ensures.log),
)

pub returns-clause-closed : goal.returns-clause-closed
returns-clause-closed c =
    followed_closed c.loop-self.knowledge
    (following_of (map (λ row. row.items) c.loop-self.self-inside.rows.items) c.loop-self.self-inside.place)
    c.loop-self.invariant.grows.sound c.loop-self.invariant.following
    (omega (arith, c.loop-self.invariant.following.within, c.loop-self-test.false, ap length c.entries.ensures.log))

pub follow_runs-requires-clause-sound : goal.follow_runs-requires-clause-sound
follow_runs-requires-clause-sound c = c.loop-self.invariant.grows.sound

pub follow_runs-requires-clause-steps : goal.follow_runs-requires-clause-steps
follow_runs-requires-clause-steps c =
    c.requires.steps ∙ sym (ap (λ (o : Owner). o.problem.graph) c.loop-self.invariant.grows.others)

pub loop-self-preserved : goal.loop-self-preserved
loop-self-preserved c = record {
  grows = grows_append _ _ _ c.loop-self.invariant.grows c.follow_runs.ensures.grows;
  following = c.in_ok-follow_runs.ensures.following;
}

pub returns-clause-grows : goal.returns-clause-grows
returns-clause-grows c = c.loop-self.invariant.grows

pub returns-in_err-gather : goal.returns-in_err-gather
returns-in_err-gather c =
    let back = c.from_residual in
    record {
      grows = c.loop-self.invariant.grows;
      followed = IfOk-from_err back.result _ back.ensures.0;
      closed = IfOk-from_err back.result _ back.ensures.0;
    }

pub returns-in_err-follow_runs : goal.returns-in_err-follow_runs
returns-in_err-follow_runs c =
    let back = c.from_residual-in_err-follow_runs in
    record {
      grows = grows_append _ _ _ c.loop-self.invariant.grows c.follow_runs.ensures.grows;
      followed = IfOk-from_err back.result _ back.ensures.0;
      closed = IfOk-from_err back.result _ back.ensures.0;
    }
