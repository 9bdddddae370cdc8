use Rattle.std.proofs.Common.{map}
use Rattle.nll_owner.specs.Following.{following_of}
use Rattle.nll_owner.specs.RegionRuns.{TellTheSame}
use Rattle.nll_owner.proofs.OwnerLemmas.{grows_append}
use Rattle.nll_owner.proofs.FollowingLemmas.{following_runs, runs_held}
use Rattle.nll_owner.proofs.follow_up.Following.follow_all.Goals as goal
use Rattle.nll_owner.proofs.follow_up.Following.follow_all.Goals.{After-as_slice}

told : (c : After-as_slice) → TellTheSame c.args.growths.now c.as_slice.result.now
told c = rw c.as_slice.ensures c.in_ok-gather.ensures

pub follow_runs-requires-clause-held : goal.follow_runs-requires-clause-held
follow_runs-requires-clause-held c =
    runs_held c.args.knowledge.now c.args.growths.now c.as_slice.result.now
    (told (goal.at.follow_runs-requires-clause-held c).After-as_slice) c.requires.regions c.requires.has

pub follow_runs-requires-clause-following : goal.follow_runs-requires-clause-following
follow_runs-requires-clause-following c =
    following_runs c.args.growths.now c.as_slice.result.now c.args.knowledge.now
    (following_of (map (λ row. row.items) c.self.inside.rows.items) c.self.inside.place)
    (told (goal.at.follow_runs-requires-clause-following c).After-as_slice)
    (rw (← c.self.view_is) at c.requires.following)

pub returns-clause-grows : goal.returns-clause-grows
returns-clause-grows c = grows_append _ _ _ c.follow_runs.ensures.grows c.settle.ensures.grows

pub settle-requires-clause-following : goal.settle-requires-clause-following
settle-requires-clause-following c = c.in_ok-follow_runs.ensures.following
