use Rattle.std.proofs.Common.{◌≡◌, ap}
use Rattle.std.proofs.lemmas.Result.{IfOk-from_err}
use Rattle.nll_owner.specs.Following.{link_shape}
use Rattle.nll_owner.specs.declared.link.Link.{Link}
use Rattle.nll_owner.proofs.OwnerLemmas.{grows_none}
use Rattle.nll_owner.proofs.AdvanceLemmas.{found_below, found_called, advanced_on, may_grow}
use Rattle.nll_owner.proofs.FollowingLemmas.{own_region}
use Rattle.nll_owner.proofs.link.hand_run.Goals as goal
use Rattle.nll_owner.proofs.link.hand_run.Goals.{In_ok-grow_run}

pub grow_run-requires : goal.grow_run-requires
grow_run-requires c =
    rw c.requires.inside.steps (may_grow c.args.knowledge.now c.args.later.now.region _ c.args.link.now c.set.result.now
    c.args.run c.requires.inside.sound c.requires.link c.set.ensures.width
    (c.set.ensures.has c.args.later.now.region c.requires.inside.slot) c.requires.run.proper c.requires.run.has
    c.requires.followed)

-- the link as its frontier has grown
abbrev then : In_ok-grow_run → Link
then c = record { sup = c.args.link.now.sup; frontier = c.grow_run.new.self; rests = c.args.link.now.rests }

same : (c : In_ok-grow_run) → link_shape (then c) ≡ link_shape c.args.link.now
same c = ap (λ starts. (c.args.link.now.sup, starts)) c.grow_run.ensures.starts

pub grow_runs-requires-clause-elements : goal.grow_runs-requires-clause-elements
grow_runs-requires-clause-elements c =
    let d = (goal.at.grow_runs-requires-clause-elements c).In_ok-grow_run in
    rw c.deref.ensures.value (found_below c.args.knowledge.now c.args.later.now.region c.args.run c.set.result.now
    c.args.link.now (then d) c.grow_run.new.found.items
    c.requires.link (c.set.ensures.has c.args.later.now.region c.requires.inside.slot) (same d)
    (rw c.requires.inside.steps at c.in_ok-grow_run.ensures.ok))

pub grow_runs-requires-clause-called : goal.grow_runs-requires-clause-called
grow_runs-requires-clause-called c =
    let d = (goal.at.grow_runs-requires-clause-called c).In_ok-grow_run in
    rw c.deref.ensures.value (found_called c.args.knowledge.now c.args.later.now.region c.args.run c.set.result.now
    c.args.link.now (then d) c.grow_run.new.found.items
    c.requires.link (c.set.ensures.has c.args.later.now.region c.requires.inside.slot) (same d)
    (rw c.requires.inside.steps at c.in_ok-grow_run.ensures.ok))

pub returns-in_err-grow_run-clause-grows : goal.returns-in_err-grow_run-clause-grows
returns-in_err-grow_run-clause-grows c = grows_none _ c.requires.inside.sound

pub returns-clause-followed : goal.returns-clause-followed
returns-clause-followed c =
    let d = (goal.at.returns-clause-followed c).In_ok-grow_run in
    advanced_on c.args.knowledge.now c.args.later.now.region c.args.run c.set.result.now c.args.link.now
    (then d) c.grow_run.new.found.items
    c.requires.link (c.set.ensures.has c.args.later.now.region c.requires.inside.slot) (same d)
    (rw c.requires.inside.steps at c.in_ok-grow_run.ensures.ok)
    c.grow_runs.new.self c.grow_runs.ensures.grows c.args.later.now.place c.args.limit c.args.later.now.runs.now
    c.requires.inside.place
    c.requires.followed c.requires.awake c.requires.awake
    (rw c.deref.ensures.value at c.in_ok-grow_runs.ensures.covers)

pub returns-in_err-grow_run-clause-same : goal.returns-in_err-grow_run-clause-same
returns-in_err-grow_run-clause-same c = ap (λ starts. (c.args.link.now.sup, starts)) c.grow_run.ensures.starts

pub returns-in_err-grow_runs-clause-grows : goal.returns-in_err-grow_runs-clause-grows
returns-in_err-grow_runs-clause-grows c = c.grow_runs.ensures.grows

pub returns-in_err-grow_runs-clause-same : goal.returns-in_err-grow_runs-clause-same
returns-in_err-grow_runs-clause-same c = ap (λ starts. (c.args.link.now.sup, starts)) c.grow_run.ensures.starts

pub returns-clause-grows : goal.returns-clause-grows
returns-clause-grows c = c.grow_runs.ensures.grows

pub returns-clause-same : goal.returns-clause-same
returns-clause-same c = ap (λ starts. (c.args.link.now.sup, starts)) c.grow_run.ensures.starts

pub grow_runs-requires-clause-sound : goal.grow_runs-requires-clause-sound
grow_runs-requires-clause-sound c = c.requires.inside.sound

pub grow_runs-requires-clause-own : goal.grow_runs-requires-clause-own
grow_runs-requires-clause-own c = c.requires.link.own

pub grow_runs-requires-clause-region : goal.grow_runs-requires-clause-region
grow_runs-requires-clause-region c =
    own_region c.args.knowledge.now c.requires.inside.sound c.args.link.now.sup c.requires.link.own

pub returns-clause-awake : goal.returns-clause-awake
returns-clause-awake c = c.requires.awake

pub returns-in_err-grow_run-clause-followed : goal.returns-in_err-grow_run-clause-followed
returns-in_err-grow_run-clause-followed c = IfOk-from_err c.from_residual.result _ c.from_residual.ensures.0

pub returns-in_err-grow_run-clause-awake : goal.returns-in_err-grow_run-clause-awake
returns-in_err-grow_run-clause-awake c = c.requires.awake

pub returns-in_err-grow_runs-clause-followed : goal.returns-in_err-grow_runs-clause-followed
returns-in_err-grow_runs-clause-followed c =
    IfOk-from_err c.from_residual-in_err-grow_runs.result _ c.from_residual-in_err-grow_runs.ensures.0

pub returns-in_err-grow_runs-clause-awake : goal.returns-in_err-grow_runs-clause-awake
returns-in_err-grow_runs-clause-awake c = c.requires.awake
