use Rattle.std.proofs.Common.{◌≡◌, ◌+◌, ◌<◌, get_or, length, refl, sym, subst, ◌∙◌, arith}
use Rattle.std.proofs.lemmas.List.{get_or_default, take_rest}
use Rattle.nll_owner.specs.Owner.{Has}
use Rattle.nll_owner.specs.declared.region_runs.RegionRun.{RegionRun}
use Rattle.nll_owner.proofs.OwnerLemmas.{grows_none, grows_append, has_grows}
use Rattle.nll_owner.proofs.RegionRunLemmas.{inside_grows}
use Rattle.nll_owner.proofs.AdvanceLemmas.{due_next, due_done, idle, rested}
use Rattle.nll_owner.proofs.LinkLemmas.{link_grows}
use Rattle.nll_owner.proofs.link.advance.Goals as goal
use Rattle.nll_owner.proofs.link.advance.Goals.{After-index-due-number}

pub returns-then-is_idle-clause-grows : goal.returns-then-is_idle-clause-grows
returns-then-is_idle-clause-grows c = grows_none _ c.requires.due.inside.sound

pub returns-then-is_idle-clause-followed : goal.returns-then-is_idle-clause-followed
returns-then-is_idle-clause-followed c =
    idle c.args.knowledge.now c.args.due.now.region c.args.due.now.place c.args.link.now c.args.due.now.runs.now
    c.args.due.now.count c.requires.due.count c.requires.behind.followed
    (c.is_idle.ensures.awake c.if-is_idle.true) c.requires.due.some (c.is_idle.ensures.idle c.if-is_idle.true)

pub returns-then-may_rest-clause-grows : goal.returns-then-may_rest-clause-grows
returns-then-may_rest-clause-grows c = grows_none _ c.requires.due.inside.sound

pub returns-then-may_rest-clause-followed : goal.returns-then-may_rest-clause-followed
returns-then-may_rest-clause-followed c =
    rested c.args.knowledge.now c.args.due.now.region c.args.due.now.place c.args.link.now c.args.due.now.runs.now
    c.args.due.now.count c.requires.due.count c.requires.behind.followed
    (c.may_rest.ensures.still c.if-may_rest.true) (c.may_rest.ensures.all c.if-may_rest.true)

-- the run at the number
abbrev here : After-index-due-number → RegionRun
here c = get_or c.args.due.now.runs.now c.loop-number.number c.index-due-number.result

within : (c : After-index-due-number) → c.loop-number.number < length c.args.due.now.runs.now
within c = omega (arith, c.loop-number-test.true, c.requires.due.count)

at : (c : After-index-due-number) → get_or c.args.due.now.runs.now c.loop-number.number (here c) ≡ here c
at c = get_or_default c.args.due.now.runs.now c.loop-number.number _ _ (within c)

region : (c : After-index-due-number) → (here c).region ≡ c.args.due.now.region
region c = c.requires.due.first c.loop-number.number (here c) c.loop-number-test.true (at c)

pub loop-number-init : goal.loop-number-init
loop-number-init c = record {
  grows = grows_none _ c.requires.due.inside.sound;
  same = refl;
  awake = c.if-link.false;
  followed = c.requires.behind.followed;
}

pub hand_run-requires-clause-inside : goal.hand_run-requires-clause-inside
hand_run-requires-clause-inside c =
    let w = inside_grows _ _ c.loop-number.invariant.grows _ c.requires.due.inside in
    record { sound = w.sound; steps = w.steps; slot = w.slot; place = w.place }

pub hand_run-requires-clause-run : goal.hand_run-requires-clause-run
hand_run-requires-clause-run c =
    let d = (goal.at.hand_run-requires-clause-run c).After-index-due-number in
    record {
      proper = c.requires.due.held.proper (here d) (c.loop-number.number, within d, at d);
      has = λ x own. has_grows _ _ c.loop-number.invariant.grows c.args.due.now.region x
          (subst (λ r. Has c.args.knowledge.now r x) (region d)
          (c.requires.due.held.has (here d) (c.loop-number.number, within d, at d) x own));
    }

pub hand_run-requires-clause-link : goal.hand_run-requires-clause-link
hand_run-requires-clause-link c =
    link_grows _ _ c.loop-number.invariant.grows c.args.due.now.region c.args.link.now c.loop-number.link
    (sym c.loop-number.invariant.same) c.requires.behind.link

pub hand_run-requires-clause-followed : goal.hand_run-requires-clause-followed
hand_run-requires-clause-followed c =
    let d = (goal.at.hand_run-requires-clause-followed c).After-index-due-number in
    due_next c.loop-number.knowledge c.args.due.now.region c.args.due.now.place c.loop-number.link
    c.args.due.now.runs.now c.loop-number.number (here d) _
    (take_rest c.args.due.now.runs.now (c.loop-number.number + 1)) (within d) (sym (at d))
    (region d) c.loop-number.invariant.followed

pub loop-number-preserved : goal.loop-number-preserved
loop-number-preserved c = record {
  grows = grows_append _ _ _ c.loop-number.invariant.grows c.hand_run.ensures.grows;
  same = c.hand_run.ensures.same ∙ c.loop-number.invariant.same;
  awake = c.hand_run.ensures.awake;
  followed =
      due_done c.hand_run.new.knowledge c.args.due.now.region c.args.due.now.place c.hand_run.new.link
      c.args.due.now.runs.now c.loop-number.number _ _
      (take_rest c.args.due.now.runs.now (c.loop-number.number + 1)) c.in_ok-hand_run.ensures.followed;
}

pub returns-in_err-hand_run-clause-grows : goal.returns-in_err-hand_run-clause-grows
returns-in_err-hand_run-clause-grows c = grows_append _ _ _ c.loop-number.invariant.grows c.hand_run.ensures.grows

pub returns-in_err-hand_run-clause-same : goal.returns-in_err-hand_run-clause-same
returns-in_err-hand_run-clause-same c = c.hand_run.ensures.same ∙ c.loop-number.invariant.same

pub returns-clause-grows : goal.returns-clause-grows
returns-clause-grows c = c.loop-number.invariant.grows

pub returns-clause-same : goal.returns-clause-same
returns-clause-same c = c.loop-number.invariant.same
