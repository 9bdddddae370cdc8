use Rattle.std.proofs.Common.{◌+◌, refl, sym, subst, ◌∙◌, arith}
use Rattle.std.proofs.lemmas.List.{take_rest}
use Rattle.nll_core.proofs.SearchLemmas.{flag_within}
use Rattle.nll_owner.specs.Following.{IsLinkFollowed, IsLeft, OfRunOr}
use Rattle.nll_owner.proofs.OwnerLemmas.{grows_none, grows_append, slot_still}
use Rattle.nll_owner.proofs.RegionRunLemmas.{inside_grows}
use Rattle.nll_owner.proofs.AdvanceLemmas.{awoken, due_from, none_due_from}
use Rattle.nll_owner.proofs.LinkLemmas.{link_grows}
use Rattle.nll_owner.proofs.link.catch_up.Goals as goal

pub loop-part-init : goal.loop-part-init
loop-part-init c = record {
  grows = grows_none _ c.requires.due.inside.sound;
  same = refl;
  awake = refl;
  followed = awoken c.args.knowledge.now c.args.due.now.region c.args.due.now.place _ c.args.link.now _ 4294967295
      (λ x h.
      let graph = c.requires.due.inside.sound.problem.graph in
      omega (
        arith,
        flag_within c.set-inside.result.now x
            ((c.set-inside.ensures.has c.args.due.now.region c.requires.due.inside.slot x).1 h),
        c.set-inside.ensures.width,
        graph.point_limit,
        graph.universal_limit,
      ))
      c.requires.behind.followed;
}

pub set-requires : goal.set-requires
set-requires c = (slot_still _ _ c.loop-part.invariant.grows _ c.args.due.now.region c.requires.due.inside.slot).0

pub hand_run-requires-clause-inside : goal.hand_run-requires-clause-inside
hand_run-requires-clause-inside c =
    let w = inside_grows _ _ c.loop-part.invariant.grows _ c.requires.due.inside in
    record { sound = w.sound; steps = w.steps; slot = w.slot; place = w.place }

pub hand_run-requires-clause-run : goal.hand_run-requires-clause-run
hand_run-requires-clause-run c = record {
  proper = c.in-Some.ensures.some.proper;
  has = λ x own.
      (c.set.ensures.has c.args.due.now.region
      (slot_still _ _ c.loop-part.invariant.grows _ _ c.requires.due.inside.slot) x).0
      (c.in-Some.ensures.some.all x own.0 own.1);
}

pub hand_run-requires-clause-link : goal.hand_run-requires-clause-link
hand_run-requires-clause-link c =
    link_grows _ _ c.loop-part.invariant.grows c.args.due.now.region c.args.link.now c.loop-part.link
    (sym c.loop-part.invariant.same) c.requires.behind.link

pub hand_run-requires-clause-followed : goal.hand_run-requires-clause-followed
hand_run-requires-clause-followed c =
    subst (λ xs. IsLinkFollowed c.loop-part.knowledge c.args.due.now.region
    (IsLeft c.loop-part.knowledge c.args.due.now.place
    (OfRunOr xs c.args.due.now.region c.in-Some.part.first 4294967295) c.args.due.now.region) c.loop-part.link)
    (sym (take_rest c.args.due.now.runs.now c.args.due.now.count))
    (due_from c.loop-part.knowledge c.args.due.now.region c.args.due.now.place _ c.loop-part.link c.set.result.now
    (c.set.ensures.has c.args.due.now.region
    (slot_still _ _ c.loop-part.invariant.grows _ _ c.requires.due.inside.slot))
    c.loop-part.next 4294967295 c.loop-part.invariant.followed c.in-Some.part c.in-Some.ensures.some)

pub overflow_add-next : goal.overflow_add-next
overflow_add-next c =
    let graph = c.loop-part.invariant.grows.sound.problem.graph in
    let from = c.in-Some.ensures.some in
    omega (
      arith,
      flag_within c.set.result.now c.in-Some.part.last
          (from.all c.in-Some.part.last from.proper (omega arith)),
      c.set.ensures.width,
      graph.point_limit,
      graph.universal_limit,
    )

pub loop-part-preserved : goal.loop-part-preserved
loop-part-preserved c = record {
  grows = grows_append _ _ _ c.loop-part.invariant.grows c.hand_run.ensures.grows;
  same = c.hand_run.ensures.same ∙ c.loop-part.invariant.same;
  awake = c.hand_run.ensures.awake;
  followed =
      subst (λ xs. IsLinkFollowed c.hand_run.new.knowledge c.args.due.now.region
      (IsLeft c.hand_run.new.knowledge c.args.due.now.place
      (OfRunOr xs c.args.due.now.region (c.in-Some.part.last + 1) 4294967295) c.args.due.now.region)
      c.hand_run.new.link)
      (take_rest c.args.due.now.runs.now c.args.due.now.count) c.in_ok-hand_run.ensures.followed;
}

pub returns-in_err-hand_run-clause-grows : goal.returns-in_err-hand_run-clause-grows
returns-in_err-hand_run-clause-grows c = grows_append _ _ _ c.loop-part.invariant.grows c.hand_run.ensures.grows

pub returns-in_err-hand_run-clause-same : goal.returns-in_err-hand_run-clause-same
returns-in_err-hand_run-clause-same c = c.hand_run.ensures.same ∙ c.loop-part.invariant.same

pub returns-clause-grows : goal.returns-clause-grows
returns-clause-grows c = c.loop-part.invariant.grows

pub returns-clause-same : goal.returns-clause-same
returns-clause-same c = c.loop-part.invariant.same

pub returns-clause-followed : goal.returns-clause-followed
returns-clause-followed c =
    none_due_from c.loop-part.knowledge c.args.due.now.region c.args.due.now.place _ c.loop-part.link c.set.result.now
    (c.set.ensures.has c.args.due.now.region
    (slot_still _ _ c.loop-part.invariant.grows _ _ c.requires.due.inside.slot))
    c.loop-part.next 4294967295 c.loop-part.invariant.followed c.in_default.ensures.none
