use Rattle.std.proofs.Common.{⊎_elim, ap, arith}
use Rattle.std.proofs.lemmas.Bool.{cases_eq}
use Rattle.nll_sets.specs.Runs.{first_of, last_of}
use Rattle.nll_owner.proofs.OwnerLemmas.{has_grows, grows_none, grows_append, called_grows, own_still, region_still, element_still}
use Rattle.nll_owner.proofs.knowledge.Knowledge.grow_runs.Goals as goal

pub loop-run-init : goal.loop-run-init
loop-run-init c = record { grows = grows_none _ c.requires.sound; covers = λ k x h. absurd (omega (arith, h)) }

pub grow_run-requires-clause-own : goal.grow_run-requires-clause-own
grow_run-requires-clause-own c = own_still _ _ c.loop-run.invariant.grows c.args.region c.requires.own

pub grow_run-requires-clause-region : goal.grow_run-requires-clause-region
grow_run-requires-clause-region c = region_still _ _ c.loop-run.invariant.grows c.args.region c.requires.region

pub returns-in_err-grow_run-clause-grows : goal.returns-in_err-grow_run-clause-grows
returns-in_err-grow_run-clause-grows c = grows_append _ _ _ c.loop-run.invariant.grows c.grow_run.ensures.grows

pub returns-clause-grows : goal.returns-clause-grows
returns-clause-grows c = c.loop-run.invariant.grows

pub grow_run-requires-clause-elements : goal.grow_run-requires-clause-elements
grow_run-requires-clause-elements c =
    λ x own. element_still _ _ c.loop-run.invariant.grows x
    (c.requires.elements x (c.loop-run.run-index, c.loop-run-test.true, own.0, own.1))

pub grow_run-requires-clause-called : goal.grow_run-requires-clause-called
grow_run-requires-clause-called c =
    λ x own. called_grows _ _ c.loop-run.invariant.grows _ _
    (c.requires.called x (c.loop-run.run-index, c.loop-run-test.true, own.0, own.1))

pub loop-run-preserved : goal.loop-run-preserved
loop-run-preserved c = record {
  grows = grows_append _ _ _ c.loop-run.invariant.grows c.grow_run.ensures.grows;
  covers = λ k x lt low high. ⊎_elim
      (λ here. c.in_ok-grow_run.ensures.covers x (
        omega (arith, low, ap (first_of c.args.found.now) here),
        omega (arith, high, ap (last_of c.args.found.now) here),
      ))
      (λ other. has_grows _ _ c.grow_run.ensures.grows _ _
      (c.loop-run.invariant.covers k x (omega (arith, lt, other)) low high))
      (cases_eq k c.loop-run.run-index);
}

pub returns-clause-covers : goal.returns-clause-covers
returns-clause-covers c = λ x h. c.loop-run.invariant.covers h.0 x (omega (arith, h.1, c.loop-run-test.false)) h.2 h.3
