use Rattle.std.proofs.Common.{◌≡◌, ◌∙◌, ap, arith, get_or}
use Rattle.std.proofs.lemmas.List.{get_or_default}
use Rattle.nll_sets.specs.Runs.{no_run}
use Rattle.nll_sets.specs.declared.run.Run.{Run}
use Rattle.nll_core.proofs.WalkingLemmas.{spreading_first, spreading_more, spread_end, listed_in}
use Rattle.nll_core.specs.Walking.{IsLedTo}
use Rattle.nll_core.proofs.stretches.spread.Goals as goal
use Rattle.nll_core.proofs.stretches.spread.Goals.{After-index-run}

-- the run that is followed stands at the place
run_is : (c : After-index-run) → c.index-run.result.now ≡ get_or c.loop-place.list.items c.loop-place.place no_run
run_is c =
    c.index-run.ensures ∙ get_or_default c.loop-place.list.items c.loop-place.place c.index-run.result.now no_run
    (omega (arith, c.loop-place-test.true, c.len.ensures))

pub loop-place-init : goal.loop-place-init
loop-place-init c = spreading_first c.args.lines.now c.args.sub.now c.args.reached.now c.args.list.now.items

pub follow-requires-clause-proper : goal.follow-requires-clause-proper
follow-requires-clause-proper c =
    let is = run_is (goal.at.follow-requires-clause-proper c).After-index-run in
    omega (
      arith,
      ap (λ (r : Run). r.first) is,
      ap (λ (r : Run). r.last) is,
      (c.loop-place.invariant.grows.fit c.requires.fit c.loop-place.place
          (omega (arith, c.loop-place-test.true, c.len.ensures))).0,
    )

pub follow-requires-clause-points : goal.follow-requires-clause-points
follow-requires-clause-points c =
    let is = run_is (goal.at.follow-requires-clause-points c).After-index-run in
    omega (
      arith,
      ap (λ (r : Run). r.last) is,
      (c.loop-place.invariant.grows.fit c.requires.fit c.loop-place.place
          (omega (arith, c.loop-place-test.true, c.len.ensures))).1,
    )

pub follow-requires-clause-widths : goal.follow-requires-clause-widths
follow-requires-clause-widths c = omega (arith, c.loop-place.invariant.grows.width, c.requires.widths)

pub follow-requires-clause-run : goal.follow-requires-clause-run
follow-requires-clause-run c = λ x w.
    let is = run_is (goal.at.follow-requires-clause-run c).After-index-run in
    listed_in c.args.lines.now c.args.sub.now
    (IsLedTo c.args.lines.now c.args.sub.now c.args.reached.now) _ _ _ _ c.loop-place.invariant.grows
    c.requires.listed x (
      c.loop-place.place,
      omega (arith, c.loop-place-test.true, c.len.ensures),
      omega (arith, ap (λ (r : Run). r.first) is, w.0),
      omega (arith, ap (λ (r : Run). r.last) is, w.1),
    )

pub loop-place-preserved : goal.loop-place-preserved
loop-place-preserved c =
    let is = run_is (goal.at.loop-place-preserved c).After-index-run in
    spreading_more c.args.lines.now c.args.sub.now _ _ _ _ _ _ c.loop-place.place c.index-run.result.now
    c.loop-place.ended c.in_ok-ended.field-0 (ap (λ (r : Run). r.first) is) (ap (λ (r : Run). r.last) is)
    (omega (arith, c.loop-place-test.true, c.len.ensures)) c.requires.listed
    c.loop-place.invariant c.in_ok-ended.ensures.grows c.in_ok-ended.ensures.covers c.in_ok-ended.ensures.ends
    c.requires.inside

pub returns : goal.returns
returns c =
    spread_end c.args.lines.now c.args.sub.now _ _ _ _ c.loop-place.place c.loop-place.ended
    (omega (arith, c.loop-place-test.false, c.len.ensures)) c.loop-place.invariant
