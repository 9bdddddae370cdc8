use Rattle.std.proofs.Common.{◌≡◌, ◌<◌, Contains, slice_index, get_or, length, refl, sym, arith}
use borrow.Author.Count.{below_more}
use Rattle.std.proofs.lemmas.List.{get_or_read}
use Rattle.nll_core.specs.Values.{set_of, IsHeld}
use Rattle.nll_core.specs.Growing.{Gains}
use Rattle.nll_core.proofs.SearchLemmas.{covers_contained}
use Rattle.nll_core.proofs.GrowingLemmas.{held_one, gains_none, gains_one, gains_append, tells_none, tells_one, tells_append}
use Rattle.nll_tests.proofs.rounds.insert_all.Goals as goal
use Rattle.nll_tests.proofs.rounds.insert_all.Goals.{After-element-item}

is_item : (c : After-element-item) → get_or c.args.found.now c.loop-element.element-index 0 ≡ c.element-item.result
is_item c =
    sym (get_or_read c.args.found.now c.loop-element.element-index c.element-item.result c.loop-element-test.true
    c.element-item.is 0)

contained : (c : After-element-item) → Contains c.args.found.now c.element-item.result
contained c = (c.loop-element.element-index, c.loop-element-test.true, sym c.element-item.is)

pub loop-element-init : goal.loop-element-init
loop-element-init c = record {
  gains = gains_none _ _;
  covers = λ k h. absurd (omega arith);
  tells = tells_none _;
}

pub insert-requires-clause-region : goal.insert-requires-clause-region
insert-requires-clause-region c = omega (arith, c.loop-element.invariant.gains.width, c.requires.region)

pub insert-requires-clause-element : goal.insert-requires-clause-element
insert-requires-clause-element c =
    let within = c.requires.elements _ (contained (goal.at.insert-requires-clause-element c).After-element-item) in
    omega (arith, within, c.loop-element.invariant.gains.widths c.args.region)

pub returns-in_err-new-clause-gains : goal.returns-in_err-new-clause-gains
returns-in_err-new-clause-gains c = rw c.in_err-new.ensures.err c.loop-element.invariant.gains

pub loop-element-preserved : goal.loop-element-preserved
loop-element-preserved c =
    let old = c.loop-element.values in
    let d = (goal.at.loop-element-preserved c).After-element-item in
    let e = c.element-item.result in
    let region : c.args.region < length old = omega (arith, c.loop-element.invariant.gains.width, c.requires.region) in
    let found : Contains c.args.found.now e = contained d in
    let within : e < length (set_of old c.args.region) =
    omega (arith, c.requires.elements e found, c.loop-element.invariant.gains.widths c.args.region) in
    let gains : Gains (λ r f. (r ≡ c.args.region) × Contains c.args.found.now f) old c.insert.new.self =
    rw c.in_ok-new.ensures.ok (gains_one old c.args.region e region within _ (refl, found)) in
    record {
      gains = gains_append _ _ _ _ c.loop-element.invariant.gains gains;
      covers = below_more (λ k. IsHeld c.insert.new.self c.args.region (slice_index c.args.found.now k)) _
          (λ k h. gains.kept _ _ (c.loop-element.invariant.covers k h))
          (rw (is_item d, c.in_ok-new.ensures.ok) (held_one old c.args.region e region within));
      tells = tells_append _ _ _ _ _ c.loop-element.invariant.tells
          (rw (c.in_ok-new.ensures.new, c.in_ok-new.ensures.ok) (tells_one old c.args.region e region within));
    }

pub returns-clause-gains : goal.returns-clause-gains
returns-clause-gains c = c.loop-element.invariant.gains

pub returns-clause-covers : goal.returns-clause-covers
returns-clause-covers c =
    covers_contained (λ x. IsHeld c.loop-element.values c.args.region x) c.args.found.now
    (λ k h. c.loop-element.invariant.covers k (omega arith))

pub returns-clause-tells : goal.returns-clause-tells
returns-clause-tells c = c.loop-element.invariant.tells
