use Rattle.std.proofs.Common.{◌≡◌, ◌↔◌, ◌<◌, ℕ, List, true, subst, refl, arith}
use Rattle.std.specs.Prelude.{slice_index}
use Rattle.std.proofs.lemmas.List.{take_all}
use Rattle.std.proofs.lemmas.List.Elements.{Contains-get_or}
use Rattle.nll_sets.specs.ElementSet.{flag}
use Rattle.nll_live.specs.Marks.{IsUnderMark}
use Rattle.nll_live.proofs.SetLemmas.{covers_first, covers_step}
use Rattle.nll_live.proofs.live_points.set_of.Goals as goal

pub loop-low-init : goal.loop-low-init
loop-low-init c = rw c.in_ok-set.ensures (covers_first c.args.heights.now c.args.lows.now c.args.points)

pub bounds-heights-low : goal.bounds-heights-low
bounds-heights-low c =
    let low : ℕ = slice_index c.args.lows.now c.loop-low.low-index in
    let has = Contains-get_or c.args.lows.now c.loop-low.low-index 0 c.loop-low-test.true in
    let below : low < c.args.points = c.requires.within low (low, has, omega arith, c.requires.proper low has) in
    omega (arith, below, c.requires.tall)

pub insert_run-requires-clause-below : goal.insert_run-requires-clause-below
insert_run-requires-clause-below c =
    let low : ℕ = slice_index c.args.lows.now c.loop-low.low-index in
    let has = Contains-get_or c.args.lows.now c.loop-low.low-index 0 c.loop-low-test.true in
    let height : ℕ = slice_index c.args.heights.now low in
    let below : height < c.args.points = c.requires.within height (low, has, c.requires.proper low has, omega arith) in
    omega (arith, below, c.loop-low.invariant.wide)

pub loop-low-preserved : goal.loop-low-preserved
loop-low-preserved c =
    covers_step c.args.heights.now c.args.lows.now c.loop-low.low-index c.args.points c.loop-low.set _ _
    c.loop-low-test.true refl refl c.loop-low.invariant c.in_ok-insert_run.ensures.ok

pub returns-clause-each : goal.returns-clause-each
returns-clause-each c =
    λ p. subst (λ (xs : List ℕ). (flag c.loop-low.set p ≡ true) ↔ IsUnderMark c.args.heights.now xs p)
    (take_all c.loop-low.low-index c.args.lows.now (omega arith)) (c.loop-low.invariant.each p)
