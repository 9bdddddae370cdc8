use Rattle.std.proofs.Common.{◌≡◌, ◌+◌, ◌-◌, ◌<◌, List, length, refl, sym, ap, ◌∙◌, arith}
use Rattle.std.proofs.lemmas.Bool.{eqb-true}
use Rattle.std.proofs.lemmas.List.{get_or_default}
use Rattle.nll_owner.specs.RegionRuns.{SaysRun}
use Rattle.nll_owner.specs.declared.region_runs.RegionRun.{RegionRun}
use Rattle.nll_owner.proofs.RegionRunLemmas.{AreMerged, joined, merged_none, merged_more, merged_all, pushed}
use Rattle.nll_owner.proofs.region_runs.merge.Goals as goal
use Rattle.nll_owner.proofs.region_runs.merge.Goals.{then-count-gt0+then-eq+then-run-index, else-count-gt0+in_ok-push}

pub loop-run-init : goal.loop-run-init
loop-run-init c = merged_none c.args.told.now c.args.list.now.items c.requires.none

pub loop-run-preserved : goal.loop-run-preserved
loop-run-preserved c =
    let told = c.args.told.now in
    let old = c.loop-run.list.items in
    let run = c.run-item.result in
    let proper = c.requires.proper run (c.loop-run.run-index, c.loop-run-test.true, sym c.run-item.is) in
    let more : (new : List RegionRun) → SaysRun run old new → AreMerged told (c.loop-run.run-index + 1) new =
    λ new adds. merged_more told c.loop-run.run-index run old new c.loop-run-test.true (sym c.run-item.is) adds
    c.loop-run.invariant in
    elim c.if-count-gt0.branch [
      | then-count-gt0+then-eq+then-run-index w ↦
          let within : c.len-count.result - 1 < length old = omega (arith, w.if-count-gt0.true, c.len-count.ensures) in
          let of : w.index.result.now ≡ w.index_mut.result.now = w.index.ensures
          ∙ (get_or_default old (c.len-count.result - 1) w.index.result.now w.index_mut.result.now within
          ∙ sym w.index_mut.ensures.value) in
          let at : w.index-then-eq.result.now ≡ w.index_mut.result.now = w.index-then-eq.ensures
          ∙ (get_or_default old (c.len-count.result - 1) w.index-then-eq.result.now w.index_mut.result.now within
          ∙ sym w.index_mut.ensures.value) in
          rw w.list-is (more _ (joined run w.index_mut.result.now _ old (c.len-count.result - 1) within
          (sym w.index_mut.ensures.value) c.loop-run.invariant.proper proper
          (sym (ap (λ (y : RegionRun). y.region) of) ∙ eqb-true _ _ (sym w.eq.ensures ∙ w.if-eq.true))
          (let last = ap (λ (y : RegionRun). y.run.last) at in omega (arith, last, w.if-run-index.true)) refl))
      | else-count-gt0+in_ok-push w ↦ rw (w.list-is, w.in_ok-push.ensures.items)
          (more _ (pushed run old c.loop-run.invariant.proper proper))
    ]

pub returns : goal.returns
returns c =
    merged_all c.args.told.now c.loop-run.list.items c.loop-run.run-index
    (omega (arith, c.loop-run-test.false)) c.loop-run.invariant
