use Rattle.std.proofs.Common.{◌≤◌, [], length, arith}
use Rattle.std.proofs.lemmas.List.{take_more, take_all}
use Rattle.nll_types.proofs.FoundLemmas.{found, among_once, among_push, among_skip}
use Rattle.nll_types.proofs.drop_regions.find.Goals.{in-Region+in_ok-push, in_default}
use Rattle.nll_types.proofs.drop_regions.find.Goals as goal

pub loop-source-preserved : goal.loop-source-preserved
loop-source-preserved c =
    let items = c.as_slice-source-items.result.now in
    let more = take_more items c.loop-source.source-index c.source-item.result c.loop-source-test.true in
    elim c.match-source.branch [
      | in-Region+in_ok-push w ↦ rw (w.found-is, more, ← c.source-item.is, among_push, ← c.loop-source.invariant)
          (rw w.in-Region.is w.in_ok-push.ensures.items)
      | in_default w ↦ rw (w.found-is, more, ← c.source-item.is, among_skip _ _ w.in_default.not-Region)
          c.loop-source.invariant
    ]

pub returns-clause-each : goal.returns-clause-each
returns-clause-each c =
    let good = c.requires in
    let told = rw c.new-sources.ensures.empty at c.in_ok-collect.ensures in
    let items = c.as_slice-source-items.result.now in
    let past : length items ≤ c.loop-source.source-index = omega arith in
    let among = rw (take_all c.loop-source.source-index items past, c.as_slice-source-items.ensures.keys) at
    c.loop-source.invariant in
    λ r. rw among (found _ good.0 _ _ _ _ good.1 (told [] good.0 0 good.1) r)

pub returns-clause-once : goal.returns-clause-once
returns-clause-once c =
    let items = c.as_slice-source-items.result.now in
    let past : length items ≤ c.loop-source.source-index = omega arith in
    let among = rw (take_all c.loop-source.source-index items past, c.as_slice-source-items.ensures.keys) at
    c.loop-source.invariant in
    rw among (among_once _ c.as_slice-source-items.ensures.unique)
