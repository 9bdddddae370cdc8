use Rattle.std.proofs.Common.{◌<◌, Contains, subst, sym, arith, length}
use Rattle.std.specs.Prelude.{slice_index}
use borrow.Author.Count.{below_more}
use Rattle.std.proofs.lemmas.List.Elements.{Contains-get_or}
use Rattle.std.proofs.lemmas.List.{get_or_read}
use Rattle.nll_live.specs.Lows.{IsLow}
use Rattle.nll_live.proofs.MarkLemmas.{reaches_append, reaches_weaker, reached_kept, marked_within}
use Rattle.nll_live.proofs.SearchLemmas.{search_first, search_step, search_last, search_proper}
use Rattle.nll_live.proofs.search.search_back.Goals as goal

pub visit-requires-clause-some : goal.visit-requires-clause-some
visit-requires-clause-some c = omega (arith, c.requires.fresh 0)

pub loop-point-preserved : goal.loop-point-preserved
loop-point-preserved c =
    let step =
    reaches_weaker _ (λ low p. Contains c.args.ends.now p
    × IsLow (slice_index c.args.search.now.starts.now p) c.args.search.now.definitions.now p low) _ _ _ _ _ _ _
    (λ low p h. (
      subst (Contains c.args.ends.now) (sym h.0)
          (Contains-get_or c.args.ends.now c.loop-point.point-index 0 c.loop-point-test.true),
      h.1,
    ))
    c.in_ok-visit.ensures.reaches in
    record {
      reaches = reaches_append _ _ _ _ _ _ _ _ _ _ _ c.loop-point.invariant.reaches step;
      found = c.in_ok-visit.ensures.found;
      all = below_more _ _ (λ k h. reached_kept _ _ _ _ _ _ _ _ step _ (c.loop-point.invariant.all k h))
          c.in_ok-visit.ensures.all;
    }

pub loop-place-init : goal.loop-place-init
loop-place-init c =
    search_first _ _ _ _ _ _ c.args.search.now.starts.now c.args.search.now.definitions.now c.requires.ends
    c.requires.fresh c.requires.search.starts
    c.requires.search.definitions _ _ _
    (rw c.requires.nothing at c.loop-point.invariant.reaches) c.loop-point.invariant.found
    (λ k h. c.loop-point.invariant.all k (omega arith))

pub visit_previous-requires-clause-some : goal.visit_previous-requires-clause-some
visit_previous-requires-clause-some c = omega (arith, c.requires.fresh 0)

pub visit_previous-requires-clause-point : goal.visit_previous-requires-clause-point
visit_previous-requires-clause-point c =
    let within : c.loop-place.place < length c.loop-place.room.lows.items = omega arith in
    let is =
    get_or_read c.loop-place.room.lows.items c.loop-place.place c.index-low.result.now within c.index-low.ensures 0
    in
    let marked =
    marked_within c.loop-place.room.marks.items c.args.turn _ (omega (arith, c.requires.fresh 0))
    (c.loop-place.invariant.found.marked c.loop-place.place within) in
    rw is (omega (arith, marked, c.loop-place.invariant.more.width, c.requires.width))

pub loop-place-preserved : goal.loop-place-preserved
loop-place-preserved c =
    let within : c.loop-place.place < length c.loop-place.room.lows.items = omega arith in
    let is =
    get_or_read c.loop-place.room.lows.items c.loop-place.place c.index-low.result.now within c.index-low.ensures 0
    in
    search_step _ _ _ _ _ _ c.args.search.now.starts.now c.args.search.now.definitions.now c.requires.ends
    c.requires.fresh c.requires.search.starts
    c.requires.search.definitions _ _ _ c.loop-place.place _ _ _ within c.loop-place.invariant
    (rw is at c.in_ok-visit_previous.ensures.reaches)
    c.in_ok-visit_previous.ensures.found
    (rw is at c.in_ok-visit_previous.ensures.all)

pub returns-clause-proper : goal.returns-clause-proper
returns-clause-proper c =
    search_proper _ _ _ _ _ _ c.args.search.now.starts.now c.args.search.now.definitions.now c.requires.ends
    c.requires.fresh
    c.requires.search.starts c.requires.search.definitions _ _ _ c.loop-place.place (omega arith) c.loop-place.invariant

pub returns-clause-each : goal.returns-clause-each
returns-clause-each c =
    search_last _ _ _ _ _ _ c.args.search.now.starts.now c.args.search.now.definitions.now c.requires.ends
    c.requires.fresh c.requires.search.starts
    c.requires.search.definitions _ _ _ c.loop-place.place (omega arith) c.loop-place.invariant
