use Rattle.std.proofs.Common.{◌≡◌, ◌↔◌, ◌≤◌, ℕ, List, length, map, Contains, sym, subst, ◌∙◌, arith}
use Rattle.std.specs.Prelude.{slice_index}
use Rattle.std.proofs.lemmas.List.{length-map}
use Rattle.std.proofs.lemmas.List.Elements.{Contains-get_or}
use Rattle.nll_problem.specs.Rows.{row_at}
use Rattle.nll_body.specs.Bodies.{IsFollowedBy}
use Rattle.nll_live.specs.Chains.{HaveStarts}
use Rattle.nll_live.specs.Kinds.{KeepsAt}
use Rattle.nll_live.specs.Lows.{AreDefinitions}
use Rattle.nll_live.specs.Marks.{IsUnderMark}
use Rattle.nll_live.proofs.AskLemmas.{kept_within}
use Rattle.nll_live.proofs.MarkLemmas.{contains_moved, covered_moved}
use Rattle.nll_live.proofs.SetLemmas.{if_ok}
use Rattle.nll_live.proofs.VectorLemmas.{row_here}
use Rattle.nll_live.proofs.WalkLemmas.{live_same, live_within}
use Rattle.nll_live.proofs.live_points.live_points.Goals as goal
use Rattle.nll_live.proofs.live_points.live_points.Goals.{After-as_slice-definitions, After-as_slice-2}

-- the definitions are those of the variable
definitions_are : (c : After-as_slice-definitions)
    → c.as_slice-definitions.result.now
    ≡ row_at (map (λ list. list.items) c.args.ways.now.definitions.items) c.args.variable
definitions_are c = c.as_slice-definitions.ensures.value
    ∙ row_here (λ list. list.items) c.args.ways.now.definitions.items c.args.variable c.index.result.now
    (omega (
      arith,
      c.requires.variable,
      c.requires.ways.ways.defined.counted,
      length-map c.args.ways.now.definitions.items (λ list. list.items),
    ))
    c.index.ensures

pub search_back-requires-clause-search : goal.search_back-requires-clause-search
search_back-requires-clause-search c =
    let d = (goal.at.search_back-requires-clause-search c).After-as_slice-definitions in
    let body = c.args.ways.now.body.now in
    let ways = c.requires.ways.ways in
    record {
      shown = c.requires.ways.shown;
      starts =
          subst (HaveStarts (IsFollowedBy body) (length body.points)) (sym c.as_slice-starts.ensures.value) ways.chains;
      definitions =
          subst (AreDefinitions body c.args.variable) (sym (definitions_are d))
          (ways.defined.each c.args.variable (omega (arith, c.requires.variable, ways.defined.counted)));
    }

pub search_back-requires-clause-fresh : goal.search_back-requires-clause-fresh
search_back-requires-clause-fresh c = λ p. omega (arith, c.requires.room.fresh p)

pub search_back-requires-clause-ends : goal.search_back-requires-clause-ends
search_back-requires-clause-ends c =
    λ k low. kept_within c.args.kind c.args.ways.now.body.now c.args.variable (slice_index c.ends-ends.result.now k)
    ((c.ends-ends.ensures (slice_index c.ends-ends.result.now k)).0
    (Contains-get_or c.ends-ends.result.now k 0 low))

-- the sorted points cover what the room's do
covered : (c : After-as_slice-2) (p : ℕ)
    → IsUnderMark c.as_slice.result.now c.as_slice-2.result.now p
    ↔ IsUnderMark c.search_back.new.room.heights.items c.search_back.new.room.lows.items p
covered c p =
    let heights = c.search_back.new.room.heights.items in
    let lows = c.search_back.new.room.lows.items in
    subst (λ (hs : List ℕ). IsUnderMark hs c.as_slice-2.result.now p ↔ IsUnderMark heights lows p)
    (sym c.as_slice.ensures.value)
    (subst (λ (xs : List ℕ). IsUnderMark heights xs p ↔ IsUnderMark heights lows p) (sym c.as_slice-2.ensures.value)
    (covered_moved heights lows c.sort_unstable.new.self.items c.sort_unstable.ensures.permutation p))

pub set_of-requires-clause-proper : goal.set_of-requires-clause-proper
set_of-requires-clause-proper c = λ low h.
    let has =
    (contains_moved c.search_back.new.room.lows.items c.sort_unstable.new.self.items
    c.sort_unstable.ensures.permutation
    low).0 (subst (λ (xs : List ℕ). Contains xs low) c.as_slice-2.ensures.value h) in
    subst (λ (hs : List ℕ). low ≤ slice_index hs low) (sym c.as_slice.ensures.value)
    (c.in_ok-search_back.ensures.proper low has)

pub set_of-requires-clause-within : goal.set_of-requires-clause-within
set_of-requires-clause-within c =
    let d = (goal.at.set_of-requires-clause-within c).After-as_slice-2 in
    let body = c.args.ways.now.body.now in
    λ p h.
    let below =
    live_within body (Contains c.ends-ends.result.now) c.args.variable
    (λ q k. kept_within c.args.kind body c.args.variable q ((c.ends-ends.ensures q).0 k)) p
    ((c.in_ok-search_back.ensures.each p).0 ((covered d p).0 h)) in
    omega (arith, below, c.points-points.ensures.value)

pub returns-clause-room : goal.returns-clause-room
returns-clause-room c = if_ok c.set_of.result _ _ (λ set _. record {
  width = c.in_ok-search_back.ensures.width;
  tall = c.in_ok-search_back.ensures.tall;
  fresh = c.in_ok-search_back.ensures.fresh;
}) c.set_of.ensures.each

pub returns-clause-each : goal.returns-clause-each
returns-clause-each c =
    let d = (goal.at.returns-clause-each c).After-as_slice-2 in
    let body = c.args.ways.now.body.now in
    let x : ℕ = c.args.variable in
    let keeps = KeepsAt c.args.kind body x in
    let ends = Contains c.ends-ends.result.now in
    if_ok c.set_of.result _ _
    (λ set each p. let live = c.in_ok-search_back.ensures.each p in let same = covered d p in (
      λ h. live_same body ends keeps x p (λ q. (c.ends-ends.ensures q).0) (live.0 (same.0 ((each p).0 h))),
      λ h. (each p).1 (same.1 (live.1 (live_same body keeps ends x p (λ q. (c.ends-ends.ensures q).1) h))),
    ))
    c.set_of.ensures.each
