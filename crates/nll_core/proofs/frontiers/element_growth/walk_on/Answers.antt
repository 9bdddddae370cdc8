use Rattle.std.proofs.Common.{◌≡◌, ◌⊎◌, ◌∙◌, ℕ, Bool, List, [], ◌++◌, sym, subst, ap}
use Rattle.nll_core.specs.Frontiers.{AppendsNew, StepsOn}
use Rattle.nll_core.specs.Search.{IsIn, IsStepInside, Search}
use Rattle.nll_core.proofs.ElementGrowthLemmas.{pending_first, steps_on, steps_listed}
use Rattle.nll_core.proofs.frontiers.element_growth.walk_on.Goals as goal

-- a search that has reached these elements, and has an empty list
abbrev start : List Bool → Search
start reached = record { reached = reached; list = [] }

closed_from : (step : ℕ → ℕ → Type 0) (e : ℕ) (reached : List Bool) (begun : Search) → begun ≡ start reached
    → ((x y : ℕ) → IsIn reached x → step x y → IsIn reached y ⊎ (y ≡ e))
    → (x y : ℕ) → IsIn begun.reached x → step x y → IsIn begun.reached y ⊎ (y ≡ e)
closed_from step e reached begun is =
    subst (λ (s : Search). (x y : ℕ) → IsIn s.reached x → step x y → IsIn s.reached y ⊎ (y ≡ e)) (sym is)

pub spread-requires-clause-pending : goal.spread-requires-clause-pending
spread-requires-clause-pending g c =
    let step = IsStepInside c.args.graph.now (g.S.ElementSet.flags c.args.seen.now) in
    let begun = c.over-search.result in
    let is : begun ≡ start c.args.reached.now = c.over-search.ensures ∙ ap start c.replace-taken.ensures.value in
    let closed = closed_from step c.args.element c.args.reached.now begun is c.requires.closed in
    pending_first step c.args.element begun c.visit.new.self (ap (λ (s : Search). s.list) is) closed
    c.in_ok-visit.ensures

pub returns-clause-steps : goal.returns-clause-steps
returns-clause-steps g c =
    let step = IsStepInside c.args.graph.now (g.S.ElementSet.flags c.args.seen.now) in
    let begun = c.over-search.result in
    let is : begun ≡ start c.args.reached.now = c.over-search.ensures ∙ ap start c.replace-taken.ensures.value in
    let closed = closed_from step c.args.element c.args.reached.now begun is c.requires.closed in
    subst (λ (flags : List Bool × List Bool). StepsOn step c.args.element flags.0 flags.1)
    (λ i. ((is i).reached, sym c.into_parts-set.ensures.set i))
    (steps_on step c.args.element begun c.visit.new.self (ap (λ (s : Search). s.list) is) closed
    c.in_ok-visit.ensures c.spread.new.self c.in_ok-spread.ensures)

pub returns-clause-found : goal.returns-clause-found
returns-clause-found g c =
    let step = IsStepInside c.args.graph.now (g.S.ElementSet.flags c.args.seen.now) in
    let begun = c.over-search.result in
    let is : begun ≡ start c.args.reached.now = c.over-search.ensures ∙ ap start c.replace-taken.ensures.value in
    let closed = closed_from step c.args.element c.args.reached.now begun is c.requires.closed in
    rw (c.in_ok-extend_from_slice.ensures.items, c.deref.ensures.value, c.into_parts-set.ensures.list)
    (subst (λ (flags : List Bool × List Bool). AppendsNew flags.0 flags.1 c.args.out.now.items
    (c.args.out.now.items ++ c.spread.new.self.list))
    (λ i. ((is i).reached, sym c.into_parts-set.ensures.set i))
    (steps_listed step c.args.element begun c.visit.new.self (ap (λ (s : Search). s.list) is) closed
    c.in_ok-visit.ensures c.spread.new.self c.in_ok-spread.ensures c.args.out.now.items))
