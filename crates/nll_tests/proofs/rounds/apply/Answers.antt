use Rattle.std.proofs.Common.{◌≡◌, ℕ, ◌↔◌, true, Contains, subst, sym, arith}
use Rattle.std.proofs.lemmas.Result.{on_ok_weaker}
use Rattle.nll_sets.specs.ElementSet.{flag}
use Rattle.nll_core.specs.Values.{set_of, IsHeld}
use Rattle.nll_problem.specs.Solution.{IsAskedIn, Asks}
use Rattle.nll_problem.proofs.AskLemmas.{asked_inside}
use Rattle.nll_core.proofs.SearchLemmas.{flag_within}
use Rattle.nll_core.proofs.GrowingLemmas.{gains_weaker}
use Rattle.nll_tests.proofs.rounds.apply.Goals as goal
use Rattle.nll_tests.proofs.rounds.apply.Goals.{After-deref}

pub asked_inside-requires-clause-width : goal.asked_inside-requires-clause-width
asked_inside-requires-clause-width c =
    let regions = c.graph-graph.ensures.sound.constraint_regions c.args.constraint c.requires.of_problem in
    rw (c.set-set.ensures, c.graph-graph.ensures.value) (c.requires.shaped.elements c.args.constraint.sub regions.1)

pub asked_inside-requires-clause-among : goal.asked_inside-requires-clause-among
asked_inside-requires-clause-among c =
    rw c.graph-graph.ensures.value (c.graph-graph.ensures.sound.constraint_points c.args.constraint
    c.requires.of_problem)

found_is : (c : After-deref) → (x : ℕ)
    → Contains c.deref.result.now x ↔ Asks c.args.problem.now.graph (IsHeld c.args.values.now) c.args.constraint x
found_is c x =
    let at = c.args.constraint.at in
    let of_list =
    subst (λ xs. Contains xs x ↔ IsAskedIn c.graph-graph.result.now (λ z. flag c.set-set.result.now z ≡ true) at x)
    (sym c.deref.ensures.value) (c.in_ok-found.ensures x) in
    let of_set =
    subst (λ flags. Contains c.deref.result.now x
    ↔ IsAskedIn c.graph-graph.result.now (λ z. flag flags z ≡ true) at x) c.set-set.ensures of_list in
    subst (λ g. Contains c.deref.result.now x ↔ IsAskedIn g (IsHeld c.args.values.now c.args.constraint.sub) at x)
    c.graph-graph.ensures.value of_set

pub insert_all-requires-clause-elements : goal.insert_all-requires-clause-elements
insert_all-requires-clause-elements c = λ x h.
    let regions = c.graph-graph.ensures.sound.constraint_regions c.args.constraint c.requires.of_problem in
    let inside =
    asked_inside c.args.problem.now.graph (IsHeld c.args.values.now c.args.constraint.sub) c.args.constraint.at x
    ((found_is c x).0 h) in
    let within = flag_within (set_of c.args.values.now c.args.constraint.sub) x inside in
    omega (
      arith,
      within,
      c.requires.shaped.elements c.args.constraint.sub regions.1,
      c.requires.shaped.elements c.args.constraint.sup regions.0,
    )

pub returns-clause-gains : goal.returns-clause-gains
returns-clause-gains c =
    gains_weaker _ _ (λ r e h. (h.0, (found_is (goal.at.returns-clause-gains c).After-deref e).0 h.1)) _ _
    c.insert_all.ensures.gains

pub returns-clause-asks : goal.returns-clause-asks
returns-clause-asks c =
    on_ok_weaker c.insert_all.result (λ covers x h.
    covers x ((found_is (goal.at.returns-clause-asks c).After-deref x).1 h)) c.insert_all.ensures.covers
