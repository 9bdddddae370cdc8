use Rattle.std.proofs.Common.{◌≡◌, ◌↔◌, ◌<◌, ◌≤◌, ℕ, List, Bool, Contains, Option, Some, None, IfSome, IfNone, is_some, true, false, length, set, sym, subst, inl, inr, ⊎_elim, ◌∙◌, arith}
use Rattle.std.proofs.lemmas.Bool.{false≢true, true≢false}
use Rattle.std.proofs.lemmas.Result.{on_ok_weaker}
use Rattle.nll_problem.specs.declared.at.At.{At}
use Rattle.nll_problem.specs.declared.at.At.TheVariants.{Point}
use Rattle.nll_core.specs.Search.{IsIn}
use Rattle.nll_core.specs.Frontiers.{AppendsNew, IsAskedFrom}
use Rattle.nll_core.proofs.SearchLemmas.{flag_within}
use Rattle.nll_core.proofs.PlaceLemmas.{point_in}
use Rattle.nll_core.proofs.ElementGrowthLemmas.{appends_one, gone_on, is_new, left_alone, old_closed, taken_all}
use Rattle.nll_core.proofs.frontiers.element_growth.go_on.Goals as goal
use Rattle.nll_core.proofs.frontiers.element_growth.go_on.Goals.{else-not-begins-via-else-not-begins, else-not-begins-via-then-not-begins+else-not-is_next}

-- whether a walk begins at an element, by what was found from there up to it
none_here : (found : Option ℕ) (starts : List ℕ) (e : ℕ) → is_some found ≡ false
    → IfNone found ((x : ℕ) → Contains starts x → e ≤ x → e < x) → Contains starts e → ⊥
none_here None starts e is none h = let past = none e h (omega arith) in omega (arith, past)
none_here (Some s) starts e is none h = true≢false is

some_here : (found : Option ℕ) (starts : List ℕ) (e : ℕ) → is_some found ≡ true
    → IfSome found (λ s. Contains starts s × (e ≤ s) × (s ≤ e)) → Contains starts e
some_here (Some s) starts e is some = subst (Contains starts) (omega (arith, some.1, some.2)) some.0
some_here None starts e is some = absurd (false≢true is)

-- the element is below the length of what is reached
within : (flags reached : List Bool) (n e : ℕ) → length flags ≡ n → n ≤ length reached → IsIn flags e
    → e < length reached
within flags reached n e width room here = let low = flag_within flags e here in omega (arith, low, width, room)

pub returns-then-has_all-clause-after : goal.returns-then-has_all-clause-after
returns-then-has_all-clause-after g c =
    let flags = g.S.ElementSet.flags c.args.seen.now in
    subst (λ (new : List Bool). (x : ℕ)
    → IsIn new x ↔ IsAskedFrom c.args.graph.now (IsIn flags) c.args.starts.now x) (sym c.in_ok-insert.ensures.ok)
    (taken_all c.args.graph.now flags c.args.element c.requires.element c.args.starts.now c.args.reached.now
    c.requires.before
    (within flags c.args.reached.now _ c.args.element c.requires.width c.requires.room c.requires.element)
    (c.has_all.ensures.0 c.if-has_all.true))

pub returns-then-has_all-clause-found : goal.returns-then-has_all-clause-found
returns-then-has_all-clause-found g c =
    let flags = g.S.ElementSet.flags c.args.seen.now in
    let old = c.args.reached.now in
    let before = c.args.out.now.items in
    subst (λ (new : List Bool). AppendsNew old new before c.push.new.self.items) (sym c.in_ok-insert.ensures.ok)
    (subst (λ (xs : List ℕ). AppendsNew old (set old c.args.element true) before xs) (sym c.in_ok-push.ensures.items)
    (appends_one old c.args.element
    (within flags old _ c.args.element c.requires.width c.requires.room c.requires.element)
    (is_new c.args.graph.now flags c.args.element c.requires.element c.args.starts.now old c.requires.before) before))

pub returns-then-not-is_next-clause-after : goal.returns-then-not-is_next-clause-after
returns-then-not-is_next-clause-after g c =
    left_alone c.args.graph.now (g.S.ElementSet.flags c.args.seen.now) c.args.element c.requires.element
    c.args.starts.now c.args.reached.now c.requires.before
    (λ every. false≢true (sym c.if-has_all.false ∙ c.has_all.ensures.1 every))
    (λ start. none_here c.next_in.result c.points.result c.args.element
    (sym c.is_some-begins.ensures ∙ c.if-not-begins.true) (rw c.element.view_is at c.next_in.ensures.none)
    ((point_in c.points.result c.args.element).0
    (subst (λ (ps : List At). Contains ps (Point c.args.element)) c.points.ensures start)))
    (λ x h step. false≢true (sym c.if-not-is_next.true ∙ c.is_next.ensures.no x h step))

pub walk_on-requires-clause-closed : goal.walk_on-requires-clause-closed
walk_on-requires-clause-closed g c =
    old_closed c.args.graph.now (g.S.ElementSet.flags c.args.seen.now) c.args.element c.requires.element
    c.args.starts.now c.args.reached.now c.requires.before

pub returns-clause-after : goal.returns-clause-after
returns-clause-after g c =
    on_ok_weaker c.walk_on.result
    (gone_on c.args.graph.now (g.S.ElementSet.flags c.args.seen.now) c.args.element c.requires.element
    c.args.starts.now c.args.reached.now c.requires.before
    (λ every. false≢true (sym c.if-has_all.false ∙ c.has_all.ensures.1 every))
    (⊎_elim
    (λ start. inl (subst (λ (ps : List At). Contains ps (Point c.args.element)) (sym c.points.ensures)
    ((point_in c.points.result c.args.element).1 start)))
    inr
    (elim c.else-not-begins.branch [
      | else-not-begins-via-else-not-begins w ↦ inl (some_here c.next_in.result c.points.result c.args.element
          (sym c.is_some-begins.ensures ∙ w.if-not-begins.false) (rw c.element.view_is at c.next_in.ensures.some))
      | else-not-begins-via-then-not-begins+else-not-is_next w ↦
          inr (w.is_next.ensures.yes w.if-not-is_next.false)
    ]))
    c.walk_on.new.reached)
    c.walk_on.ensures.steps
