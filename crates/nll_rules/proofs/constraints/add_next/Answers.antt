use Rattle.std.proofs.Common.{◌↔◌, ℕ, ◌<◌, Contains, refl, sym, subst, arith}
use Rattle.std.proofs.lemmas.Result.{err_from_is_err_and}
use Rattle.nll_body.specs.Bodies.{IsFollowedBy}
use Rattle.nll_body.specs.Flat.{statement_in}
use Rattle.nll_body.specs.Meant.{meant_by}
use Rattle.nll_rules.specs.Adding.{AreAskedAt}
use Rattle.nll_rules.specs.BodyProblem.{IsAskedAt}
use Rattle.nll_rules.specs.Knowing.{IsOfBody}
use Rattle.nll_rules.proofs.AddingLemmas.{adds_same, refused_same}
use Rattle.nll_rules.proofs.KnowingLemmas.{learns_same, of_body_later, stands, stands_agree, stands_rows}
use Rattle.nll_rules.proofs.PointLemmas.{asked_pairs, kept_asked, known_here}
use Rattle.nll_rules.proofs.RegionLemmas.{asks_below}
use Rattle.nll_rules.proofs.constraints.add_next.Goals as goal
use Rattle.nll_rules.proofs.constraints.add_next.Goals.{After-make_room, After-asks, After-as_slice, After-next_of}

room : (c : After-make_room) → IsOfBody c.args.body.now c.make_room.new.self
room c = of_body_later c.args.body.now c.args.known.now c.make_room.new.self c.make_room.ensures c.requires.known

pub asks-requires-clause-rows : goal.asks-requires-clause-rows
asks-requires-clause-rows c =
    stands_rows c.args.body.now c.make_room.new.self (room (goal.at.asks-requires-clause-rows c).After-make_room)
    c.args.point c.at.result.now (rw c.statements.ensures at c.at.ensures)

pub asks-requires-clause-agree : goal.asks-requires-clause-agree
asks-requires-clause-agree c =
    stands_agree c.args.body.now c.make_room.new.self (room (goal.at.asks-requires-clause-agree c).After-make_room)
    c.args.point c.at.result.now (rw c.statements.ensures at c.at.ensures)

known : (c : After-asks) → IsOfBody c.args.body.now c.asks.new.self
known c =
    let k = c.make_room.new.self in
    let h = of_body_later c.args.body.now c.args.known.now k c.make_room.ensures c.requires.known in
    of_body_later c.args.body.now k c.asks.new.self (learns_same k c.asks.new.self c.asks.ensures.learns) h

pub returns-in_err-asks-clause-known : goal.returns-in_err-asks-clause-known
returns-in_err-asks-clause-known c = known (goal.at.returns-in_err-asks-clause-known c).After-asks

pub returns-in_err-add_pairs-clause-known : goal.returns-in_err-add_pairs-clause-known
returns-in_err-add_pairs-clause-known c = known (goal.at.returns-in_err-add_pairs-clause-known c).After-asks

pub returns-clause-known : goal.returns-clause-known
returns-clause-known c = known (goal.at.returns-clause-known c).After-asks

-- the list has what stands there asks
asked : (c : After-as_slice) → AreAskedAt c.args.body.now c.args.point c.as_slice.result.now
asked c =
    let k = c.make_room.new.self in
    let h = of_body_later c.args.body.now c.args.known.now k c.make_room.ensures c.requires.known in
    let s = c.at.result.now in
    let meant = meant_by k.shapes k.regions (statement_in k.lists s) in
    let once = c.keep_once.new.pairs.items in
    rw c.as_slice.ensures.value (asked_pairs c.args.body.now c.args.point meant once
    (stands c.args.body.now k h c.args.point s (rw c.statements.ensures at c.at.ensures))
    (kept_asked c.args.body.now meant k.structs k.variables c.clear.new.self.items c.asks.new.asked.pairs.items once
    once h.structs h.variables c.clear.ensures.items c.in_ok-asks.ensures.asked c.keep_once.ensures refl))

pub next_of-requires : goal.next_of-requires
next_of-requires c = omega (arith, c.graph.ensures.points, c.requires.point)

-- the successors are the points that may come after it
goes : (c : After-next_of) → (q : ℕ) → Contains c.next_of.result.now q ↔ IsFollowedBy c.args.body.now c.args.point q
goes c =
    λ q. (
      λ h. (c.graph.ensures.next c.args.point q).0 ((c.next_of.ensures.each q).0 h),
      λ g. (c.next_of.ensures.each q).1 ((c.graph.ensures.next c.args.point q).1 g),
    )

pub add_pairs-requires-clause-points : goal.add_pairs-requires-clause-points
add_pairs-requires-clause-points c =
    let d = (goal.at.add_pairs-requires-clause-points c).After-next_of in
    λ p h. subst (λ (n : ℕ). p < n) (sym c.requires.points) (c.requires.sound.in_range c.args.point p ((goes d p).0 h))

pub add_pairs-requires-clause-regions : goal.add_pairs-requires-clause-regions
add_pairs-requires-clause-regions c =
    let d = (goal.at.add_pairs-requires-clause-regions c).After-as_slice in
    λ x h. subst (λ (n : ℕ). (x.0 < n) × (x.1 < n)) (sym c.requires.regions)
    (let a = (asked d x).0 h in asks_below c.args.body.now c.requires.sound c.args.point a.0 a.1 x a.2)

pub returns-clause-ok : goal.returns-clause-ok
returns-clause-ok c =
    let d = goal.at.returns-clause-ok c in
    adds_same _ (IsAskedAt c.args.body.now c.args.point) c.args.builder.now c.add_pairs.new.builder
    (known_here c.args.body.now c.args.point c.next_of.result.now c.as_slice.result.now
    (goes d.After-next_of) (asked d.After-as_slice))
    c.in_ok-add_pairs.ensures.ok

pub returns-in_err-add_pairs-clause-err : goal.returns-in_err-add_pairs-clause-err
returns-in_err-add_pairs-clause-err c =
    let d = goal.at.returns-in_err-add_pairs-clause-err c in
    let p = err_from_is_err_and c.from_residual-in_err-add_pairs.result
    c.from_residual-in_err-add_pairs.ensures.1 in
    rw (p.1, p.2) (refused_same _ (IsAskedAt c.args.body.now c.args.point) c.args.builder.now _
    (λ k. (known_here c.args.body.now c.args.point c.next_of.result.now c.as_slice.result.now
    (goes d.After-next_of) (asked d.After-as_slice) k).0)
    c.in_err-add_pairs.ensures.err)
