use Rattle.std.proofs.Common.{◌≡◌, ◌<◌, ℕ, length, true, false, ltb, rules, refl, arith}
use Rattle.std.specs.List.Sorted.{IsPartitionPoint}
use Rattle.std.proofs.lemmas.List.Sorted.{IsPartitionPoint-from_clause, IsPartitionedBy-ltb}
use Rattle.nll_core.proofs.StartLemmas.{first_least, least_found, none_found, others_rise}
use Rattle.nll_core.proofs.frontiers.places.Points.next_from.Goals as goal
use Rattle.nll_core.proofs.frontiers.places.Points.next_from.Goals.{After-partition_point-at}

parted : (c : After-partition_point-at)
    → IsPartitionPoint (λ (x : ℕ). ltb x c.args.from ≡ true)
    (λ (x : ℕ). ltb x c.args.from ≡ false) c.self.inside.others.now c.partition_point-at.result
parted c =
    IsPartitionPoint-from_clause (λ (x : ℕ). ltb x c.args.from) c.self.inside.others.now _
    c.partition_point-at.ensures.partitioned
    (IsPartitionedBy-ltb (λ (x : ℕ). x) c.self.inside.others.now c.args.from
    (others_rise c.self.inside.first c.self.inside.others.now c.self.invariant)) (λ a r q k. search rules)

pub returns-then-from-self-clause-least : goal.returns-then-from-self-clause-least
returns-then-from-self-clause-least c =
    λ x h _. first_least c.self.inside.first c.self.inside.others.now c.self.invariant x (rw (← c.self.view_is) at h)

pub returns-then-at-self-clause-some : goal.returns-then-at-self-clause-some
returns-then-at-self-clause-some c =
    let d = (goal.at.returns-then-at-self-clause-some c).After-partition_point-at in
    let within : c.partition_point-at.result < length c.self.inside.others.now = omega (arith, c.if-at-self.true) in
    rw (← c.self.view_is) (least_found c.self.inside.first c.args.from c.partition_point-at.result
    c.self.inside.others.now c.self.invariant (omega (arith, c.if-from-self.false)) (parted d) _ within refl).0

pub returns-then-at-self-clause-least : goal.returns-then-at-self-clause-least
returns-then-at-self-clause-least c =
    let d = (goal.at.returns-then-at-self-clause-least c).After-partition_point-at in
    let within : c.partition_point-at.result < length c.self.inside.others.now = omega (arith, c.if-at-self.true) in
    rw (← c.self.view_is) (least_found c.self.inside.first c.args.from c.partition_point-at.result
    c.self.inside.others.now c.self.invariant (omega (arith, c.if-from-self.false)) (parted d) _ within refl).1

pub returns-else-at-self-clause-none : goal.returns-else-at-self-clause-none
returns-else-at-self-clause-none c =
    rw (← c.self.view_is) (none_found c.self.inside.first c.args.from c.partition_point-at.result
    c.self.inside.others.now c.self.invariant (omega (arith, c.if-from-self.false))
    (parted (goal.at.returns-else-at-self-clause-none c).After-partition_point-at) (omega (arith, c.if-at-self.false)))
