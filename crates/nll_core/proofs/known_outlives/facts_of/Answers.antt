use Rattle.std.proofs.Common.{◌≡◌, ℕ, true, false, ltb, leb, ⊎_elim, rules, arith}
use Rattle.std.specs.List.Sorted.{IsNonDecreasingBy, IsPartitionPoint}
use Rattle.std.proofs.lemmas.List.Sorted.{IsPartitionPoint-from_clause, IsPartitionedBy-leb, IsPartitionedBy-ltb}
use Rattle.nll_problem.specs.Problem.{IsEarlier}
use Rattle.nll_problem.proofs.IndexLemmas.{keys_rise, rest_of, rest_keys_rise, key_part_has}
use Rattle.nll_core.proofs.known_outlives.facts_of.Goals as goal
use Rattle.nll_core.proofs.known_outlives.facts_of.Goals.{After-partition_point-count}

abbrev longer_of : ℕ × ℕ → ℕ
longer_of fact = fact.0

rise : (c : After-partition_point-count) → IsNonDecreasingBy longer_of c.args.facts.now
rise c =
    keys_rise longer_of IsEarlier (λ x y. ⊎_elim (λ less. omega (arith, less)) (λ same. omega (arith, same.0))) _
    c.requires

parted : (c : After-partition_point-count)
    → IsPartitionPoint (λ (fact : ℕ × ℕ). ltb fact.0 c.args.longer ≡ true)
    (λ (fact : ℕ × ℕ). ltb fact.0 c.args.longer ≡ false) c.args.facts.now c.partition_point-first.result
parted c =
    IsPartitionPoint-from_clause (λ (fact : ℕ × ℕ). ltb fact.0 c.args.longer) _ _
    c.partition_point-first.ensures.partitioned (IsPartitionedBy-ltb longer_of _ c.args.longer (rise c))
    (λ a r q k. search rules)

parted_rest : (c : After-partition_point-count)
    → IsPartitionPoint (λ (fact : ℕ × ℕ). leb fact.0 c.args.longer ≡ true)
    (λ (fact : ℕ × ℕ). leb fact.0 c.args.longer ≡ false)
    (rest_of c.args.facts.now c.partition_point-first.result) c.partition_point-count.result
parted_rest c =
    IsPartitionPoint-from_clause (λ (fact : ℕ × ℕ). leb fact.0 c.args.longer) _ _
    c.partition_point-count.ensures.partitioned
    (IsPartitionedBy-leb longer_of _ c.args.longer (rest_keys_rise longer_of _ c.partition_point-first.result (rise c)))
    (λ a r q k. search rules)

pub returns : goal.returns
returns c =
    let d = (goal.at.returns c).After-partition_point-count in
    key_part_has longer_of _ c.args.longer c.partition_point-first.result c.partition_point-count.result
    c.partition_point-first.ensures.bound c.partition_point-count.ensures.bound (parted d) (parted_rest d)
