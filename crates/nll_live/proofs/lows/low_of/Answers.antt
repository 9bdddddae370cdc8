use Rattle.std.proofs.Common.{◌≡◌, ◌-◌, ◌<◌, ◌≤◌, ℕ, length, true, false, ltb, ap, ⊎_elim, rules, arith}
use Rattle.std.specs.Prelude.{slice_index}
use Rattle.std.specs.List.Sorted.{IsPartitionPoint}
use Rattle.std.proofs.lemmas.Bool.{cases_lt, ltb-false, ltb-true}
use Rattle.std.proofs.lemmas.List.Sorted.{IsPartitionPoint-from_clause, IsPartitionedBy-ltb}
use Rattle.nll_problem.proofs.IndexLemmas.{keys_rise}
use Rattle.nll_live.proofs.MarkLemmas.{at_each}
use Rattle.nll_live.proofs.lows.low_of.Goals as goal
use Rattle.nll_live.proofs.lows.low_of.Goals.{After-partition_point-count}

parted : (c : After-partition_point-count)
    → IsPartitionPoint (λ (at : ℕ). ltb at c.args.point ≡ true)
    (λ (at : ℕ). ltb at c.args.point ≡ false) c.args.definitions.now c.partition_point-count.result
parted c =
    IsPartitionPoint-from_clause (λ (at : ℕ). ltb at c.args.point) _ _ c.partition_point-count.ensures.partitioned
    (IsPartitionedBy-ltb (λ (at : ℕ). at) c.args.definitions.now c.args.point
    (keys_rise (λ (at : ℕ). at) ◌<◌ (λ x y h. omega (arith, h)) _ c.requires.ascending)) (λ a r q k. search rules)

before : (c : After-partition_point-count) → (k : ℕ) → k < c.partition_point-count.result
    → slice_index c.args.definitions.now k < c.args.point
before c k h = ltb-true _ _ ((parted c).0 k 0 (omega (arith, c.partition_point-count.ensures.bound)) h)

after : (c : After-partition_point-count) → (k : ℕ) → c.partition_point-count.result ≤ k
    → k < length c.args.definitions.now → c.args.point ≤ slice_index c.args.definitions.now k
after c k h within = ltb-false _ _ ((parted c).1 k 0 h within)

pub overflow_add-definitions : goal.overflow_add-definitions
overflow_add-definitions c =
    let d = (goal.at.overflow_add-definitions c).After-partition_point-count in
    let n : ℕ = c.partition_point-count.result in
    let low : slice_index c.args.definitions.now (n - 1) < c.args.point = before d (n - 1) (omega arith) in
    omega (arith, low, c.ranges.point.fits)

pub returns-then-count-eq0 : goal.returns-then-count-eq0
returns-then-count-eq0 c =
    let d = (goal.at.returns-then-count-eq0 c).After-partition_point-count in
    record {
      above = omega arith;
      before = c.requires.start;
      none = at_each (λ q. q < c.args.point → q < c.args.start) c.args.definitions.now
          (λ k h less. absurd (omega (arith, less, after d k (omega arith) h)));
    }

pub returns-else-count-eq0 : goal.returns-else-count-eq0
returns-else-count-eq0 c =
    let d = (goal.at.returns-else-count-eq0 c).After-partition_point-count in
    let n : ℕ = c.partition_point-count.result in
    let points = c.args.definitions.now in
    let low : slice_index points (n - 1) < c.args.point = before d (n - 1) (omega arith) in
    let within : n - 1 < length points = omega (arith, c.partition_point-count.ensures.bound) in
    record {
      above = omega (arith, c.max.ensures);
      before = omega (arith, c.max.ensures, c.requires.start, low);
      none = at_each (λ q. q < c.args.point → q < c.max.result) points
          (λ k h less. ⊎_elim
          (λ front. ⊎_elim
          (λ earlier. omega (arith, c.requires.ascending k (n - 1) 0 earlier within, c.max.ensures))
          (λ last.
          let is : k ≡ n - 1 = omega (arith, front, last) in
          let same : slice_index points k ≡ slice_index points (n - 1) = ap (slice_index points) is in
          omega (arith, same, c.max.ensures))
          (cases_lt k (n - 1)))
          (λ past. absurd (omega (arith, less, after d k past h)))
          (cases_lt k n));
    }
