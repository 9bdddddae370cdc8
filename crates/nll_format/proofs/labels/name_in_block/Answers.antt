use Rattle.std.proofs.Common.{◌≡◌, ◌≤◌, ◌<◌, ◌-◌, ◌∙◌, ap, leb, slice_index_or, length, refl, sym, take, arith, rules}
use Rattle.std.proofs.lemmas.List.{get_or-take, length-take-le}
use Rattle.std.proofs.lemmas.List.Sorted.{IsPartitionPoint-from_clause, IsPartitionedBy-leb}
use Rattle.nll_format.specs.Labels.{begun_blocks}
use Rattle.nll_format.proofs.LabelLemmas.{at_least, some_begun, last_begun, filter_front, not_falling}
use Rattle.nll_format.proofs.labels.name_in_block.Goals as goal
use Rattle.nll_format.proofs.labels.name_in_block.Goals.{After-partition_point-block}

-- the blocks in front are those that begin at the point or before it
front : (c : After-partition_point-block)
    → begun_blocks c.args.starts.now c.args.point ≡ take c.partition_point-block.result c.args.starts.now
front c =
    let parted = IsPartitionedBy-leb (λ start. start) _ c.args.point (not_falling _ c.requires.rise) in
    filter_front (λ start. leb start c.args.point) _ _ c.partition_point-block.ensures.bound
    (IsPartitionPoint-from_clause (λ start. leb start c.args.point) _ _ c.partition_point-block.ensures.partitioned
    parted (λ a r q k. search rules))

count : (c : After-partition_point-block)
    → c.partition_point-block.result ≡ length (begun_blocks c.args.starts.now c.args.point)
count c = sym (ap length (front c) ∙ length-take-le _ _ c.partition_point-block.ensures.bound)

some : (c : After-partition_point-block) → 1 ≤ c.partition_point-block.result
some c = omega (arith, count c, some_begun c.args.starts.now c.args.point c.requires)

within : (c : After-partition_point-block) → c.partition_point-block.result - 1 < length c.args.starts.now
within c = omega (arith, some c, c.partition_point-block.ensures.bound)

-- the last block that is counted begins at the point or before it
last : (c : After-partition_point-block)
    → slice_index_or c.args.starts.now (c.partition_point-block.result - 1) 0 ≤ c.args.point
last c =
    last_begun c.args.starts.now c.args.point c.partition_point-block.result (some c) (count c) (front c)

low : (c : After-partition_point-block) → c.partition_point-block.result - 1 ≤ c.args.point
low c =
    omega (arith, at_least c.args.starts.now c.requires.rise (c.partition_point-block.result - 1) (within c), last c)

pub overflow_sub-block : goal.overflow_sub-block
overflow_sub-block c = some (goal.at.overflow_sub-block c).After-partition_point-block

pub overflow_cast-result : goal.overflow_cast-result
overflow_cast-result c =
    omega (arith, low (goal.at.overflow_cast-result c).After-partition_point-block, c.ranges.point.fits)

pub offset_bounds-starts-block : goal.offset_bounds-starts-block
offset_bounds-starts-block c =
    omega (arith, low (goal.at.offset_bounds-starts-block c).After-partition_point-block, c.ranges.point.fits)

pub bounds-starts-block : goal.bounds-starts-block
bounds-starts-block c = within (goal.at.bounds-starts-block c).After-partition_point-block

pub overflow_sub-result : goal.overflow_sub-result
overflow_sub-result c = last (goal.at.overflow_sub-result c).After-partition_point-block

pub returns : goal.returns
returns c =
    let at = (goal.at.returns c).After-partition_point-block in
    rw (sym (count at)) (rw (front at) (rw (get_or-take c.partition_point-block.result c.args.starts.now
    (c.partition_point-block.result - 1) 0 (omega (arith, some at))) refl))
