use Rattle.std.proofs.Common.{◌≡◌, ◌≤◌, ◌/◌, map, vec_len, vec_capacity}
use Rattle.std.specs.List.{range_with_len}
use Rattle.nll_cut.proofs.cut.Cut.blocks.Given as goal

abbrev pub invariant-loop-region : goal.invariant-loop-region
invariant-loop-region l = record {
  items : l.list.items ≡ map (λ r. r / l.size) (range_with_len 0 l.region);
  len : vec_len l.list ≡ l.region;
  room : l.regions ≤ vec_capacity l.list;
}
