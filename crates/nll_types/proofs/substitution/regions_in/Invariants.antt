use Rattle.std.proofs.Common.{◌≡◌, ◌≤◌, length, map, take, vec_len, vec_capacity}
use Rattle.nll_types.specs.Structs.{region_in}
use Rattle.nll_types.proofs.substitution.regions_in.Given as goal

abbrev pub invariant-loop-region : goal.invariant-loop-region
invariant-loop-region l = (l.put.items ≡ map (region_in l.regions) (take l.region-index l.of))
    × (vec_len l.put ≡ l.region-index) × (length l.of ≤ vec_capacity l.put)
