use Rattle.std.proofs.Common.{◌≡◌, ◌⊎◌, ◌-◌, ◌≤◌, ◌++◌, map}
use Rattle.std.specs.List.{range_with_len}
use Rattle.nll_live.proofs.base_elements.push_pairs.Given as goal

abbrev pub invariant-loop-point : goal.invariant-loop-point
invariant-loop-point l = record {
  begun : l.base_run.1.0 ≤ l.point;
  upto : (l.point ≡ l.base_run.1.0) ⊎ (l.point ≤ l.base_run.1.1.0);
  items : l.pairs.items ≡ l.fn.pairs.items
      ++ map (λ p. (l.base_run.0, p)) (range_with_len l.base_run.1.0 (l.point - l.base_run.1.0));
}
