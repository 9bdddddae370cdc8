use Rattle.std.proofs.Common.{◌≡◌, ◌+◌, length}
use Rattle.nll_core.proofs.order.starts_of.Given as goal

abbrev pub invariant-loop-place : goal.invariant-loop-place
invariant-loop-place l = length l.starts.items ≡ l.regions + 1

abbrev pub invariant-loop-region : goal.invariant-loop-region
invariant-loop-region l = length l.starts.items ≡ l.regions + 1
