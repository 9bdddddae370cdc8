use Rattle.std.proofs.Common.{◌≡◌, ◌++◌, map}
use Rattle.std.specs.VecDeque.{deque_len}
use Rattle.nll_run_tests.proofs.watches.numbered.Given as goal

abbrev pub invariant-loop-inner : goal.invariant-loop-inner
invariant-loop-inner g l = map (λ s. s.inner) l.numbered.items ++ l.shares.items ≡ l.initial.shares.items

abbrev pub decreases-loop-inner : goal.decreases-loop-inner
decreases-loop-inner g l = deque_len l.shares
