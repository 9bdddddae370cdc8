use Rattle.std.proofs.Common.{◌≡◌, ◌++◌, map}
use Rattle.std.specs.VecDeque.{deque_len}
use Rattle.run.proofs.parts.take_apart.Given as goal

abbrev pub invariant-loop-done : goal.invariant-loop-done
invariant-loop-done g l = record {
  lefts : l.lefts.items ++ map (λ d. d.left) l.finished.items ≡ map (λ d. d.left) l.initial.finished.items;
  grown : map (λ x. x.items) l.grown.items ++ map (λ d. d.log.items) l.finished.items
      ≡ map (λ d. d.log.items) l.initial.finished.items;
  yields : l.yields.items ++ map (λ d. d.yielded) l.finished.items
      ≡ map (λ d. d.yielded) l.initial.finished.items;
  rows : map (λ x. x.items) l.rows.items ++ map (λ d. d.closed.items) l.finished.items
      ≡ map (λ d. d.closed.items) l.initial.finished.items;
  columns : map (λ x. x.items) l.columns.items ++ map (λ d. d.receivers.items) l.finished.items
      ≡ map (λ d. d.receivers.items) l.initial.finished.items;
}

abbrev pub decreases-loop-done : goal.decreases-loop-done
decreases-loop-done g l = deque_len l.finished
