use Rattle.std.proofs.Common.{◌≡◌, [], map, replicate}
use Rattle.keeper.proofs.book.empty_lists.Given as goal

abbrev pub invariant-loop : goal.invariant-loop
invariant-loop g l = map (λ list. list.items) l.lists.items ≡ replicate l.counter []
