use Rattle.std.proofs.Common.{◌≡◌, [], map, replicate}
use Rattle.nll_live.proofs.points_by_variable.empty_lists.Given as goal

abbrev pub invariant-loop : goal.invariant-loop
invariant-loop l = map (λ list. list.items) l.lists.items ≡ replicate l.counter []
