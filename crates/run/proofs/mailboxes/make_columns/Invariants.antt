use Rattle.std.proofs.Common.{◌≡◌, [], map, replicate}
use Rattle.run.proofs.mailboxes.make_columns.Given as goal

abbrev pub invariant-loop : goal.invariant-loop
invariant-loop g l = map (λ c. c.items) l.columns.items ≡ replicate l.counter []
