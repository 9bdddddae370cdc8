use Rattle.std.proofs.Common.{◌≡◌}
use Rattle.nll_cut.specs.Readers.{is_read}
use Rattle.nll_owner.specs.Keeping.{held_below}
use Rattle.nll_owner.proofs.slots.held_of.Given as goal

abbrev pub invariant-loop-number : goal.invariant-loop-number
invariant-loop-number l = l.held.items ≡ held_below l.number l.cut l.me (λ r. is_read l.readers l.me r)
