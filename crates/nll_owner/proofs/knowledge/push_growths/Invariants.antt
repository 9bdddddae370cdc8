use Rattle.std.proofs.Common.{◌≡◌, ◌+◌, ◌-◌, ◌≤◌, ◌++◌}
use Rattle.std.specs.Prelude.{vec_len, vec_capacity}
use Rattle.nll_owner.specs.Keeping.{growths}
use Rattle.nll_owner.proofs.knowledge.push_growths.Given as goal

abbrev pub invariant-loop-number : goal.invariant-loop-number
invariant-loop-number l = record {
  items : l.log.items ≡ l.fn.log.items ++ growths l.region l.first l.clock l.number;
  room : vec_len l.log + (l.count - l.number) ≤ vec_capacity l.log;
}
