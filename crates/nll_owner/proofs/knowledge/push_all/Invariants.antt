use Rattle.std.proofs.Common.{◌≡◌, ◌+◌, ◌-◌, ◌≤◌, ◌++◌, length, take}
use Rattle.std.specs.Prelude.{vec_len, vec_capacity}
use Rattle.nll_owner.specs.Keeping.{IsLatest}
use Rattle.nll_owner.proofs.knowledge.push_all.Given as goal

-- The growths before the index were appended.
abbrev pub invariant-loop-growth : goal.invariant-loop-growth
invariant-loop-growth l = record {
  items : l.list.items ≡ l.fn.list.items ++ take l.growth-index l.growths;
  latest : IsLatest l.time (take l.growth-index l.growths) l.clock;
  room : vec_len l.list + (length l.growths - l.growth-index) ≤ vec_capacity l.list;
}
