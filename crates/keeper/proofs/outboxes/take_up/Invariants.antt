use Rattle.std.proofs.Common.{◌≡◌, length, ◌-◌, ◌≤◌, take, map}
use Rattle.keeper.specs.Keeping.{AreParts}
use Rattle.keeper.proofs.outboxes.take_up.Given as goal

-- the log up to the place was looked through
abbrev pub invariant-loop-boxes : goal.invariant-loop-boxes
invariant-loop-boxes g l = record {
  within : l.boxes.place ≤ length l.log;
  counted : length l.boxes.lists.items ≡ length l.fn.boxes.lists.items;
  parts : AreParts g.E.Rules.rules l.engine (take l.boxes.place l.log) (map (λ list. list.items) l.boxes.lists.items);
}

abbrev pub decreases-loop-boxes : goal.decreases-loop-boxes
decreases-loop-boxes g l = length l.log - l.boxes.place
