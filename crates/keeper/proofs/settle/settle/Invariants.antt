use Rattle.std.proofs.Common.{◌≡◌, ◌+◌, ◌-◌, ◌*◌, ◌^◌, length}
use Rattle.fixpoint.specs.Limits.{most_growths}
use Rattle.fixpoint.specs.State.{IsSoundPart}
use Rattle.keeper.specs.Keeping.{LogGrows, ListsDue, has}
use Rattle.keeper.proofs.settle.settle.Given as goal

-- all that follows is known or due
abbrev pub invariant-loop-fact : goal.invariant-loop-fact
invariant-loop-fact g l = record {
  sound : IsSoundPart g.E.Rules.rules l.book;
  grows : LogGrows l.fn.book l.book;
  store : (f : _) → g.E.Engine.has l.store f ≡ has g.E.Rules.rules l.book f;
  due : ListsDue g.E.Rules.rules l.book.system l.book.me (has g.E.Rules.rules l.book) l.due.items;
}

-- each growth uses up more than all that may be due
abbrev pub decreases-loop-fact : goal.decreases-loop-fact
decreases-loop-fact g l = (most_growths - length l.book.log) * 2 ^ 64 + length l.due.items
