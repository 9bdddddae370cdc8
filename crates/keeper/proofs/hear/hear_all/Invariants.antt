use Rattle.std.proofs.Common.{◌≡◌, take}
use Rattle.fixpoint.specs.State.{IsSoundPart, with_growths}
use Rattle.keeper.specs.Keeping.{ListsDue, has}
use Rattle.keeper.proofs.hear.hear_all.Given as goal

-- the growths before the index were received
abbrev pub invariant-loop-growth : goal.invariant-loop-growth
invariant-loop-growth g l = record {
  others : l.book ≡ record l.fn.book { received = l.book.received };
  received : l.book.received ≡ with_growths l.fn.book.received l.from (take l.growth-index l.growths);
  sound : IsSoundPart g.E.Rules.rules l.book;
  store : (f : _) → g.E.Engine.has l.store f ≡ has g.E.Rules.rules l.book f;
  due : ListsDue g.E.Rules.rules l.book.system l.book.me (has g.E.Rules.rules l.book) l.due.items;
}
