use Rattle.std.proofs.Common.{◌≡◌, length}
use Rattle.nll_owner.proofs.SlotLemmas.{TellsTo}
use Rattle.nll_owner.proofs.slots.table_of.Given as goal

abbrev pub invariant-loop-slot : goal.invariant-loop-slot
invariant-loop-slot l = record {
  sized : length l.table.items ≡ l.regions;
  tells : TellsTo l.held l.table.items l.slot;
}
