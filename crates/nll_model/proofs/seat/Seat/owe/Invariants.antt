use Rattle.nll_model.proofs.OweLemmas.{Owes}
use Rattle.nll_model.proofs.seat.Seat.owe.Given as goal

abbrev pub invariant-loop-to : goal.invariant-loop-to
invariant-loop-to l =
    Owes l.fn.self (record {
      owner = l.self-inside.owner;
      item = l.self-inside.item;
      left = l.self-inside.left;
      lanes = l.self-inside.lanes.items;
    }) l.count l.to
