use Rattle.nll_model.specs.Working.{FillsLanes}
use Rattle.nll_model.proofs.seat.Seat.fill.Given as goal

abbrev pub invariant-loop-to : goal.invariant-loop-to
invariant-loop-to l =
    FillsLanes l.fn.self (record {
      owner = l.self-inside.owner;
      item = l.self-inside.item;
      left = l.self-inside.left;
      lanes = l.self-inside.lanes.items;
    }) l.to
