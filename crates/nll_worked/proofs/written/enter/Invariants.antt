use Rattle.std.proofs.Common.{◌≡◌, ◌+◌}
use Rattle.nll_worked.proofs.written.enter.Given as goal

abbrev pub invariant-loop : goal.invariant-loop
invariant-loop l = record {
  points : l.builder.graph.points ≡ l.fn.builder.graph.points;
  universals : l.builder.graph.universals ≡ l.fn.builder.graph.universals;
  regions : l.builder.regions ≡ l.fn.builder.regions + l.counter;
}

abbrev pub invariant-loop-point : goal.invariant-loop-point
invariant-loop-point l = record {
  points : l.builder.graph.points ≡ l.fn.builder.graph.points;
  universals : l.builder.graph.universals ≡ l.fn.builder.graph.universals;
  regions : l.builder.regions ≡ l.fn.builder.regions + l.fn.written.variables;
}

abbrev pub invariant-loop-region : goal.invariant-loop-region
invariant-loop-region l = record {
  points : l.builder.graph.points ≡ l.fn.builder.graph.points;
  universals : l.builder.graph.universals ≡ l.fn.builder.graph.universals;
  regions : l.builder.regions ≡ l.fn.builder.regions + l.fn.written.variables;
}

abbrev pub invariant-loop-region-2 : goal.invariant-loop-region-2
invariant-loop-region-2 l = record {
  points : l.builder.graph.points ≡ l.fn.builder.graph.points;
  universals : l.builder.graph.universals ≡ l.fn.builder.graph.universals;
  regions : l.builder.regions ≡ l.fn.builder.regions + l.fn.written.variables;
}

abbrev pub invariant-loop-sup : goal.invariant-loop-sup
invariant-loop-sup l = record {
  points : l.builder.graph.points ≡ l.fn.builder.graph.points;
  universals : l.builder.graph.universals ≡ l.fn.builder.graph.universals;
  regions : l.builder.regions ≡ l.fn.builder.regions + l.fn.written.variables;
}
