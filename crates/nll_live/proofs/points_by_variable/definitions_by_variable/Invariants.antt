use Rattle.std.proofs.Common.{length, map}
use Rattle.nll_live.specs.Live.{DefinesAt}
use Rattle.nll_live.specs.Gathering.{AreListed, AscendBelow}
use Rattle.nll_live.proofs.points_by_variable.definitions_by_variable.Given as goal

abbrev pub invariant-loop-point : goal.invariant-loop-point
invariant-loop-point l = record {
  listed : AreListed (length l.body.variables) (DefinesAt l.body) l.point (map (λ list. list.items) l.lists.items);
  ascending : AscendBelow l.point (map (λ list. list.items) l.lists.items);
}
