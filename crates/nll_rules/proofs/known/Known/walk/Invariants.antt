use Rattle.nll_types.specs.Types.{TypeTree}
use Rattle.nll_body.specs.Flat.{path_in}
use Rattle.nll_rules.specs.Knowing.{IsTypeOfRow, Learns}
use Rattle.nll_rules.proofs.ReborrowLemmas.{IsOnWay}
use Rattle.nll_rules.proofs.known.Known.walk.Given as goal

abbrev pub invariant-loop-projection : goal.invariant-loop-projection
invariant-loop-projection l = Learns l.fn.self l.self × (t : TypeTree) × IsTypeOfRow l.self t l.row
    × IsOnWay l.fn.self.structs l.fn.self.variables (path_in l.fn.self.lists l.place) l.projection-index t
    l.crossed.items
