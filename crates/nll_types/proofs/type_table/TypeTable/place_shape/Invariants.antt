use Rattle.nll_types.specs.Declarations.{structs_of}
use Rattle.nll_types.specs.Tables.{AddsShapes}
use Rattle.nll_types.proofs.WayLemmas.{IsOnWay}
use Rattle.nll_types.proofs.type_table.TypeTable.place_shape.Given as goal

abbrev pub invariant-loop-projection : goal.invariant-loop-projection
invariant-loop-projection l = AddsShapes l.fn.self l.self
    × IsOnWay (structs_of l.fn.self.structs) l.fn.self.shapes l.self.shapes l.projections l.projection-index l.from
    l.number l.small
