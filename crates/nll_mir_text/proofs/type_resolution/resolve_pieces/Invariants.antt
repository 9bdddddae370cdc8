use Rattle.std.proofs.Common.{◌≡◌, drop, length, map, ℕ, List}
use Rattle.nll_types.specs.Table.{AreBelow}
use Rattle.nll_types.specs.Tables.{AddsShapes}
use Rattle.nll_mir_grammar.specs.TypeTexts.{plain}
use Rattle.nll_mir_text.specs.Resolution.{scope_of}
use Rattle.nll_mir_text.specs.Resolving.{IsOf, KeepsRegions, ResolvingState, run_pieces}
use Rattle.nll_mir_text.proofs.type_resolution.resolve_pieces.Given as goal

abbrev pub invariant-loop-piece : goal.invariant-loop-piece
invariant-loop-piece l = record {
  grows : AddsShapes l.fn.types.table l.types.table;
  below : AreBelow (length l.types.table.shapes) l.made.shapes.items;
  made : (st : ResolvingState) → IsOf st l.fn.types l.fn.made → (next : ResolvingState) × IsOf next l.types l.made
      × (run_pieces (scope_of l.scope) (map plain (drop l.piece-index l.pieces)) next
      ≡ run_pieces (scope_of l.scope) (map plain l.pieces) st)
      × ((rs : List ℕ) → KeepsRegions (scope_of l.scope) rs (map plain l.pieces) st
      → KeepsRegions (scope_of l.scope) rs (map plain (drop l.piece-index l.pieces)) next);
}
