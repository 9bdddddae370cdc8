use Rattle.std.proofs.Common.{◌≡◌, ◌++◌, true, map, take}
use Rattle.std.specs.List.{list_all}
use Rattle.nll_body.specs.Within.{ListsGrow}
use Rattle.nll_mir_text.specs.ResolvedStatements.{is_bound, bound_numbers}
use Rattle.nll_mir_text.proofs.resolution.resolve_bounds.Given as goal

abbrev pub invariant-loop-bound : goal.invariant-loop-bound
invariant-loop-bound l = record {
  grows : ListsGrow l.fn.statements l.statements;
  known : list_all (is_bound l.names) (take l.bound-index l.bounds) ≡ true;
  made : l.statements.pairs ≡ l.fn.statements.pairs ++ map (bound_numbers l.names) (take l.bound-index l.bounds);
}
