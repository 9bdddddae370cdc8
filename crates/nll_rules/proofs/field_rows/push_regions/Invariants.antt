use Rattle.std.proofs.Common.{◌≡◌, ◌++◌, ℕ, List, length, map, take}
use Rattle.nll_types.specs.Structs.{region_in}
use Rattle.nll_rules.specs.TypeRows.{own_row, row_from}
use Rattle.nll_rules.proofs.field_rows.push_regions.Given as goal

abbrev pub invariant-loop-region : goal.invariant-loop-region
invariant-loop-region l = (row : List ℕ) → length row ≡ l.arguments.count → row_from row l.template.items
    ≡ row_from row l.initial.template.items ++ map (region_in (own_row l.arguments row)) (take l.region-index l.regions)
