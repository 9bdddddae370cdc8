use Rattle.std.proofs.Common.{◌≡◌, ◌++◌, ℕ, List, take}
use Rattle.nll_types.specs.Rows.{region_rows}
use Rattle.nll_types.specs.Structs.{put_in_all}
use Rattle.nll_types.specs.Types.{TypeTrees}
use Rattle.nll_types.specs.Views.{trees}
use Rattle.nll_rules.specs.TypeRows.{IsUseRow, row_from}
use Rattle.nll_rules.proofs.field_rows.+field_rows.Given as goal

abbrev pub invariant-push_fields-loop-part : goal.invariant-push_fields-loop-part
invariant-push_fields-loop-part l = (row rs : List ℕ) (ts : TypeTrees) → IsUseRow l.arguments row rs ts
    → row_from row l.template.items ≡ row_from row l.initial.template.items
    ++ region_rows (put_in_all rs ts (trees (take l.part-index l.parts)))
