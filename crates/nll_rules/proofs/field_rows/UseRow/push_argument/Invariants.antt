use Rattle.std.proofs.Common.{◌≡◌, ◌++◌, ℕ, List, drop, length, take}
use Rattle.nll_rules.specs.TypeRows.{row_from}
use Rattle.nll_rules.proofs.field_rows.UseRow.push_argument.Given as goal

abbrev pub invariant-loop-place : goal.invariant-loop-place
invariant-loop-place l = (row : List ℕ) → length row ≡ l.self.count
    → row_from row l.template.items ≡ row_from row l.fn.template.items ++ drop l.from (take l.place row)
