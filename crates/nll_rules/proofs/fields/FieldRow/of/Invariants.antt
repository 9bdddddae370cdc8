use Rattle.std.proofs.Common.{◌≡◌, take}
use Rattle.nll_rules.specs.TypeRows.{row_from}
use Rattle.nll_rules.proofs.fields.FieldRow.of.Given as goal

abbrev pub invariant-loop-number : goal.invariant-loop-number
invariant-loop-number l = l.made.items ≡ row_from l.row (take l.number-index l.template)
