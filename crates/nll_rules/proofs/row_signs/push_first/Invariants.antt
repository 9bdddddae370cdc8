use Rattle.std.proofs.Common.{◌≡◌, ◌++◌, drop, length, take}
use Rattle.nll_types.specs.Declarations.{structs_of}
use Rattle.nll_types.specs.Table.{all_at, shapes_in}
use Rattle.nll_rules.specs.Signs.{all_signs, part_sign}
use Rattle.nll_rules.specs.TypeRows.{starts_from}
use Rattle.nll_rules.proofs.row_signs.push_first.Given as goal

abbrev pub invariant-loop-place : goal.invariant-loop-place
invariant-loop-place l = record {
  signs : l.made.signs.items ≡ l.fn.made.signs.items
      ++ all_signs (structs_of l.structs) (part_sign l.kinds) (all_at (shapes_in l.shapes) (take l.place l.parts));
  starts : l.made.starts.items
      ++ starts_from (length l.made.signs.items) (all_at (shapes_in l.shapes) (drop l.place l.parts))
      ≡ l.fn.made.starts.items ++ starts_from (length l.fn.made.signs.items) (all_at (shapes_in l.shapes) l.parts);
}
