use Rattle.std.proofs.Common.{◌≡◌, drop, map, length}
use Rattle.nll_mir_text.specs.Naming.{same_kinds}
use Rattle.nll_mir_text.specs.Resolving.{is_region_entry}
use Rattle.nll_mir_text.proofs.rows.are_of.Given as goal

abbrev pub invariant-loop-number : goal.invariant-loop-number
invariant-loop-number l = record {
  lengths : length l.arguments ≡ length l.kinds;
  left : same_kinds (map is_region_entry (drop l.number l.arguments)) (drop l.number l.kinds)
      ≡ same_kinds (map is_region_entry l.arguments) l.kinds;
}
