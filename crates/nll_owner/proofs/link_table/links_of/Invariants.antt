use Rattle.std.proofs.Common.{◌≡◌, ℕ, ◌<◌, [], length, get_or}
use Rattle.nll_owner.specs.Keeping.{IsSlotIn}
use Rattle.nll_owner.specs.Following.{AreLinksOf, AreFresh}
use Rattle.nll_owner.proofs.link_table.links_of.Given as goal

-- The rows so far are the links of each region whose slot is below the number.
abbrev pub invariant-loop-slot : goal.invariant-loop-slot
invariant-loop-slot l = record {
  none : l.row.items ≡ [];
  count : length l.rows.items ≡ l.slot;
  links : (s r : ℕ) (row : _) → s < l.slot → IsSlotIn l.slots s r → get_or l.rows.items s row ≡ row
      → AreLinksOf l.cut l.me r l.problem.constraints row.items × AreFresh row.items;
}
