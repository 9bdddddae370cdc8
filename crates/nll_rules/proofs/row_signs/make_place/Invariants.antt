use Rattle.std.proofs.Common.{◌≡◌, ◌↔◌, ◌-◌, ℕ, suc, Some, vec_len}
use Rattle.std.specs.Prelude.{slice_get}
use Rattle.nll_rules.specs.declared.row_signs.ShapeSigns.{ShapeSigns}
use Rattle.nll_rules.proofs.row_signs.make_place.Given as goal

abbrev pub invariant-loop-known : goal.invariant-loop-known
invariant-loop-known l = (k : ℕ) (e : ShapeSigns) → slice_get l.known.items k ≡ Some (Some e)
    ↔ slice_get l.fn.known.items k ≡ Some (Some e)

abbrev pub decreases-loop-known : goal.decreases-loop-known
decreases-loop-known l = suc l.shape - vec_len l.known
