use Rattle.std.proofs.Common.{◌≡◌, ◌++◌}
use Rattle.nll_types.specs.declared.parameter.Sign.TheVariants.{Invariant}
use Rattle.nll_rules.specs.Positions.{sign_or, times}
use Rattle.nll_rules.specs.Signs.{sign_row}
use Rattle.nll_rules.proofs.row_signs.push_own.Given as goal

abbrev pub invariant-loop-place : goal.invariant-loop-place
invariant-loop-place l = l.signs.items
    ≡ l.fn.signs.items ++ sign_row (λ k. times l.outer (sign_or l.parameters k Invariant)) l.place
