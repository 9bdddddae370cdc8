-- A front part of bytes that is split off.
-- Source: project's choice.
use Rattle.std.specs.Prelude.{◌≡◌, ℕ, List, Bool, true, false, ◌++◌}
use Rattle.std.specs.List.{AllByRecursion}
use Rattle.nll_text.specs.Tokens.{first_passes}

-- The bytes are the longest front that passes, and the rest.
pub record SplitsWhile (p : ℕ → Bool) (bytes front rest : List ℕ) : Type 0 where
  pub joined : bytes ≡ front ++ rest
  pub each : AllByRecursion (λ b. p b ≡ true) front
  pub stops : first_passes p rest ≡ false
