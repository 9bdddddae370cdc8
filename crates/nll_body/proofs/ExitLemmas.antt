-- How many targets there are, each counted once.
use Rattle.std.proofs.Common.{◌≡◌, ℕ, List, [], ◌∷◌, length, refl, arith}
use Rattle.std.specs.Prelude.{◌==◌}
use Rattle.indexmap.specs.IndexSet.{insert_all}

-- one number stands there once
pub one_once : (xs : List ℕ) → length xs ≡ 1 → 1 ≡ length (insert_all (λ b c. b == c) [] xs)
one_once [] h = absurd (omega arith)
one_once (x ∷ []) h = refl
one_once (x ∷ (y ∷ xs)) h = absurd (omega arith)
