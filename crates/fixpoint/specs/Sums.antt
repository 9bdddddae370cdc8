-- Sums over owners, and what is counted on each ordered pair of them.
-- Source: project's choice.
use Rattle.std.specs.Prelude.{◌≡◌, ℕ, zero, suc, ◌+◌, ◌<◌, ◌≤◌}

-- the sum of f over the numbers below n
abbrev pub sum_to : ℕ → (ℕ → ℕ) → ℕ
sum_to zero f = 0
sum_to (suc n) f = sum_to n f + f n

-- On each ordered pair of n owners no more was received than posted, and no more posted than owed.
-- An owner owes 1 for its load and what it owes on its pairs; it clears 1 and what it received.
pub record AreCounted (n : ℕ) (received posted due : ℕ → ℕ → ℕ) (owed cleared : ℕ → ℕ)
    : Type 0 where
  pub taken : (i j : ℕ) → i < n → j < n → received i j ≤ posted i j
  pub given : (i j : ℕ) → i < n → j < n → posted i j ≤ due i j
  pub owes : (i : ℕ) → i < n → owed i ≡ 1 + sum_to n (λ j. due i j)
  pub clears : (j : ℕ) → j < n → cleared j ≡ 1 + sum_to n (λ i. received i j)
