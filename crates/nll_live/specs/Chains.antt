-- Chains of points, along which a backward search has no choice. Source: project's choice. Only
-- private contracts cite this file.
use Rattle.std.specs.Prelude.{◌≡◌, ◌↔◌, ℕ, ◌+◌, ◌<◌, ◌≤◌, List, length, slice_index}

-- the point before q goes on to it, and no other point
abbrev pub FollowsAlone : (ℕ → ℕ → Type 0) → ℕ → Type 0
FollowsAlone goes_on q = (p : ℕ) → goes_on p q ↔ (p + 1 ≡ q)

-- each point after the first, up to the last, follows the one before it alone
abbrev pub IsChain : (ℕ → ℕ → Type 0) → ℕ → ℕ → Type 0
IsChain goes_on first last = (q : ℕ) → first < q → q ≤ last → FollowsAlone goes_on q

-- Each of the first n points has a start, not after it, from which a chain leads to it.
pub record HaveStarts (goes_on : ℕ → ℕ → Type 0) (n : ℕ) (starts : List ℕ) : Type 0 where
  pub counted : length starts ≡ n
  pub before : (p : ℕ) → p < n → slice_index starts p ≤ p
  pub chain : (p : ℕ) → p < n → IsChain goes_on (slice_index starts p) p
