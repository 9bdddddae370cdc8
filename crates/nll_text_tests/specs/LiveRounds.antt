-- What a round over all points flags. Source: project's choice. Only private contracts cite this
-- file.
use Rattle.std.specs.Prelude.{◌≡◌, ℕ, Bool, true, false, not, List, length, count_by}
use Rattle.nll_sets.specs.ElementSet.{flag}
use Rattle.nll_body.specs.Bodies.{BodyText}
use Rattle.nll_live.specs.Live.{GoesOnUndefined, IsLive}

-- how many points aren't flagged
abbrev pub unflagged : List Bool → ℕ
unflagged flags = count_by not flags

-- a flagged point may come after p, which doesn't define x
abbrev pub GoesOnToFlagged : BodyText → ℕ → List Bool → ℕ → Type 0
GoesOnToFlagged body x flags p = (q : ℕ) × (flag flags q ≡ true) × GoesOnUndefined body x p q

-- p isn't flagged, and should be
abbrev pub IsNew : BodyText → ℕ → List Bool → ℕ → Type 0
IsNew body x flags p = (flag flags p ≡ false) × GoesOnToFlagged body x flags p

-- Points were flagged from which one that was flagged before is reachable without passing a
-- definition.
pub record Flags (body : BodyText) (x : ℕ) (old new : List Bool) : Type 0 where
  pub width : length new ≡ length old
  pub kept : (p : ℕ) → flag old p ≡ true → flag new p ≡ true
  pub led : (p : ℕ) → flag new p ≡ true → IsLive body (λ q. flag old q ≡ true) x p
