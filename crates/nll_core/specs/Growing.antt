-- How values grow towards the least solution of a problem. Source: project's choice. Only private
-- contracts cite this file.
use Rattle.std.specs.Prelude.{◌≡◌, ◌⊎◌, ℕ, ◌<◌, Bool, true, false, IsTrue}
use Rattle.std.specs.Prelude.{List, length, Contains, sum_by}
use Rattle.nll_problem.specs.Problem.{Problem, IsUniversal, end_of}
use Rattle.nll_problem.specs.Solution.{Asks, Satisfies}
use Rattle.nll_core.specs.Search.{missing}
use Rattle.nll_core.specs.Values.{set_of, IsHeld}
use Rattle.nll_problem.specs.declared.constraint.Constraint.{Constraint}

-- how many pairs of a region and an element are missing
abbrev pub missing_pairs : List (List Bool) → ℕ
missing_pairs values = sum_by missing values

-- The values lost nothing, and each pair of a region and an element that they gained is of this
-- kind.
pub record Gains (kind : ℕ → ℕ → Type 0) (old new : List (List Bool)) : Type 0 where
  pub width : length new ≡ length old
  pub widths : (r : ℕ) → length (set_of new r) ≡ length (set_of old r)
  pub kept : (r e : ℕ) → IsHeld old r e → IsHeld new r e
  pub cause : (r e : ℕ) → IsHeld new r e → IsHeld old r e ⊎ kind r e

-- `changed` says whether the values gained something.
pub record Tells (changed : Bool) (old new : List (List Bool)) : Type 0 where
  pub same : changed ≡ false → new ≡ old
  pub fewer : changed ≡ true → missing_pairs new < missing_pairs old

-- the assignment has all that the values hold
abbrev pub IsBelow : List (List Bool) → (ℕ → ℕ → Bool) → Type 0
IsBelow values assignment = (r e : ℕ) → IsHeld values r e → IsTrue (assignment r e)

-- each assignment that satisfies the problem and has all of the old values has all of the new ones
abbrev pub StaysBelow : Problem → List (List Bool) → List (List Bool) → Type 0
StaysBelow q old new =
    (assignment : ℕ → ℕ → Bool) → Satisfies q (λ s f. IsTrue (assignment s f))
    → IsBelow old assignment → IsBelow new assignment

-- the universal regions hold all points
abbrev pub HoldsPoints : Problem → List (List Bool) → Type 0
HoldsPoints q values = (r e : ℕ) → IsUniversal q r → e < q.graph.points → IsHeld values r e

-- each universal region holds its own end
abbrev pub HoldsEnds : Problem → List (List Bool) → Type 0
HoldsEnds q values = (r : ℕ) → IsUniversal q r → IsHeld values r (end_of q r)

-- the values hold what the base facts say
abbrev pub HoldsFacts : Problem → List (List Bool) → Type 0
HoldsFacts q values = (r e : ℕ) → Contains q.bases (r, e) → IsHeld values r e

-- the constraint asks for e in its region `sup`, which is r
abbrev pub IsAskedBy : Problem → List (List Bool) → Constraint → ℕ → ℕ → Type 0
IsAskedBy q values c r e = (r ≡ c.sup) × Asks q.graph (IsHeld values) c e

-- the new values hold all that the constraint asks for by the old ones
abbrev pub Meets : Problem → List (List Bool) → Constraint → List (List Bool) → Type 0
Meets q old c new = (e : ℕ) → Asks q.graph (IsHeld old) c e → IsHeld new c.sup e

-- the values hold all that the constraint asks of them
abbrev pub IsMet : Problem → List (List Bool) → Constraint → Type 0
IsMet q values c = Meets q values c values

-- the values meet each constraint
abbrev pub MeetsEach : Problem → List (List Bool) → Type 0
MeetsEach q values = (c : Constraint) → Contains q.constraints c → IsMet q values c
