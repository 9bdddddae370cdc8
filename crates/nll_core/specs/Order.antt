-- A depth-first search through regions that gives an order of them: it yields only regions, and
-- nothing more is said of it. Source: project's choice. Only private contracts cite this file.
use Rattle.std.specs.Prelude.{◌≡◌, ℕ, ◌+◌, ◌<◌, List, length, Contains}
use Rattle.nll_problem.specs.declared.constraint.Constraint.{Constraint}
use Rattle.nll_core.specs.declared.order.Descent.{Descent}

-- each number of the list is below the count
abbrev pub AreBelowCount : ℕ → List ℕ → Type 0
AreBelowCount count xs = (x : ℕ) → Contains xs x → x < count

-- the constraints are of regions below the count
abbrev pub AreOfRegions : ℕ → List Constraint → Type 0
AreOfRegions count constraints =
    (c : Constraint) → Contains constraints c → (c.sub < count) × (c.sup < count)

-- A search among this many regions has an index and a mark for each, and its lists are of regions.
pub record IsDescent (count : ℕ) (d : Descent) : Type 0 where
  pub next_sized : length d.next.items ≡ count + 1
  pub seen_sized : length d.seen.items ≡ count
  pub path_within : AreBelowCount count d.path.items
  pub left_within : AreBelowCount count d.left.items
