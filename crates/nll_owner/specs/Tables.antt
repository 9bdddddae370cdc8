-- What all owners of a cut look up in a problem.
-- Source: project's choice.
use Rattle.std.specs.Prelude.{◌≡◌, ℕ, Bool, List}
use Rattle.nll_problem.specs.Graph.{Graph}
use Rattle.nll_problem.specs.Problem.{Problem, SameSet}
use Rattle.nll_problem.specs.declared.constraint.Constraint.{Constraint}
use Rattle.nll_cut.specs.Partition.{Cut, reads}
use Rattle.nll_cut.specs.Readers.{is_read}

-- A graph, constraints, and who reads which region.
pub record OwnerTables : Type 0 where
  pub graph : Graph
  pub constraints : List Constraint
  pub readers : List (List Bool)

-- the tables of these parts
abbrev pub tables_of : Graph → List Constraint → List (List Bool) → OwnerTables
tables_of g ks reading = record { graph = g; constraints = ks; readers = reading }

-- The tables are those of the problem and its cut: they have the problem's graph and its
-- constraints, in some order, and say who reads which region.
pub record AreTables (q : Problem) (c : Cut) (t : OwnerTables) : Type 0 where
  pub same_graph : t.graph ≡ q.graph
  pub same_constraints : SameSet t.constraints q.constraints
  pub tells : (j r : ℕ) → is_read t.readers j r ≡ reads q c j r
