-- How many edges leave the points of a body.
-- Source: project's choice.
use Rattle.std.specs.Prelude.{ℕ, ◌==◌, if◌then◌else◌, List, [], length, sum_by}
use Rattle.indexmap.specs.IndexSet.{insert_all}
use Rattle.nll_body.specs.Statements.{Statement, is_terminator}
use Rattle.nll_body.specs.Effects.{targets}

-- how many edges leave the point of the statement or terminator
abbrev pub edges_from : {R T : Type 0} → Statement R T → ℕ
edges_from i =
    if is_terminator i then length (insert_all (λ b c. b == c) [] (targets i)) else 1

-- how many edges leave these points
abbrev pub edge_count : {R T : Type 0} → List (Statement R T) → ℕ
edge_count points = sum_by edges_from points
