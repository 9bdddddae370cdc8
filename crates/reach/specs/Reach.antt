-- Which nodes of a graph are reached from its roots, and the rules by which owners find it out.
-- Source: project's choice.
use Rattle.std.specs.Prelude.{◌⊎◌, ◌^◌, ◌%◌, ◌<◌, ◌≤◌, ◌==◌, ◌&&◌, ℕ, not, List, [], map, Contains}
use Rattle.std.specs.Prelude.{IsTrue, slice_index_or}
use Rattle.std.specs.List.{list_any}
use Rattle.fixpoint.specs.Rules.{Rules}
use Rattle.fixpoint.specs.declared.growth.Growth.{Growth}
use Rattle.reach.specs.declared.Graph.{Graph}

-- where the edges from a node lead
abbrev pub ends : Graph → ℕ → List ℕ
ends a x = slice_index_or (map (λ list. list.items) a.edges.now) x []

-- the node is a root, or an edge leads to it from a node that is reached
pub data IsReached (a : Graph) : ℕ → Type 0 where
  root : (x : ℕ) → Contains a.roots.now x → IsReached a x
  step : (x y : ℕ) → Contains (ends a x) y → IsReached a x → IsReached a y

-- The rules by which owners find it out. A node is a number of 32 bits. An owner reads a node that
-- isn't its own if an edge leads from there to one that is. A node follows if it's a root, or if
-- an edge leads to it from a known node.
abbrev pub rules_of_reach : Rules Graph ℕ (Growth ℕ)
rules_of_reach = record {
  valid = λ a. (0 < a.owners) × (a.owners ≤ 64);
  parts = λ a. a.owners;
  owner = λ a x. x % a.owners;
  reads = λ a i x. list_any (λ y. not (x % a.owners == i) && (y % a.owners == i)) (ends a x);
  derives = λ a known y.
      Contains a.roots.now y ⊎ ((x : ℕ) × Contains (ends a x) y × IsTrue (known x));
  proper = λ a x. x < 2 ^ 32;
  same = λ x y. x == y;
  fact = λ g. g.fact;
  rank = λ g. g.rank;
}
