-- How the graph of a body comes about, one point after another. Source: project's choice. Only
-- private contracts cite this file.
use Rattle.std.specs.Prelude.{◌≡◌, ◌⊎◌, ◌↔◌, ℕ, ◌+◌, ◌≤◌, ◌<◌, ◌==◌, List, [], length, take}
use Rattle.std.specs.Prelude.{Some, slice_get, Contains}
use Rattle.indexmap.specs.IndexSet.{insert_all}
use Rattle.nll_problem.specs.Graph.{Graph, IsNext, IsReturn}
use Rattle.nll_body.specs.Statements.{Statement, return}
use Rattle.nll_body.specs.Effects.{targets}
use Rattle.nll_body.specs.Edges.{LeadsToBlock, LeavesTo, edges_from, edge_count}

-- The graph got the edges from p to the first points of these blocks.
pub record AddsTargets (starts : List ℕ) (p : ℕ) (blocks : List ℕ) (old new : Graph) : Type 0 where
  pub others : new ≡ record old { edges = new.edges }
  pub next : (r q : ℕ) → IsNext new r q ↔ (IsNext old r q ⊎ ((r ≡ p)
      × LeadsToBlock starts blocks q))
  pub counted :
      length new.edges ≤ length old.edges + length (insert_all (λ b c. b == c) [] blocks)

-- The graph got the edges that leave p, where this is.
pub record AddsEdges {R T : Type 0} (starts : List ℕ) (p : ℕ) (i : Statement R T) (old new : Graph)
    : Type 0 where
  pub others : new ≡ record old { edges = new.edges }
  pub next : (r q : ℕ) → IsNext new r q ↔ (IsNext old r q ⊎ ((r ≡ p) × LeavesTo starts p i q))
  pub counted : length new.edges ≤ length old.edges + edges_from i

-- The graph got what the point p says, where this is: the edges that leave it, and that it is a
-- return point if it is one.
pub record AddsPoint {R T : Type 0} (starts : List ℕ) (p : ℕ) (i : Statement R T)
    (old new : Graph) : Type 0 where
  pub points : new.points ≡ old.points
  pub universals : new.universals ≡ old.universals
  pub next : (r q : ℕ) → IsNext new r q ↔ (IsNext old r q ⊎ ((r ≡ p) × LeavesTo starts p i q))
  pub returns : (r : ℕ) → IsReturn new r ↔ (IsReturn old r ⊎ ((r ≡ p) × (i ≡ return)))
  pub counted : length new.edges ≤ length old.edges + edges_from i

-- each target of these is one of this many blocks
abbrev pub AreBlocks : {R T : Type 0} → ℕ → List (Statement R T) → Type 0
AreBlocks {R} {T} count stand = (p b : ℕ) (i : Statement R T) → slice_get stand p ≡ Some i
    → Contains (targets i) b → b < count

-- each edge leads to one of the points where these are
abbrev pub AreEdgeEnds : {R T : Type 0} → List ℕ → List (Statement R T) → Type 0
AreEdgeEnds {R} {T} starts stand = (p q : ℕ) (i : Statement R T) → slice_get stand p ≡ Some i
    → LeavesTo starts p i q → q < length stand

-- The graph has what the first n points say, where these are, and this many universal regions.
pub record HasPoints {R T : Type 0} (starts : List ℕ) (count : ℕ) (stand : List (Statement R T))
    (n : ℕ) (graph : Graph) : Type 0 where
  pub points : graph.points ≡ length stand
  pub universals : graph.universals ≡ count
  pub next : (p q : ℕ) → IsNext graph p q ↔ ((p < n) × (i : Statement R T)
      × (slice_get stand p ≡ Some i) × LeavesTo starts p i q)
  pub returns : (p : ℕ) → IsReturn graph p ↔ ((p < n) × (slice_get stand p ≡ Some return))
  pub counted : length graph.edges ≤ edge_count (take n stand)
