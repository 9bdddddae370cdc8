-- The edges that leave the points of a body.
-- Source: project's choice.
pub use Rattle.nll_body.specs.Exits.{edges_from, edge_count}
use Rattle.std.specs.Prelude.{◌≡◌, ◌⊎◌, ℕ, ◌+◌, false, List, Contains, Some, slice_get}
use Rattle.nll_body.specs.Statements.{Statement, is_terminator}
use Rattle.nll_body.specs.Effects.{targets}

-- a list of blocks leads to q: it is the first point of one of them
abbrev pub LeadsToBlock : List ℕ → List ℕ → ℕ → Type 0
LeadsToBlock starts blocks q = (b : ℕ) × Contains blocks b × (slice_get starts b ≡ Some q)

-- q is a successor of the point p, where this is: the next point after a statement, or the first
-- point of a block to which a terminator goes on
abbrev pub LeavesTo : {R T : Type 0} → List ℕ → ℕ → Statement R T → ℕ → Type 0
LeavesTo starts p i q =
    ((is_terminator i ≡ false) × (q ≡ p + 1)) ⊎ LeadsToBlock starts (targets i) q
