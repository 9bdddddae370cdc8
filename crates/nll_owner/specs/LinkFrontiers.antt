-- How the frontier of a link is kept. Source: project's choice. Only private contracts cite this
-- file.
use Rattle.std.specs.Prelude.{[], ◌∷◌}
use Rattle.nll_core.specs.Frontiers.{Frontier, first_frontier}
use Rattle.nll_owner.specs.declared.link_frontier.State.{State}
use Rattle.nll_owner.specs.declared.link_frontier.State.TheVariants.{Fresh, Kept}

-- the frontier that is kept in this form: if it is only a place, nothing was reached from there
abbrev pub frontier_of : State → Frontier
frontier_of (Fresh place) = first_frontier (place ∷ [])
frontier_of (Kept b) = b.value
