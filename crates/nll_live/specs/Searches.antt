-- What searches backwards go by. Source: project's choice. Only private contracts cite this file.
use Rattle.std.specs.Prelude.{ℕ, length, map, slice_index}
use Rattle.nll_body.specs.Bodies.{IsFollowedBy, IsGraphOf}
use Rattle.nll_live.specs.Chains.{HaveStarts}
use Rattle.nll_live.specs.Gathering.{AreListed}
use Rattle.nll_live.specs.Live.{DropsAt, UsesAt}
use Rattle.nll_live.specs.Lows.{AreDefinitions, AreWays, IsLow}
use Rattle.nll_live.specs.declared.search.Search.{Search}
use Rattle.nll_live.specs.declared.ways.Ways.{Ways}

-- The predecessors are those of the body, the starts those of its chains, and the definitions those
-- of the variable.
pub record IsSearch (s : Search) : Type 0 where
  pub shown : IsGraphOf s.body.now s.previous.now
  pub starts : HaveStarts (IsFollowedBy s.body.now) (length s.body.now.points) s.starts.now
  pub definitions : AreDefinitions s.body.now s.variable s.definitions.now

-- The predecessors are those of the body, and so are the starts of chains and the uses, drops and
-- definitions of each variable.
pub record AreOfBody (w : Ways) : Type 0 where
  pub shown : IsGraphOf w.body.now w.previous
  pub uses : AreListed (length w.body.now.variables) (UsesAt w.body.now)
      (length w.body.now.points) (map (λ list. list.items) w.uses.items)
  pub drops : AreListed (length w.body.now.variables) (DropsAt w.body.now)
      (length w.body.now.points) (map (λ list. list.items) w.drops.items)
  pub ways : AreWays w.body.now w.starts.items (map (λ list. list.items) w.definitions.items)

-- how far the search goes by itself from p: to `low`
abbrev pub IsLowIn : Search → ℕ → ℕ → Type 0
IsLowIn s p low = IsLow (slice_index s.starts.now p) s.definitions.now p low
