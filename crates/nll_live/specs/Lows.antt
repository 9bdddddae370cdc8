-- How far a backward search goes by itself, and what decides it. Source: project's choice. Only
-- private contracts cite this file.
use Rattle.std.specs.Prelude.{◌≡◌, ◌↔◌, ℕ, ◌<◌, ◌≤◌, List, length, AllPairs, Contains}
use Rattle.nll_problem.specs.Rows.{row_at}
use Rattle.nll_body.specs.Bodies.{BodyText, IsFollowedBy}
use Rattle.nll_live.specs.Live.{DefinesAt}
use Rattle.nll_live.specs.Chains.{HaveStarts}

-- The list has exactly the points that define x, ascending.
pub record AreDefinitions (body : BodyText) (x : ℕ) (definitions : List ℕ) : Type 0 where
  pub each : (p : ℕ) → Contains definitions p ↔ DefinesAt body x p
  pub ascending : AllPairs ◌<◌ definitions

-- There is a list of definitions for each variable.
pub record AreDefined (body : BodyText) (lists : List (List ℕ)) : Type 0 where
  pub counted : length lists ≡ length body.variables
  pub each : (x : ℕ) → x < length lists → AreDefinitions body x (row_at lists x)

-- The starts are of the points of the body, and the lists of what defines its variables.
pub record AreWays (body : BodyText) (starts : List ℕ) (lists : List (List ℕ)) : Type 0 where
  pub chains : HaveStarts (IsFollowedBy body) (length body.points) starts
  pub defined : AreDefined body lists

-- The number isn't before the start, nor after p, and no point from it up to p is a definition.
pub record IsLow (start : ℕ) (definitions : List ℕ) (p low : ℕ) : Type 0 where
  pub above : start ≤ low
  pub before : low ≤ p
  pub none : (q : ℕ) → Contains definitions q → q < p → q < low
