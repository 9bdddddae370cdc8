-- Where a variable is live, and where a region must hold for it.
-- Source: RFC 2094, "Liveness" and "Drop". The code searches backwards from uses and drops; this
-- speaks of walks.
use Rattle.std.specs.Prelude.{◌⊎◌, ℕ, List, ⊤}
use Rattle.nll_problem.specs.Walks.{IsWalk}
use Rattle.nll_types.specs.Types.{TypeTree, HasRegion}
use Rattle.nll_types.specs.DropRegions.{IsDropRegion}
use Rattle.nll_body.specs.Statements.{Statement}
use Rattle.nll_body.specs.Effects.{Uses, Defines, DropsVariable}
use Rattle.nll_body.specs.Bodies.{BodyText, HasType, StandsAt, IsFollowedBy}

-- ---- what is at a point

-- the point p uses x
abbrev pub UsesAt : BodyText → ℕ → ℕ → Type 0
UsesAt body x p = (i : Statement ℕ TypeTree) × StandsAt body p i × Uses i x

-- the point p drops x
abbrev pub DropsAt : BodyText → ℕ → ℕ → Type 0
DropsAt body x p = (i : Statement ℕ TypeTree) × StandsAt body p i × DropsVariable i x

-- the point p defines x
abbrev pub DefinesAt : BodyText → ℕ → ℕ → Type 0
DefinesAt body x p = (i : Statement ℕ TypeTree) × StandsAt body p i × Defines i x

-- ---- liveness

-- q may come after p, and p doesn't define x
abbrev pub GoesOnUndefined : BodyText → ℕ → ℕ → ℕ → Type 0
GoesOnUndefined body x p q = (DefinesAt body x p → ⊥) × IsFollowedBy body p q

-- a walk of points leads from p to one of these points, and no point of it before the last defines
-- x
abbrev pub IsLive : BodyText → (ℕ → Type 0) → ℕ → ℕ → Type 0
IsLive body ends x p =
    (last : ℕ) × ends last × (way : List ℕ) × IsWalk (GoesOnUndefined body x) (λ _. ⊤) p way last

-- x is use-live at p: its value may still be used
abbrev pub IsUseLive : BodyText → ℕ → ℕ → Type 0
IsUseLive body x p = IsLive body (UsesAt body x) x p

-- x is drop-live at p: its value may still be dropped
abbrev pub IsDropLive : BodyText → ℕ → ℕ → Type 0
IsDropLive body x p = IsLive body (DropsAt body x) x p

-- ---- regions

-- x is use-live at p, and r occurs in its type
abbrev pub AsksForUse : BodyText → ℕ → ℕ → ℕ → Type 0
AsksForUse body x r p =
    (t : TypeTree) × HasType body x t × IsUseLive body x p × HasRegion t r

-- x is drop-live at p, and r is a drop region of its type
abbrev pub AsksForDrop : BodyText → ℕ → ℕ → ℕ → Type 0
AsksForDrop body x r p =
    (t : TypeTree) × HasType body x t × IsDropLive body x p × IsDropRegion body.structs t r

-- p is a base element of r: r must hold there, since some variable may still be used or dropped
abbrev pub IsBaseOf : BodyText → ℕ → ℕ → Type 0
IsBaseOf body r p = (x : ℕ) × (AsksForUse body x r p ⊎ AsksForDrop body x r p)
