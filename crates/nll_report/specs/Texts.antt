-- Which texts may be held at which paths.
-- Source: project's choice.
use Rattle.std.specs.Prelude.{ℕ, List}

-- which bytes may be held at a path
abbrev pub HoldsAt : Type 1
HoldsAt = List ℕ → List ℕ → Type 0

-- at which paths a text may be missing
abbrev pub Lacks : Type 1
Lacks = List ℕ → Type 0

-- any bytes may be held at any path
abbrev pub holds_anything : HoldsAt
holds_anything path text = Unit {0}

-- at any path a text may be missing
abbrev pub lacks_anything : Lacks
lacks_anything path = Unit {0}
