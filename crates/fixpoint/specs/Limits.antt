-- How much there may be.
-- Source: project's choice.
use Rattle.std.specs.Prelude.{ℕ}

-- the most owners
abbrev pub most_parts : ℕ
most_parts = 64

-- the number that all growths of all owners together stay below: 2^37
abbrev pub most_growths : ℕ
most_growths = 137438953472
