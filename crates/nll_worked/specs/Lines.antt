-- Lines that are written with `|` at their ends.
-- Source: project's choice.
use Rattle.std.specs.Prelude.{ℕ, ◌==◌, if◌then◌else◌}

-- a line feed in place of `|`, and each other byte as it is
abbrev pub with_line_feed : ℕ → ℕ
with_line_feed byte = if byte == 124 then 10 else byte
