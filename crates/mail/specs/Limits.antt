-- How much a mailbox holds and carries.
-- Source: project's choice. Contracts cite these numbers and no constant of the code, so that a
-- wrong constant is refused by a proof.
use Rattle.std.specs.Prelude.{ℕ}

-- the most places of a mailbox of bounded room
abbrev pub most_places : ℕ
most_places = 256

-- the most messages that are posted through one mailbox: 2^37
abbrev pub most_posts : ℕ
most_posts = 137438953472
