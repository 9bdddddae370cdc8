-- How a text is cut into lines, which bytes are blanks, and which lines say nothing.
-- Source: project's choice.
use Rattle.std.specs.Prelude.{ℕ, List, [], ◌∷◌, ◌==◌, ◌||◌, Bool, true, if◌then◌else◌, Option, Some}
use Rattle.std.specs.Prelude.{None, drop}
use Rattle.std.specs.List.{slice_split, prefix_len}
use denote.Ref.{Bor}

-- The text without the line feed at its end, where it has one there.
abbrev pub without_last_feed : List ℕ → List ℕ
without_last_feed [] = []
without_last_feed (b ∷ []) = if b == 10 then [] else b ∷ []
without_last_feed (b ∷ c ∷ bs) = b ∷ without_last_feed (c ∷ bs)

-- The lines of a text are its pieces between line feeds; one at the very end separates nothing.
abbrev pub lines_of : List ℕ → List (List ℕ)
lines_of text = slice_split (λ b. b == 10) (without_last_feed text)

-- The lines left to read are those of the rest of the text, and none if there is no rest.
abbrev pub lines_left : Option (Bor (List ℕ)) → List (List ℕ)
lines_left None = []
lines_left (Some text) = lines_of text.now

-- A blank is a space, a tab or a carriage return.
abbrev pub is_blank : ℕ → Bool
is_blank b = (b == 32) || (b == 9) || (b == 13)

-- The bytes from the first one on that isn't a blank.
abbrev pub without_front_blanks : List ℕ → List ℕ
without_front_blanks line = drop (prefix_len is_blank line) line

-- Nothing, or a remark, which begins with `#`.
abbrev pub is_empty_or_remark : List ℕ → Bool
is_empty_or_remark [] = true
is_empty_or_remark (b ∷ bs) = b == 35

-- A line is skipped if it has only blanks, or if its first byte that isn't a blank is `#`.
abbrev pub is_skipped : List ℕ → Bool
is_skipped line = is_empty_or_remark (without_front_blanks line)
