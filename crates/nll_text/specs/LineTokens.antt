-- The tokens of any bytes: where a byte begins no token, it stands for a sign that is none. Where
-- tokens make a line, these are the line's tokens.
-- Source: project's choice.
use Rattle.std.specs.Prelude.{ℕ, ◌==◌, ◌&&◌, List, [], ◌∷◌, if◌then◌else◌}
use Rattle.nll_text.specs.Lines.{is_blank}
use Rattle.nll_text.specs.Tokens.{Token, word, region, arrow, sign, is_word_byte, is_arrow}
use Rattle.nll_text.specs.Tokens.{first_passes}

-- the first of the tokens is a word, and the byte is prepended to it
abbrev pub lengthened : ℕ → List Token → List Token
lengthened b (word w ∷ ts) = word (b ∷ w) ∷ ts
lengthened b ts = ts

-- the first of the tokens is a word, and it becomes the name of a region
abbrev pub marked : List Token → List Token
marked (word w ∷ ts) = region w ∷ ts
marked ts = ts

-- the first of the tokens is a sign, and it becomes an arrow
abbrev pub pointed : List Token → List Token
pointed (sign c ∷ ts) = arrow ∷ ts
pointed ts = ts

-- the tokens of a byte that is no blank and of the bytes after it, whose tokens these are
abbrev pub with_byte : ℕ → List ℕ → List Token → List Token
with_byte b bs ts =
    if is_word_byte b
    then (if first_passes is_word_byte bs then lengthened b ts else word (b ∷ []) ∷ ts)
    else (if (b == 39) && first_passes is_word_byte bs then marked ts
    else (if first_passes (is_arrow b) bs then pointed ts else sign b ∷ ts))

-- the tokens of bytes
abbrev pub tokens_in : List ℕ → List Token
tokens_in [] = []
tokens_in (b ∷ bs) = if is_blank b then tokens_in bs else with_byte b bs (tokens_in bs)
