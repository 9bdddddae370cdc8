-- Tokens, how each is written, and when a line is made of a list of tokens.
-- Source: project's choice.
use Rattle.std.specs.Prelude.{◌≡◌, ℕ, ◌<◌, ◌==◌, nat_le, Bool, true, false, ◌&&◌, ◌||◌, List}
use Rattle.std.specs.Prelude.{[], ◌∷◌, ◌++◌, length}
use Rattle.std.specs.List.{AllByRecursion}
use Rattle.nll_text.specs.Lines.{is_blank}

-- A token is a word, a region name (here without its `'`), the arrow `->` or a single sign.
pub data Token : Type 0 where
  word : List ℕ → Token
  region : List ℕ → Token
  arrow : Token
  sign : ℕ → Token

-- A word byte is a digit, a capital letter, a small letter or `_`.
abbrev pub is_word_byte : ℕ → Bool
is_word_byte b =
    (nat_le 48 b && nat_le b 57) || (nat_le 65 b && nat_le b 90)
    || (nat_le 97 b && nat_le b 122) || (b == 95)

-- A sign is one of `= & ( ) < > , : . * + ? -`.
abbrev pub is_sign : ℕ → Bool
is_sign b =
    (b == 61) || (b == 38) || (b == 40) || (b == 41) || (b == 60) || (b == 62)
    || (b == 44) || (b == 58) || (b == 46) || (b == 42) || (b == 43) || (b == 63)
    || (b == 45)

-- One or more word bytes.
abbrev pub IsWord : List ℕ → Type 0
IsWord bytes = (0 < length bytes) × AllByRecursion (λ b. is_word_byte b ≡ true) bytes

-- The name of a word or a region is a word, and a sign is one of the signs.
abbrev pub IsToken : Token → Type 0
IsToken (word name) = IsWord name
IsToken (region name) = IsWord name
IsToken arrow = Unit {0}
IsToken (sign b) = is_sign b ≡ true

-- Each of these is a token.
abbrev pub AreTokens : List Token → Type 0
AreTokens ts = AllByRecursion IsToken ts

-- How a token is written: `name`, `'name`, `->` or the sign.
abbrev pub spelling : Token → List ℕ
spelling (word name) = name
spelling (region name) = 39 ∷ name
spelling arrow = 45 ∷ 62 ∷ []
spelling (sign b) = b ∷ []

-- There is a first element, and it passes the test.
abbrev pub first_passes : (ℕ → Bool) → List ℕ → Bool
first_passes p [] = false
first_passes p (x ∷ xs) = p x

-- The two bytes are an arrow.
abbrev pub is_arrow : ℕ → ℕ → Bool
is_arrow b c = (b == 45) && (c == 62)

-- The token isn't the beginning of a longer one, where these bytes follow it.
abbrev pub IsWhole : Token → List ℕ → Type 0
IsWhole (word name) rest = first_passes is_word_byte rest ≡ false
IsWhole (region name) rest = first_passes is_word_byte rest ≡ false
IsWhole arrow rest = Unit {0}
IsWhole (sign b) rest = first_passes (is_arrow b) rest ≡ false

-- Blanks alone, or nothing at all.
abbrev pub IsGap : List ℕ → Type 0
IsGap bytes = AllByRecursion (λ b. is_blank b ≡ true) bytes

-- The line is these tokens, each a whole one, with gaps before, between and after them.
abbrev pub IsMadeOf : List ℕ → List Token → Type 0
IsMadeOf line [] = IsGap line
IsMadeOf line (t ∷ ts) =
    (gap rest : List ℕ) × (line ≡ gap ++ (spelling t ++ rest)) × IsGap gap
    × IsToken t × IsWhole t rest × IsMadeOf rest ts

-- No list of tokens makes the line.
abbrev pub IsNotMade : List ℕ → Type 0
IsNotMade line = (ts : List Token) → IsMadeOf line ts → ⊥
