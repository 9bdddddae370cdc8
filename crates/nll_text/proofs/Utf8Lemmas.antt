-- Words and lines of tokens are ASCII, and so they are UTF-8.
use Rattle.std.proofs.Common.{◌≡◌, ℕ, suc, zero, ◌<◌, Bool, true, List, [], ◌∷◌, ◌++◌, arith}
use Rattle.std.specs.Str.{IsUtf8, IsAscii}
use Rattle.std.proofs.lemmas.Bool.Decides.{nat_tests}
use Rattle.std.proofs.lemmas.Str.{IsAscii-append, IsUtf8-from_ascii}
use Rattle.std.proofs.lemmas.Str.Ascii.{IsAscii-nil}
use Rattle.nll_text.specs.Lines.{is_blank}
use Rattle.nll_text.specs.Tokens.{Token, word, region, arrow, sign, spelling, is_word_byte, is_sign, IsWord, IsToken, IsMadeOf}
use Rattle.nll_text.proofs.ByteLemmas.{Passes}

IsAscii-cons : (b : ℕ) (bs : List ℕ) → b < 128 → IsAscii bs → IsAscii (b ∷ bs)
IsAscii-cons b bs low h zero = low
IsAscii-cons b bs low h (suc i) = h i

IsAscii-passes : (p : ℕ → Bool) → ((b : ℕ) → p b ≡ true → b < 128)
    → (bs : List ℕ) → Passes p bs → IsAscii bs
IsAscii-passes p low [] h = IsAscii-nil
IsAscii-passes p low (b ∷ bs) h =
    IsAscii-cons b bs (low b h.0) (IsAscii-passes p low bs h.1)

word_byte_low : (b : ℕ) → is_word_byte b ≡ true → b < 128
word_byte_low b h = grind (arith, nat_tests)

blank_low : (b : ℕ) → is_blank b ≡ true → b < 128
blank_low b h = grind (arith, nat_tests)

sign_low : (b : ℕ) → is_sign b ≡ true → b < 128
sign_low b h = grind (arith, nat_tests)

-- a word is UTF-8
pub IsUtf8-word : (name : List ℕ) → IsWord name → IsUtf8 name
IsUtf8-word name h =
    IsUtf8-from_ascii name (IsAscii-passes is_word_byte word_byte_low name h.1)

IsAscii-spelling : (t : Token) → IsToken t → IsAscii (spelling t)
IsAscii-spelling (word name) h = IsAscii-passes is_word_byte word_byte_low name h.1
IsAscii-spelling (region name) h =
    IsAscii-cons 39 name (omega arith) (IsAscii-passes is_word_byte word_byte_low name h.1)
IsAscii-spelling arrow h =
    IsAscii-cons 45 (62 ∷ []) (omega arith) (IsAscii-cons 62 [] (omega arith) IsAscii-nil)
IsAscii-spelling (sign b) h = IsAscii-cons b [] (sign_low b h) IsAscii-nil

made_is_ascii : (line : List ℕ) (ts : List Token) → IsMadeOf line ts → IsAscii line
made_is_ascii line [] h = IsAscii-passes is_blank blank_low line h
made_is_ascii line (t ∷ ts) h =
    rw h.2
    (IsAscii-append h.0 (spelling t ++ h.1) (IsAscii-passes is_blank blank_low h.0 h.3)
    (IsAscii-append (spelling t) h.1 (IsAscii-spelling t h.4) (made_is_ascii h.1 ts h.6)))

-- a line that is made of tokens is UTF-8
pub made_is_utf8 : (line : List ℕ) (ts : List Token) → IsMadeOf line ts → IsUtf8 line
made_is_utf8 line ts h = IsUtf8-from_ascii line (made_is_ascii line ts h)
