-- Numbers in a text: `0`, or one to nine digits without a leading zero. Source: project's choice.
use Rattle.std.specs.Prelude.{◌≡◌, ℕ, ◌<◌, ◌≤◌, ◌^◌, List, false, length, take, slice_index_or}
use Rattle.std.specs.Char.{is_ascii_digit}
use Rattle.std.specs.Fmt.{decimal}
use Rattle.std.specs.Str.Parse.{AllDigits, digits_value}

-- The word is the number as it is printed, and the number is below a thousand million.
pub record IsNumber (word : List ℕ) (n : ℕ) : Type 0 where
  pub small : n < 10 ^ 9
  pub printed : word ≡ decimal n

-- This many digits are at the front of the bytes and no more, and this is their value.
pub record IsDigitFront (bytes : List ℕ) (n count : ℕ) : Type 0 where
  pub within : count ≤ length bytes
  pub digits : AllDigits 10 (take count bytes)
  pub value : n ≡ digits_value 10 (take count bytes)
  pub stops : count < length bytes → is_ascii_digit (slice_index_or bytes count 0) ≡ false
