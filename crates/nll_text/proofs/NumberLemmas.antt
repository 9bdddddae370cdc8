-- Numbers, and the words that spell them.
use Rattle.std.proofs.Common.{◌≡◌, ◌≢◌, ℕ, ◌+◌, ◌-◌, ◌*◌, ◌^◌, ◌<◌, ◌≤◌, List, length, get_or, take, true, false, sym, ◌∙◌, ◌⊎◌, arith, inl, inr}
use Rattle.std.specs.Char.{is_ascii_digit}
use Rattle.std.specs.Fmt.{decimal}
use Rattle.std.specs.Str.Parse.{AllDigits, digits_value}
use Rattle.std.proofs.lemmas.Bool.{cases_eq}
use Rattle.std.proofs.lemmas.Bool.Decides.{nat_tests}
use Rattle.std.proofs.lemmas.Int.Digits.{digits_more, digits_value_more}
use Rattle.std.proofs.lemmas.List.{length-take}
use Rattle.std.proofs.lemmas.Str.{digit_value_digit}
use Rattle.std.proofs.lemmas.Str.Parse.{IsNumeralModel, numerals_by_value, tells_digits, digits_value_short, digit_at}
use Rattle.std.proofs.lemmas.Fmt.{digits_decimal, decimal-digits_value, first_decimal, decimal_nonempty, decimal_digit, length-decimal-le}
use Rattle.nll_text.specs.Number.{IsNumber}

own : IsNumeralModel (AllDigits 10) (digits_value 10)
own = numerals_by_value (AllDigits 10) tells_digits

lone_zero : (n : ℕ) → n < 2 ^ 64 → get_or (decimal n) 0 0 ≡ 48 → length (decimal n) ≡ 1
lone_zero n small e = grind (arith, cases_eq, decimal_digit, first_decimal)

-- what a word that spells a number is
pub record HasNumberForm (word : List ℕ) : Type 0 where
  pub some : 0 < length word
  pub short : length word ≤ 9
  pub lone : get_or word 0 0 ≡ 48 → length word ≡ 1
  pub digits : AllDigits 10 word

pub number_form : (word : List ℕ) (n : ℕ) → IsNumber word n → HasNumberForm word
number_form word n h = grind (arith, decimal_nonempty, length-decimal-le, lone_zero, digits_decimal, own)

pub number_from_form : (word : List ℕ) → HasNumberForm word → IsNumber word (digits_value 10 word)
number_from_form word f =
    let small : digits_value 10 word < 10 ^ 9 = digits_value_short own word 9 f.digits f.short in
    record {
      small = small;
      printed = sym (decimal-digits_value own word f.digits f.some f.lone (omega (arith, small)));
    }

-- ---- the digits read so far

digit_below : (b : ℕ) → is_ascii_digit b ≡ true → (48 ≤ b) × (b ≤ 57)
digit_below b e = grind (arith, nat_tests)

pub no_digits : (word : List ℕ) (i : ℕ) → i < length word
    → is_ascii_digit (get_or word i 0) ≡ false → AllDigits 10 word → ⊥
no_digits word i lt e digits =
    let range = digit_at word i digits lt in
    no_digit (get_or word i 0) e range.0 range.1
  where
    no_digit : (b : ℕ) → is_ascii_digit b ≡ false → 48 ≤ b → b ≤ 57 → ⊥
    no_digit b e low high = grind (arith, nat_tests)

pub value_so_far : (word : List ℕ) (i : ℕ) → i < length word → length word ≤ 9
    → AllDigits 10 (take i word) → digits_value 10 (take i word) < 10 ^ 8
value_so_far word i lt short digits =
    digits_value_short own (take i word) 8 digits (omega (arith, length-take i word))

-- one digit more
pub record IsReadOn (word : List ℕ) (i n : ℕ) : Type 0 where
  pub digits : AllDigits 10 (take i word)
  pub value : n ≡ digits_value 10 (take i word)

pub read_digit : (word : List ℕ) (i n d : ℕ) → i < length word
    → is_ascii_digit (get_or word i 0) ≡ true → d ≡ get_or word i 0 - 48
    → IsReadOn word i n → IsReadOn word (i + 1) (n * 10 + d)
read_digit word i n d lt e is r =
    let range = digit_below (get_or word i 0) e in
    let value = digit_value_digit (get_or word i 0) range in
    record {
      digits = digits_more 10 word i lt r.digits (omega (arith, value));
      value = omega (arith, digits_value_more 10 word i lt, value, r.value);
    }

-- ---- a zero in front

pub lone_by_cases : (word : List ℕ) (b : ℕ) → 0 < length word → b ≡ get_or word 0 0
    → ((b ≡ 48) × (length word ≤ 1)) ⊎ (b ≢ 48) → get_or word 0 0 ≡ 48 → length word ≡ 1
lone_by_cases word b some e (inl h) zero = omega (arith, h.1)
lone_by_cases word b some e (inr h) zero = absurd (h (e ∙ zero))
