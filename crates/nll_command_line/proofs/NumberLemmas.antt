-- Numbers of owners, as they are printed.
use Rattle.std.proofs.Common.{◌≡◌, ℕ, ◌^◌, ◌<◌, ◌≤◌, List, length, get_or, Result, Ok, sym, ap, ◌∙◌, arith, inl, inr}
use Rattle.std.specs.Fmt.{decimal}
use Rattle.std.specs.Result.{OkIff}
use Rattle.std.specs.Str.Parse.{AllDigits, digits_value, ParsesUnsigned}
use Rattle.std.proofs.lemmas.Bool.{cases_eq}
use Rattle.std.proofs.lemmas.Fmt.{digits_decimal, decimal-digits_value, first_decimal, decimal_nonempty, decimal_digit}
use Rattle.std.proofs.lemmas.Str.Parse.{IsNumeralModel, numerals_by_value, tells_digits, parse_plain, digit_at}

own : IsNumeralModel (AllDigits 10) (digits_value 10)
own = numerals_by_value (AllDigits 10) tells_digits

-- such a number begins with a digit that isn't 0
pub begins : (n : ℕ) → 0 < n → n ≤ 64
    → (0 < length (decimal n)) × (49 ≤ get_or (decimal n) 0 0) × (get_or (decimal n) 0 0 ≤ 57)
begins n some few = grind (arith, decimal_nonempty, first_decimal, digit_at, digits_decimal, own)

-- what `parse` reads of bytes that begin so is a number that isn't 0, and they are that number
pub is_printed : {E : Type 0} (bs : List ℕ) (r : Result ℕ E) (n : ℕ) → ParsesUnsigned 16 10 bs r → r ≡ Ok n
    → 49 ≤ get_or bs 0 0 → (0 < n) × (bs ≡ decimal n)
is_printed {E = E} bs r n h e low =
    let told : OkIff r (AllDigits 10 bs × (0 < length bs) × (digits_value 10 bs < 2 ^ 16)) (digits_value 10 bs) =
    parse_plain own 16 bs r h (λ plus. omega (arith, low, plus)) in
    let read = rw e at told in
    let digits = read.0 in
    let text : decimal (digits_value 10 bs) ≡ bs =
    decimal-digits_value own bs digits.0 digits.1 (λ zero. absurd (omega (arith, low, zero)))
    (omega (arith, digits.2)) in
    let printed : bs ≡ decimal n = sym (ap decimal read.1 ∙ text) in
    elim (cases_eq n 0) [
      | inl zero ↦ absurd (omega (
        arith,
        low,
        ap (λ (l : List ℕ). get_or l 0 0)
            (printed ∙ ap decimal zero ∙ decimal_digit 0 (omega arith)),
      ))
      | inr other ↦ (omega (arith, other), printed)
    ]
