-- The digits in front of bytes, and the number that the word bytes in front are.
use Rattle.std.proofs.Common.{◌≡◌, ⊎_elim, ℕ, zero, suc, ◌<◌, ◌≤◌, true, false, List, [], ◌∷◌, ◌++◌, length, take, drop, min, get_or, refl, sym, ap, ◌∙◌, subst, arith}
use Rattle.std.specs.Char.{is_ascii_digit}
use Rattle.std.specs.Str.Parse.{AllDigits, digits_value}
use Rattle.std.proofs.Math.Seq.{get_or-append_seam, drop-append_seam}
use Rattle.std.proofs.lemmas.Bool.{false≢true, cases_lt}
use Rattle.std.proofs.lemmas.Bool.Decides.{nat_tests}
use Rattle.std.proofs.lemmas.List.{length-append, length-take, get_or-take, get_or_append_left, take-append-drop, take_min}
use Rattle.std.proofs.lemmas.Str.Parse.{digit_at}
use Rattle.nll_text.specs.Number.{IsNumber, IsDigitFront}
use Rattle.nll_text.specs.Tokens.{is_word_byte, first_passes}
use Rattle.nll_text.specs.Lexing.{SplitsWhile}
use Rattle.nll_text.proofs.ByteLemmas.{Passes}
use Rattle.nll_text.proofs.NumberLemmas.{no_digits, number_form, number_from_form}

digit_passes : (b : ℕ) → 48 ≤ b → b ≤ 57 → is_word_byte b ≡ true
digit_passes b low high = grind (arith, nat_tests)

-- digits are bytes of words
digits_pass : (ds : List ℕ) → AllDigits 10 ds → Passes is_word_byte ds
digits_pass [] h = tt
digits_pass (d ∷ ds) h =
    let range = digit_at (d ∷ ds) 0 h (omega arith) in
    (digit_passes d range.0 range.1, digits_pass ds h.1)

-- the front of a front
take_less : (i j : ℕ) (xs : List ℕ) → i ≤ j → take i (take j xs) ≡ take i xs
take_less zero j xs le = refl
take_less (suc i) zero xs le = absurd (omega arith)
take_less (suc i) (suc j) [] le = refl
take_less (suc i) (suc j) (x ∷ xs) le = ap (λ (ys : List ℕ). x ∷ ys) (take_less i j xs (omega arith))

-- nine bytes, or all where there are fewer
pub front_nine : (bytes : List ℕ) (count : ℕ) → count ≡ min (length bytes) 9 → take count bytes ≡ take 9 bytes
front_nine bytes count is = grind (arith, min, take_min)

-- The word bytes in front are no number.
abbrev pub IsNoNumber : List ℕ → Type 0
IsNoNumber bytes = (word rest : List ℕ) (n : ℕ) → SplitsWhile is_word_byte bytes word rest → IsNumber word n → ⊥

-- The word bytes in front are the number, and behind them come others.
abbrev pub IsNumberIn : List ℕ → ℕ → List ℕ → Type 0
IsNumberIn bytes n rest = (word : List ℕ) × SplitsWhile is_word_byte bytes word rest × IsNumber word n

module _ (bytes : List ℕ) (n count : ℕ) (f : IsDigitFront (take 9 bytes) n count) where
  at_most_nine : count ≤ 9
  at_most_nine = omega (arith, f.within, length-take 9 bytes)

  pub count_within : count ≤ length bytes
  count_within = omega (arith, f.within, length-take 9 bytes)

  -- no digit stands behind a number that is spelled there
  past : (d more : List ℕ) → bytes ≡ d ++ more → first_passes is_word_byte more ≡ false → length d < count → ⊥
  past d [] e stop lt = omega (arith, count_within, ap length e, length-append d [])
  past d (b ∷ bs) e stop lt =
      let here : get_or (take count (take 9 bytes)) (length d) 0 ≡ b =
      get_or-take count (take 9 bytes) (length d) 0 lt
      ∙ get_or-take 9 bytes (length d) 0 (omega (arith, lt, at_most_nine))
      ∙ ap (λ (l : List ℕ). get_or l (length d) 0) e
      ∙ get_or-append_seam d b bs 0 in
      let range =
      digit_at (take count (take 9 bytes)) (length d) f.digits
      (omega (arith, lt, length-take count (take 9 bytes), f.within)) in
      let low : 48 ≤ b = omega (arith, here, range.0) in
      let high : b ≤ 57 = omega (arith, here, range.1) in
      false≢true (sym stop ∙ digit_passes b low high)

  -- all digits of a number that is spelled there are counted
  short_of : (d more : List ℕ) → bytes ≡ d ++ more → AllDigits 10 d → length d ≤ 9 → count < length d → ⊥
  short_of d more e digits short lt =
      let inside : count < length (take 9 bytes) =
      omega (arith, lt, short, length-take 9 bytes, ap length e, length-append d more) in
      let here : get_or (take 9 bytes) count 0 ≡ get_or d count 0 =
      get_or-take 9 bytes count 0 (omega (arith, lt, short))
      ∙ ap (λ (l : List ℕ). get_or l count 0) e
      ∙ get_or_append_left d more 0 count lt in
      no_digits d count lt (sym (ap is_ascii_digit here) ∙ f.stops inside) digits

  -- a number that the word bytes are is as long as the digits in front
  counted : (word rest : List ℕ) (m : ℕ) → SplitsWhile is_word_byte bytes word rest → IsNumber word m
      → count ≡ length word
  counted word rest m s is =
      let form = number_form word m is in
      ⊎_elim
      (λ lt. absurd (short_of word rest s.joined form.digits form.short lt))
      (λ ge. ⊎_elim
      (λ lt. absurd (past word rest s.joined s.stops lt))
      (λ le. omega (arith, ge, le))
      (cases_lt (length word) count))
      (cases_lt count (length word))

  module _ (ds rest : List ℕ) (front : ds ≡ take count bytes) (back : rest ≡ drop count bytes) where
    digits_length : length ds ≡ count
    digits_length = omega (arith, ap length front, length-take count bytes, count_within)

    pub no_digit_there : length ds ≡ 0 → IsNoNumber bytes
    no_digit_there none word more m s is =
        omega (arith, digits_length, none, counted word more m s is, (number_form word m is).some)

    pub zero_in_front : get_or ds 0 0 ≡ 48 → 1 < count → IsNoNumber bytes
    zero_in_front nought long word more m s is =
        grind (arith, number_form, get_or, get_or-take, get_or_append_left, counted)

    pub word_goes_on : true ≡ first_passes is_word_byte rest → IsNoNumber bytes
    word_goes_on on word more m s is =
        let same : rest ≡ more =
        back ∙ ap (λ (i : ℕ). drop i bytes) (counted word more m s is) ∙ ap (drop (length word)) s.joined
        ∙ drop-append_seam word more in
        false≢true (sym (on ∙ ap (first_passes is_word_byte) same ∙ s.stops))

    all_digits : AllDigits 10 ds
    all_digits = subst (AllDigits 10) (take_less count 9 bytes at_most_nine ∙ sym front) f.digits

    pub number_there : 0 < length ds → (get_or ds 0 0 ≡ 48 → length ds ≡ 1) → false ≡ first_passes is_word_byte rest
        → IsNumberIn bytes n rest
    number_there some lone off =
        let short : length ds ≤ 9 = omega (arith, at_most_nine, digits_length) in
        let is = number_from_form ds (record { some = some; short = short; lone = lone; digits = all_digits }) in
        let value : digits_value 10 ds ≡ n =
        ap (digits_value 10) (front ∙ sym (take_less count 9 bytes at_most_nine)) ∙ sym f.value in (
          ds,
          record {
            joined = sym (take-append-drop count bytes) ∙ rw (front, back) refl;
            each = digits_pass ds all_digits;
            stops = sym off;
          },
          subst (IsNumber ds) value is,
        )
