use Rattle.std.proofs.Common.{arith, sym, ◌∙◌, ◌≡◌, ◌<◌, get_or, length}
use Rattle.nll_text.proofs.NumberLemmas.{lone_by_cases}
use Rattle.nll_text.proofs.DigitLemmas.{front_nine, count_within, no_digit_there, zero_in_front, word_goes_on, number_there}
use Rattle.nll_text.proofs.number.number_in_front.Goals as goal

pub split_at-requires : goal.split_at-requires
split_at-requires c = count_within _ _ _ (rw (front_nine _ _ c.min.ensures) at c.digits_at-number.ensures)

pub returns-in_err-first : goal.returns-in_err-first
returns-in_err-first c =
    rw c.from_residual.ensures
    (no_digit_there _ _ _ (rw (front_nine _ _ c.min.ensures) at c.digits_at-number.ensures)
    _ _ c.split_at.ensures.front c.split_at.ensures.back (omega (arith, c.in_err-first.ensures.item.3)))

pub returns-then-count-gt1 : goal.returns-then-count-gt1
returns-then-count-gt1 c =
    let zero : get_or c.split_at.result.0.now 0 0 ≡ 48 =
    sym (c.in_ok-first.ensures.item.3.1 0) ∙ c.if-first-eq48.true in
    zero_in_front _ _ _ (rw (front_nine _ _ c.min.ensures) at c.digits_at-number.ensures)
    _ _ c.split_at.ensures.front c.split_at.ensures.back zero c.if-count-gt1.true

pub returns-then-goes_on : goal.returns-then-goes_on
returns-then-goes_on c =
    word_goes_on _ _ _ (rw (front_nine _ _ c.min.ensures) at c.digits_at-number.ensures)
    _ _ c.split_at.ensures.front c.split_at.ensures.back c.if-goes_on.ensures

pub returns : goal.returns
returns c =
    let some : 0 < length c.split_at.result.0.now = c.in_ok-first.ensures.item.3.0 in
    let first = c.in_ok-first.ensures.item.3.1 0 in
    number_there _ _ _ (rw (front_nine _ _ c.min.ensures) at c.digits_at-number.ensures)
    _ _ c.split_at.ensures.front c.split_at.ensures.back some
    (lone_by_cases _ _ some first (rw (sym c.split_at.ensures.front_len) at c.else-first-eq48.either))
    c.if-goes_on.ensures
