use Rattle.std.proofs.Common.{◌≡◌, ◌∙◌, ℕ, List, ap, arith, get_or, length, sym}
use Rattle.std.proofs.lemmas.Grind.{same_number_lists}
use Rattle.nll_text.proofs.WordLemmas.{shorter_word, too_short, another_word, longer_word, this_word}
use Rattle.nll_text.proofs.front.after_word.Goals as goal

pub returns-in_err-front-clause-begins : goal.returns-in_err-front-clause-begins
returns-in_err-front-clause-begins c =
    rw c.from_residual.ensures
    (λ ts e. too_short _ c.behind_gap-core.ensures.solid _ c.in_err-front.ensures.cases ts
    (c.behind_gap-core.ensures.tokens ∙ e))

pub returns-then-front-place-clause-begins : goal.returns-then-front-place-clause-begins
returns-then-front-place-clause-begins c ts e =
    another_word _ c.behind_gap-core.ensures.solid _ _ _ c.in_ok-front.ensures.cases
    (λ same. c.if-front-place.true (ap (λ (w : List ℕ). get_or w c.loop-place.place 0) same)) ts
    (c.behind_gap-core.ensures.tokens ∙ e)

pub returns-then-goes_on-clause-begins : goal.returns-then-goes_on-clause-begins
returns-then-goes_on-clause-begins c ts e =
    longer_word _ c.behind_gap-core.ensures.solid _ _ _ c.in_ok-front.ensures.cases c.if-goes_on.ensures ts
    (c.behind_gap-core.ensures.tokens ∙ e)

same : (c : goal.Else-goes_on) → c.in_ok-front.front.now ≡ c.args.word.now
same c =
    let as_long : length c.in_ok-front.front.now ≡ length c.args.word.now = c.in_ok-front.ensures.cases.3 in
    same_number_lists c.in_ok-front.front.now c.args.word.now as_long
    (λ k low. c.loop-place.invariant k (omega (arith, low, as_long)))

pub returns-clause-begins : goal.returns-clause-begins
returns-clause-begins c =
    sym c.behind_gap-core.ensures.tokens
    ∙ this_word _ c.behind_gap-core.ensures.solid _ _ _ c.in_ok-front.ensures.cases c.requires (same c)
    c.if-goes_on.ensures

pub returns-clause-shorter : goal.returns-clause-shorter
returns-clause-shorter c =
    shorter_word _ _ c.behind_gap-core.ensures.cut _ _ _ c.requires.0 c.in_ok-front.ensures.cases (same c)
