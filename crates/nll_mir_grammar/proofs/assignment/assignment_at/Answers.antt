use Rattle.nll_text.specs.Tokens.{sign}
use Rattle.nll_text.specs.LineTokens.{tokens_in}
use Rattle.nll_mir_grammar.specs.Grammars.{behind_token}
use Rattle.nll_mir_grammar.specs.Kinds.{rights}
use Rattle.nll_mir_grammar.specs.Lines.{form_of}
use Rattle.nll_mir_grammar.specs.Parts as parts
use Rattle.nll_mir_grammar.proofs.GrammarLemmas.{behind_none, behind_other, pair_none, pair_none_behind}
use Rattle.nll_mir_grammar.proofs.PartLemmas.{places_one}
use Rattle.nll_mir_grammar.proofs.KindLemmas.{no_value, rights_join}
use Rattle.nll_mir_grammar.proofs.LineLemmas.{assignment_line, read_assigned, read_behind_place, read_side_behind, value_side}
use Rattle.nll_mir_grammar.proofs.assignment.assignment_at.Goals as goal

pub returns-in_default : goal.returns-in_default
returns-in_default c =
    let none = rw c.in_default.is at c.in_ok-place.ensures in
    pair_none parts.places (behind_token (sign 61) rights) rights_join _ none

pub returns-in_default-after_sign : goal.returns-in_default-after_sign
returns-in_default-after_sign c =
    let found = rw c.in-Some.is at c.in_ok-place.ensures in
    pair_none_behind parts.places (behind_token (sign 61) rights) places_one rights_join _ _ _ found
    (behind_other rights (sign 61) _ c.in_default-after_sign.ensures)

pub returns-in-Some-after_sign-2 : goal.returns-in-Some-after_sign-2
returns-in-Some-after_sign-2 c =
    let found = rw c.in-Some.is at c.in_ok-place.ensures in
    read_behind_place _ _ _ (λ p. form_of p.0) (λ p. tokens_in p.1.now) _ found
    (read_assigned _ _ _ (λ p. form_of p.0) (λ p. tokens_in p.1.now) _ c.in-Some-after_sign.ensures
    (read_side_behind _ _ (sign 38) _ (λ p. form_of p.0) (λ p. tokens_in p.1.now) _ c.in-Some-after_sign-2.ensures
    c.borrowed.ensures))

pub returns : goal.returns
returns c =
    let found = rw c.in-Some.is at c.in_ok-place.ensures in
    assignment_line _ _ _ _ _ _ found c.in-Some-after_sign.ensures
    (value_side _ _ _ _ (rw c.in-Some-2.is at c.in_ok-operand.ensures))

pub returns-in-Some-after_word : goal.returns-in-Some-after_word
returns-in-Some-after_word c =
    let found = rw c.in-Some.is at c.in_ok-place.ensures in
    read_behind_place _ _ _ (λ p. form_of p.0) (λ p. tokens_in p.1.now) _ found
    (read_assigned _ _ _ (λ p. form_of p.0) (λ p. tokens_in p.1.now) _ c.in-Some-after_sign.ensures
    (read_side_behind _ _ _ _ (λ p. form_of p.0) (λ p. tokens_in p.1.now) _
    c.in-Some-after_word.ensures.begins c.made.ensures))

pub returns-in-Some-after_word-2 : goal.returns-in-Some-after_word-2
returns-in-Some-after_word-2 c =
    let found = rw c.in-Some.is at c.in_ok-place.ensures in
    read_behind_place _ _ _ (λ p. form_of p.0) (λ p. tokens_in p.1.now) _ found
    (read_assigned _ _ _ (λ p. form_of p.0) (λ p. tokens_in p.1.now) _ c.in-Some-after_sign.ensures
    (read_side_behind _ _ _ _ (λ p. form_of p.0) (λ p. tokens_in p.1.now) _
    c.in-Some-after_word-2.ensures.begins c.called.ensures))

pub returns-in_default-2 : goal.returns-in_default-2
returns-in_default-2 c =
    let found = rw c.in-Some.is at c.in_ok-place.ensures in
    let none = rw c.in_default-2.is at c.in_ok-operand.ensures in
    pair_none_behind parts.places (behind_token (sign 61) rights) places_one rights_join _ _ _ found
    (behind_none rights (sign 61) _ _ c.in-Some-after_sign.ensures
    (no_value _ c.in_default-after_sign-2.ensures c.in_default-after_word.ensures.begins
    c.in_default-after_word-2.ensures.begins none))
