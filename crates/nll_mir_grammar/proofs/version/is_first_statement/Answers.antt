use Rattle.std.proofs.Common.{◌++◌, [], ◌∷◌, sym, ap, map, ◌∙◌}
use Rattle.std.specs.Prelude.{not, ◌&&◌}
use Rattle.std.specs.List.{list_all}
use Rattle.nll_mir_grammar.specs.Functions.{has_function}
use Rattle.nll_mir_grammar.specs.WrittenTypes.{WrittenType}
use Rattle.nll_mir_grammar.specs.TypeTexts.{written}
use Rattle.nll_mir_grammar.proofs.VersionLemmas.{and_true, all_push, call_types}
use Rattle.nll_mir_grammar.proofs.version.is_first_statement.Goals as goal

pub returns-in-Make : goal.returns-in-Make
returns-in-Make c = rw c.in-Make.is (ap (λ b. not b) (rw c.deref.ensures at c.has_function.ensures) ∙ sym (and_true _))

pub returns-then-not-are_first_arguments : goal.returns-then-not-are_first_arguments
returns-then-not-are_first_arguments c =
    let call = c.in-Call.call.value in
    let plain = λ (t : WrittenType). not (has_function t) in
    let told =
    sym (rw c.deref-in-Call.ensures at (rw c.as_slice.ensures.value at c.are_first_arguments.ensures))
    ∙ c.if-not-are_first_arguments.true in
    rw c.in-Call.is (sym (ap (λ ts. list_all plain (ts ++ written call.result ∷ [])) (call_types call.arguments.items)
    ∙ (all_push plain (map (λ a. written a.1) call.arguments.items) (written call.result)
    ∙ ap (λ b. b && plain (written call.result)) told)))

pub returns-else-not-are_first_arguments : goal.returns-else-not-are_first_arguments
returns-else-not-are_first_arguments c =
    let call = c.in-Call.call.value in
    let plain = λ (t : WrittenType). not (has_function t) in
    let told =
    sym (rw c.deref-in-Call.ensures at (rw c.as_slice.ensures.value at c.are_first_arguments.ensures))
    ∙ c.if-not-are_first_arguments.false in
    rw c.in-Call.is (ap (λ b. not b) (rw c.deref-in-Call-2.ensures at c.has_function-in-Call.ensures)
    ∙ sym (ap (λ ts. list_all plain (ts ++ written call.result ∷ [])) (call_types call.arguments.items)
    ∙ (all_push plain (map (λ a. written a.1) call.arguments.items) (written call.result)
    ∙ ap (λ b. b && plain (written call.result)) told)))
