use Rattle.std.proofs.Common.{◌<◌, ◌∙◌, length, arith, rules, sym}
use Rattle.std.proofs.lemmas.Bool.{eqb-true}
use Rattle.std.proofs.lemmas.List.{length-take}
use Rattle.nll_text.proofs.ByteLemmas.{positive}
use Rattle.nll_text.proofs.LineLemmas.{one_line, last_line, first_line, first_feed}
use Rattle.nll_text.proofs.lines.next_line.Goals as goal

pub slice_bounds-line-end : goal.slice_bounds-line-end
slice_bounds-line-end c =
    let first = first_feed _ c.next.result _ _ c.memchr_iter.ensures.value c.next.ensures.steps in
    let within : c.in-Some.end < length c.args.text.now = rw c.in-Some.is at first.1 in
    omega (arith, within, length-take c.in-Some.end c.args.text.now)

pub overflow_add-rest : goal.overflow_add-rest
overflow_add-rest c =
    let first = first_feed _ c.next.result _ _ c.memchr_iter.ensures.value c.next.ensures.steps in
    let within : c.in-Some.end < length c.args.text.now = rw c.in-Some.is at first.1 in
    search (rules, within)

pub slice_bounds-rest-count : goal.slice_bounds-rest-count
slice_bounds-rest-count c =
    let first = first_feed _ c.next.result _ _ c.memchr_iter.ensures.value c.next.ensures.steps in
    let within : c.in-Some.end < length c.args.text.now = rw c.in-Some.is at first.1 in
    search (rules, within)

pub slice_bounds-rest-start : goal.slice_bounds-rest-start
slice_bounds-rest-start c =
    let first = first_feed _ c.next.result _ _ c.memchr_iter.ensures.value c.next.ensures.steps in
    let within : c.in-Some.end < length c.args.text.now = rw c.in-Some.is at first.1 in
    search (rules, within)

pub returns-in_default : goal.returns-in_default
returns-in_default c =
    let first = first_feed _ c.next.result _ _ c.memchr_iter.ensures.value c.next.ensures.steps in
    one_line _ (first.0 ∙ c.in_default.is)

pub returns-then-is_empty : goal.returns-then-is_empty
returns-then-is_empty c =
    let first = first_feed _ c.next.result _ _ c.memchr_iter.ensures.value c.next.ensures.steps in
    last_line _ _ (first.0 ∙ c.in-Some.is) (eqb-true _ _ (sym c.if-is_empty.ensures))

pub returns : goal.returns
returns c =
    let first = first_feed _ c.next.result _ _ c.memchr_iter.ensures.value c.next.ensures.steps in
    first_line _ _ (first.0 ∙ c.in-Some.is) (positive _ (sym c.if-is_empty.ensures))
