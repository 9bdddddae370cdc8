use Rattle.std.proofs.Common.{[], ap, append-nil, ◌∙◌, length, sym}
use Rattle.nll_types.specs.Types.{named}
use Rattle.nll_rules.proofs.KnowingLemmas.{learns_then}
use Rattle.nll_rules.proofs.KnownFieldLemmas.{found_entry, kept_later, learns_rows, same_shapes}
use Rattle.nll_rules.proofs.KnownLemmas.{field_row}
use Rattle.nll_rules.proofs.known.Known.make_part.Goals as goal

pub invariant_of-self-in-Some : goal.invariant_of-self-in-Some
invariant_of-self-in-Some c =
    let k = c.self.invariant in
    let lists = c.in_ok-part.ensures in
    let kept = kept_later _ _ _ _ c.self.inside.lists.made.items c.add.new.self.made.items _ _
    (same_shapes c.self.inside.shapes) (c.as_slice.result.now, lists.ok) k.5 k.6 in
    (k.0, k.1, k.2, k.3, lists.body ∙ k.4, rw lists.body kept.0, rw lists.body kept.1)

pub returns-in-Some-clause-row : goal.returns-in-Some-clause-row
returns-in-Some-clause-row c = rw (← c.self.view_is) (λ s rs ts is row.
    let k = c.self.invariant in
    let lists = c.in_ok-part.ensures in
    let made = c.as_slice.ensures.value ∙ c.in_ok-made.ensures in
    let found = rw c.in-Some.is at (found_entry c.self.inside.fields.entries _ c.get.result
    c.get.ensures.value) in
    let right = k.2.each _ c.in-Some.known.now found in
    field_row c.self.inside.shapes _ c.add.new.self.made.items (named s rs ts) _ c.args.row.now c.in_ok-part.part
    c.in-Some.known.now
    row (right.1 s rs ts is) lists.shape (lists.row.0 ∙ ap length made) (rw (lists.body, k.4) at lists.row.1 ∙ made))

pub returns-in-Some-2-clause-learns : goal.returns-in-Some-2-clause-learns
returns-in-Some-2-clause-learns c = learns_then _ _ _ c.make_field.ensures.learns c.add_field.ensures.learns

pub returns-in_err-part-clause-learns : goal.returns-in_err-part-clause-learns
returns-in_err-part-clause-learns c =
    rw (← c.self.view_is) (learns_rows _ _ [] (c.in_err-part.ensures.err ∙ sym (append-nil _)))

pub returns-in-Some-clause-learns : goal.returns-in-Some-clause-learns
returns-in-Some-clause-learns c = rw (← c.self.view_is) (learns_rows _ _ _ c.in_ok-part.ensures.ok)

pub invariant_of-self : goal.invariant_of-self
invariant_of-self c =
    let k = c.self.invariant in
    let lists = c.in_err-part.ensures in
    (k.0, k.1, k.2, k.3, lists.body ∙ k.4, rw (lists.body, lists.err) k.5, rw (lists.body, lists.err) k.6)
