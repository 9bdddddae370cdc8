use Rattle.std.proofs.Common.{[], append-nil, sym, ap, ◌∙◌, length, subst}
use Rattle.nll_types.specs.Types.{named}
use Rattle.nll_rules.specs.Knowing.{IsRightField, KnownTypes}
use Rattle.nll_rules.proofs.KnownFieldLemmas.{fields_more, kept_later, learns_rows, same_shapes}
use Rattle.nll_rules.proofs.KnownLemmas.{field_row}
use Rattle.nll_rules.proofs.known.Known.add_field.Goals as goal

pub invariant_of-self-in_err-insert : goal.invariant_of-self-in_err-insert
invariant_of-self-in_err-insert c =
    let k = c.self.invariant in
    let lists = c.in_ok-part.ensures in
    let kept = kept_later _ _ _ _ c.self.inside.lists.made.items c.add.new.self.made.items _ _
    (same_shapes c.self.inside.shapes) (c.as_slice.result.now, lists.ok) k.5 k.6 in (
      k.0,
      k.1,
      rw c.in_err-insert.ensures.err k.2,
      k.3,
      lists.body ∙ k.4,
      rw lists.body kept.0,
      rw lists.body kept.1,
    )

pub invariant_of-self-2 : goal.invariant_of-self-2
invariant_of-self-2 c =
    let k = c.self.invariant in
    let lists = c.in_ok-part.ensures in
    let kept = kept_later _ _ _ _ c.self.inside.lists.made.items c.add.new.self.made.items _ _
    (same_shapes c.self.inside.shapes) (c.as_slice.result.now, lists.ok) k.5 k.6 in
    let right = subst (λ (v : KnownTypes). IsRightField v.structs v.table c.args.key c.args.field) (sym c.self.view_is)
    c.requires in (
      k.0,
      k.1,
      fields_more _ _ _ _ c.args.key c.args.field k.2 c.in_ok-insert.ensures.entries right,
      k.3,
      lists.body ∙ k.4,
      rw lists.body kept.0,
      rw lists.body kept.1,
    )

pub returns-clause-row : goal.returns-clause-row
returns-clause-row c = rw (← c.self.view_is) (λ s rs ts is row.
    let k = c.self.invariant in
    let lists = c.in_ok-part.ensures in
    let made = c.as_slice.ensures.value ∙ c.in_ok-made.ensures in
    let right = subst (λ (v : KnownTypes). IsRightField v.structs v.table c.args.key c.args.field) (sym c.self.view_is)
    c.requires in
    field_row c.self.inside.shapes _ c.add.new.self.made.items (named s rs ts) _ c.args.row.now c.in_ok-part.part
    c.args.field
    row (right.1 s rs ts is) lists.shape (lists.row.0 ∙ ap length made) (rw (lists.body, k.4) at lists.row.1 ∙ made))

pub returns-in_err-part-clause-learns : goal.returns-in_err-part-clause-learns
returns-in_err-part-clause-learns c =
    rw (← c.self.view_is) (learns_rows _ _ [] (c.in_err-part.ensures.err ∙ sym (append-nil _)))

pub returns-in_err-insert-clause-learns : goal.returns-in_err-insert-clause-learns
returns-in_err-insert-clause-learns c = rw (← c.self.view_is) (learns_rows _ _ _ c.in_ok-part.ensures.ok)

pub returns-clause-learns : goal.returns-clause-learns
returns-clause-learns c = rw (← c.self.view_is) (learns_rows _ _ _ c.in_ok-part.ensures.ok)
