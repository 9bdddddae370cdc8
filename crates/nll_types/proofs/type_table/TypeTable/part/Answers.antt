use Rattle.std.proofs.Common.{◌∙◌, ap, sym}
use Rattle.std.specs.Prelude.{option_map}
use Rattle.indexmap.proofs.CallerLemmas.{insert_entry-new}
use Rattle.nll_types.specs.Table.{shape_in}
use Rattle.nll_types.specs.contracts.type_table.FieldUsePartialEq.TheImpl as derived
use Rattle.nll_types.proofs.MemoLemmas.{found_entry, remembered_more, remembered_stay}
use Rattle.nll_types.proofs.type_table.TypeTable.part.Goals as goal

pub invariant_of-self : goal.invariant_of-self
invariant_of-self c = remembered_stay _ _ _ _ c.self.invariant c.part.ensures.extends

pub returns-in-Some-clause-within : goal.returns-in-Some-clause-within
returns-in-Some-clause-within c =
    let found = found_entry c.self.inside.fields.entries _ c.copied.result (c.copied.ensures ∙ c.get.ensures.value) in
    rw (← c.self.view_is) (c.self.invariant.each _ c.in-Some.made (rw c.in-Some.is at found)).1

pub returns-in-Some-clause-at : goal.returns-in-Some-clause-at
returns-in-Some-clause-at c =
    let found = found_entry c.self.inside.fields.entries _ c.copied.result (c.copied.ensures ∙ c.get.ensures.value) in
    rw (← c.self.view_is) (c.self.invariant.each _ c.in-Some.made (rw c.in-Some.is at found)).2

pub invariant_of-self-in_err-made : goal.invariant_of-self-in_err-made
invariant_of-self-in_err-made c = remembered_stay _ _ _ _ c.self.invariant c.part-2.ensures.extends

pub invariant_of-self-in_err-insert-in-Some-2 : goal.invariant_of-self-in_err-insert-in-Some-2
invariant_of-self-in_err-insert-in-Some-2 c =
    rw c.in_err-insert-in-Some-2.ensures.err (remembered_stay _ _ _ _ c.self.invariant c.part-2.ensures.extends)

pub invariant_of-self-in-Some-2 : goal.invariant_of-self-in-Some-2
invariant_of-self-in-Some-2 c =
    let made = c.in-Some-2.made in
    let new = insert_entry-new (derived.eq-value).it c.self.inside.fields
    (record { shape = c.args.number; place = c.args.place }) made
    (sym c.get.ensures.value ∙ sym c.copied.ensures ∙ c.in_default-copied.is) in
    let within = rw c.in-Some-2.is at c.in_ok-made.ensures.within in
    rw (c.in_ok-insert-in-Some-2.ensures.entries, new)
    (remembered_more _ _ _ _ _ made c.self.invariant c.part-2.ensures.extends
    (rw (← c.self.view_is) at c.requires) within
    (ap (option_map (shape_in c.part-2.new.shapes)) (sym c.in-Some-2.is) ∙ c.in_ok-made.ensures.at))

pub invariant_of-self-in-None : goal.invariant_of-self-in-None
invariant_of-self-in-None c = remembered_stay _ _ _ _ c.self.invariant c.part-2.ensures.extends
