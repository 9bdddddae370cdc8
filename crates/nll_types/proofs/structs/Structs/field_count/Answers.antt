use Rattle.std.proofs.Common.{◌∙◌, ap, sym, refl, map}
use Rattle.std.specs.Prelude.{option_map}
use Rattle.std.proofs.lemmas.Option.{slice_get_read, slice_get-map}
use Rattle.nll_types.specs.Types.{type_count}
use Rattle.nll_types.specs.Structs.{Struct, no_struct}
use Rattle.nll_types.specs.Declarations.{declared}
use Rattle.nll_types.proofs.ViewLemmas.{count_trees}
use Rattle.nll_types.proofs.DeclareLemmas.{get_mapped}
use Rattle.nll_types.proofs.structs.Structs.field_count.Goals as goal

pub returns-in-Some : goal.returns-in-Some
returns-in-Some c =
    let entries = c.self.inside.entries.items in
    let entry = c.in-Some.entry.now in
    let fields = entry.declaration.fields in
    let read = rw c.deref.ensures.value at c.in-Some.ensures.lookup in
    let item = slice_get_read entries _ c.args.number entry refl read.3.0 read.1 in
    let there = slice_get-map (λ entry. entry.declaration) entries c.args.number
    ∙ ap (option_map (λ entry. entry.declaration)) item in
    let is =
    get_mapped declared (map (λ entry. entry.declaration) entries) c.args.number entry.declaration no_struct there in
    rw (← c.self.view_is) (c.len.ensures ∙ fields.ok.0 ∙ sym (count_trees fields.items)
    ∙ sym (ap (λ (z : Struct). type_count z.fields) is))
