use Rattle.std.proofs.Common.{◌<◌, ◌≤◌, ◌∙◌, ap, sym, refl, length, arith}
use Rattle.std.specs.Prelude.{option_map}
use Rattle.std.proofs.lemmas.Option.{slice_get_past, slice_get_read}
use Rattle.nll_types.specs.Places.{behind}
use Rattle.nll_types.specs.Views.{tree}
use Rattle.nll_types.specs.Declarations.{structs_of}
use Rattle.nll_types.specs.declared.place.Projection.TheVariants.{Field}
use Rattle.nll_types.proofs.ViewLemmas.{tree_tuple, type_at_item, type_at_trees}
use Rattle.nll_types.proofs.place_types.step.Goals as goal

pub returns-then-place-len : goal.returns-then-place-len
returns-then-place-len c =
    let parts = c.in-Tuple.parts.items in
    let within : c.in-Field.place < length parts = omega arith in
    rw (c.in-Field.is, c.in-Tuple.is) (sym (ap (behind (structs_of c.args.structs.now) (Field c.in-Field.place))
    (tree_tuple c.in-Tuple.parts)
    ∙ type_at_item parts c.in-Field.place c.swap_remove.result
    (slice_get_read parts _ c.in-Field.place c.swap_remove.result refl within c.swap_remove.ensures.value)))

pub returns-in-Tuple : goal.returns-in-Tuple
returns-in-Tuple c =
    let parts = c.in-Tuple.parts.items in
    let past : length parts ≤ c.in-Field.place = omega arith in
    rw (c.in-Field.is, c.in-Tuple.is) (sym (ap (behind (structs_of c.args.structs.now) (Field c.in-Field.place))
    (tree_tuple c.in-Tuple.parts)
    ∙ type_at_trees parts c.in-Field.place ∙ ap (option_map tree) (slice_get_past parts c.in-Field.place past)))
