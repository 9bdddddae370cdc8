use Rattle.std.proofs.Common.{◌≡◌, ◌∙◌, ap, sym, length, arith, Some}
use Rattle.std.specs.Prelude.{option_map, slice_get}
use Rattle.nll_types.proofs.ViewLemmas.{copied_item}
use Rattle.nll_types.specs.Shapes.{behind_shape, shape_of}
use Rattle.nll_types.specs.Structs.{struct_at}
use Rattle.nll_types.specs.Table.{at, shapes_in, shape_over, parts_of, AreBelow}
use Rattle.nll_types.specs.Declarations.{structs_of}
use Rattle.nll_types.specs.declared.place.Projection.TheVariants.{Field}
use Rattle.nll_types.proofs.ShapeLemmas.{shape_at_of}
use Rattle.nll_types.proofs.ProjectLemmas.{shape_at_all}
use Rattle.nll_types.proofs.projections.part.Goals as goal

pub returns-in-Tuple-clause-at : goal.returns-in-Tuple-clause-at
returns-in-Tuple-clause-at c =
    let known = shapes_in c.args.shapes.now in
    let parts = c.in-Tuple.parts.items in
    let read = rw c.deref.ensures.value at c.get.ensures.lookup in
    let item : c.copied.result ≡ slice_get parts c.args.place =
    c.copied.ensures ∙ copied_item parts c.args.place c.get.result read in
    ap (option_map (at known)) item ∙ shape_at_all known parts c.args.place
    ∙ ap (behind_shape (structs_of c.args.structs.now) (Field c.args.place))
    (sym (c.node.ensures.at ∙ ap (shape_over known) c.in-Tuple.is))

pub returns-in_ok-made-in-Some-clause-at : goal.returns-in_ok-made-in-Some-clause-at
returns-in_ok-made-in-Some-clause-at c =
    let known = shapes_in c.args.shapes.now in
    let over = rw (ap parts_of c.in-Named.is) at c.node.ensures.over in
    let below : AreBelow (length c.args.shapes.now) c.in-Named.arguments.items =
    λ k l. (let x = over k l in omega arith) in
    let taken = c.as_slice-in-Some.ensures.value ∙ c.in_ok-arguments-in-Some.ensures.items ∙ c.as_slice.ensures.value in
    let made = (rw taken at c.in_ok-made-in-Some.ensures.at) below in
    let fields = (struct_at (structs_of c.args.structs.now) c.in-Named.named).fields in
    let e = sym (shape_at_of fields c.args.place) ∙ ap (option_map shape_of) c.in-Some.ensures in
    rw (c.node.ensures.at ∙ ap (shape_over known) c.in-Named.is, e) (ap Some made)

pub returns-in-None-clause-at : goal.returns-in-None-clause-at
returns-in-None-clause-at c =
    let known = shapes_in c.args.shapes.now in
    let fields = (struct_at (structs_of c.args.structs.now) c.in-Named.named).fields in
    let e = sym (shape_at_of fields c.args.place) ∙ ap (option_map shape_of) c.in-None.ensures in
    rw (c.node.ensures.at ∙ ap (shape_over known) c.in-Named.is, e)
