use Rattle.std.proofs.Common.{◌≤◌, ◌≡◌, ℕ, List, arith, length, ap, sym, ◌∙◌}
use Rattle.std.proofs.lemmas.Result.{IfOk-weaker}
use Rattle.nll_types.proofs.FailLemmas.{failed}
use Rattle.nll_types.specs.Shapes.{ShapeList, shape_of, shapes_of, put_in_shape, put_in_shapes, reference_shape, tuple_shape, named_shape, function_shape}
use Rattle.nll_types.specs.Table.{shapes_in, shape_in, all_at}
use Rattle.nll_types.specs.Types.{TypeTree}
use Rattle.nll_types.specs.Views.{tree, trees}
use Rattle.nll_types.specs.declared.node.Node.{Node}
use Rattle.nll_types.proofs.ViewLemmas.{tree_int, tree_parameter, tree_reference, tree_tuple, tree_named, tree_function}
use Rattle.nll_types.proofs.ShapingLemmas.{argument_at, argument_past, extends_same, extends_then, shaping_more, shaping_all, kept_at, below_more, over_function}
use Rattle.nll_types.proofs.type_shapes.+type_shapes.Goals.{shape-in_default-via-in-Some+else-argument-len, shape-in_default-via-in_default}
use Rattle.nll_types.proofs.type_shapes.+type_shapes.Goals as goal

-- what the shape of a tree becomes, where the tree is another
put : (table : List Node) (arguments : List ℕ) (t u : TypeTree) → t ≡ u
    → put_in_shape (all_at (shapes_in table) arguments) (shape_of u)
    ≡ put_in_shape (all_at (shapes_in table) arguments) (shape_of t)
put table arguments t u e =
    sym (ap (λ (x : TypeTree). put_in_shape (all_at (shapes_in table) arguments) (shape_of x)) e)

pub shape-returns-in-Int-clause-at : goal.shape-returns-in-Int-clause-at
shape-returns-in-Int-clause-at t c = IfOk-weaker c.add.result _ _ (λ i at. λ b.
    at ∙ put c.args.shapes.now c.args.arguments.now _ _ (ap tree c.in-Int.is ∙ tree_int)) c.add.ensures.at

pub shape-returns-in-Some-clause-at : goal.shape-returns-in-Some-clause-at
shape-returns-in-Some-clause-at t c = λ b.
    let read = c.in-Some.ensures.lookup in
    ap (shape_in c.args.shapes.now) (read.4 (omega arith) 0)
    ∙ argument_at (shapes_in c.args.shapes.now) c.args.arguments.now c.in-Parameter.number read.3.0
    ∙ put c.args.shapes.now c.args.arguments.now _ _ (ap tree c.in-Parameter.is ∙ tree_parameter _)

pub shape-returns-in_default-clause-at : goal.shape-returns-in_default-clause-at
shape-returns-in_default-clause-at t c = IfOk-weaker c.add-in_default.result _ _ (λ i at. λ b.
    let past : length c.args.arguments.now ≤ c.in-Parameter.number = elim c.in_default.branch [
      | shape-in_default-via-in-Some+else-argument-len w ↦
          (let read = w.in-Some.ensures.lookup in
          let same = read.4 (omega arith) 0 in
          omega (arith, b c.in-Parameter.number read.3.0, same, w.if-argument-len.false, w.len.ensures))
      | shape-in_default-via-in_default w ↦ w.in_default.ensures.lookup.3
    ] in
    at ∙ argument_past (shapes_in c.args.shapes.now) c.args.arguments.now c.in-Parameter.number past
    ∙ put c.args.shapes.now c.args.arguments.now _ _ (ap tree c.in-Parameter.is ∙ tree_parameter _))
    c.add-in_default.ensures.at

pub shape-returns-in_ok-target-in-Reference-clause-at : goal.shape-returns-in_ok-target-in-Reference-clause-at
shape-returns-in_ok-target-in-Reference-clause-at t c = IfOk-weaker c.add-in-Reference.result _ _ (λ i at. λ b.
    let target = (rw c.deref.ensures at c.in_ok-target-in-Reference.ensures.at) b in
    at
    ∙ (ap (reference_shape c.in-Reference.mutable) target
    ∙ put c.args.shapes.now c.args.arguments.now _ _ (ap tree c.in-Reference.is ∙ tree_reference _ _ _)))
    c.add-in-Reference.ensures.at

pub shape-returns-in_ok-parts-in-Tuple-clause-at : goal.shape-returns-in_ok-parts-in-Tuple-clause-at
shape-returns-in_ok-parts-in-Tuple-clause-at t c = IfOk-weaker c.add-in-Tuple.result _ _ (λ i at. λ b.
    let parts = (rw c.as_slice.ensures.value at c.in_ok-parts-in-Tuple.ensures.at) b in
    at ∙ (ap tuple_shape parts ∙ put c.args.shapes.now c.args.arguments.now _ _ (ap tree c.in-Tuple.is ∙ tree_tuple _)))
    c.add-in-Tuple.ensures.at

pub shape-returns-in_ok-types-in-Named-clause-at : goal.shape-returns-in_ok-types-in-Named-clause-at
shape-returns-in_ok-types-in-Named-clause-at t c =
    let count = c.len-in-Named.ensures ∙ c.in-Named.regions.ok.0 in
    IfOk-weaker c.add-in-Named.result _ _ (λ i at. λ b.
    let types = (rw c.as_slice-in-Named.ensures.value at c.in_ok-types-in-Named.ensures.at) b in
    at ∙ (ap (λ k. named_shape c.in-Named.number k
    (all_at (shapes_in c.shape_all-in-Named.new.shapes) c.in_ok-types-in-Named.types.items)) count
    ∙ ap (named_shape c.in-Named.number (length c.in-Named.regions.items)) types
    ∙ put c.args.shapes.now c.args.arguments.now _ _ (ap tree c.in-Named.is ∙ tree_named _ _ _)))
    c.add-in-Named.ensures.at

pub shape-returns-in_ok-returned-in-Function-clause-at : goal.shape-returns-in_ok-returned-in-Function-clause-at
shape-returns-in_ok-returned-in-Function-clause-at t c = IfOk-weaker c.add-in-Function.result _ _ (λ i at. λ b.
    let first = c.args.shapes.now in
    let grown = c.shape_all-in-Function.ensures.extends in
    let inputs = (rw c.as_slice-in-Function.ensures.value at c.in_ok-inputs-in-Function.ensures.at) b in
    let later =
    below_more (length first) (length c.shape_all-in-Function.new.shapes) c.args.arguments.now grown.longer b in
    let returned = (rw c.deref-in-Function.ensures at c.in_ok-returned-in-Function.ensures.at) later in
    let kept =
    kept_at c.shape_all-in-Function.new.shapes c.shape-in-Function.new.shapes
    c.in_ok-inputs-in-Function.inputs.items c.shape-in-Function.ensures.extends
    c.in_ok-inputs-in-Function.ensures.within in
    let same = kept_at first c.shape_all-in-Function.new.shapes c.args.arguments.now grown b in
    let last = shape_in c.shape-in-Function.new.shapes c.in_ok-returned-in-Function.returned in
    let put_inputs =
    put_in_shapes (all_at (shapes_in first) c.args.arguments.now) (shapes_of (trees c.in-Function.inputs.items)) in
    at ∙ (ap (λ z. function_shape z last) (kept ∙ inputs)
    ∙ ap (function_shape put_inputs) (returned
    ∙ ap (λ (z : ShapeList). put_in_shape z (shape_of (tree c.in-Function.returned.value))) same)
    ∙ put first c.args.arguments.now _ _ (ap tree c.in-Function.is ∙ tree_function _ _))) c.add-in-Function.ensures.at

pub shape-returns-in_ok-returned-in-Function-clause-extends
    : goal.shape-returns-in_ok-returned-in-Function-clause-extends
shape-returns-in_ok-returned-in-Function-clause-extends t c =
    extends_then _ _ _ c.shape_all-in-Function.ensures.extends
    (extends_then _ _ _ c.shape-in-Function.ensures.extends c.add-in-Function.ensures.extends)

pub shape-returns-in_ok-returned-in-Function-clause-within : goal.shape-returns-in_ok-returned-in-Function-clause-within
shape-returns-in_ok-returned-in-Function-clause-within t c = c.add-in-Function.ensures.within

pub shape-returns-in_err-inputs-in-Function-clause-within : goal.shape-returns-in_err-inputs-in-Function-clause-within
shape-returns-in_err-inputs-in-Function-clause-within t c =
    failed c.from_residual-in_err-inputs-in-Function.result _ _ c.from_residual-in_err-inputs-in-Function.ensures.1

pub shape-returns-in_err-inputs-in-Function-clause-at : goal.shape-returns-in_err-inputs-in-Function-clause-at
shape-returns-in_err-inputs-in-Function-clause-at t c =
    failed c.from_residual-in_err-inputs-in-Function.result _ _ c.from_residual-in_err-inputs-in-Function.ensures.1

pub shape-returns-in_err-inputs-in-Function-clause-extends : goal.shape-returns-in_err-inputs-in-Function-clause-extends
shape-returns-in_err-inputs-in-Function-clause-extends t c = c.shape_all-in-Function.ensures.extends

pub shape-returns-in_err-returned-in-Function-clause-within
    : goal.shape-returns-in_err-returned-in-Function-clause-within
shape-returns-in_err-returned-in-Function-clause-within t c =
    failed c.from_residual-in_err-returned-in-Function.result _ _ c.from_residual-in_err-returned-in-Function.ensures.1

pub shape-returns-in_err-returned-in-Function-clause-at : goal.shape-returns-in_err-returned-in-Function-clause-at
shape-returns-in_err-returned-in-Function-clause-at t c =
    failed c.from_residual-in_err-returned-in-Function.result _ _ c.from_residual-in_err-returned-in-Function.ensures.1

pub shape-returns-in_err-returned-in-Function-clause-extends
    : goal.shape-returns-in_err-returned-in-Function-clause-extends
shape-returns-in_err-returned-in-Function-clause-extends t c =
    extends_then _ _ _ c.shape_all-in-Function.ensures.extends c.shape-in-Function.ensures.extends

pub shape-add-requires-in-Function : goal.shape-add-requires-in-Function
shape-add-requires-in-Function t c =
    over_function (length c.shape-in-Function.new.shapes) c.in_ok-returned-in-Function.returned
    c.in_ok-inputs-in-Function.inputs c.in_ok-returned-in-Function.ensures.within
    (below_more _ _ c.in_ok-inputs-in-Function.inputs.items c.shape-in-Function.ensures.extends.longer
    c.in_ok-inputs-in-Function.ensures.within)

pub shape-returns-in_ok-target-in-Reference-clause-extends : goal.shape-returns-in_ok-target-in-Reference-clause-extends
shape-returns-in_ok-target-in-Reference-clause-extends t c =
    extends_then _ _ _ c.shape.ensures.extends c.add-in-Reference.ensures.extends

pub shape-returns-in_ok-parts-in-Tuple-clause-extends : goal.shape-returns-in_ok-parts-in-Tuple-clause-extends
shape-returns-in_ok-parts-in-Tuple-clause-extends t c =
    extends_then _ _ _ c.shape_all.ensures.extends c.add-in-Tuple.ensures.extends

pub shape-returns-in_ok-types-in-Named-clause-extends : goal.shape-returns-in_ok-types-in-Named-clause-extends
shape-returns-in_ok-types-in-Named-clause-extends t c =
    extends_then _ _ _ c.shape_all-in-Named.ensures.extends c.add-in-Named.ensures.extends

pub shape_all-loop-part-preserved : goal.shape_all-loop-part-preserved
shape_all-loop-part-preserved t c =
    let pushed = c.push_reserved.ensures in (
      rw pushed.items
          (shaping_more _ _ _ c.args.arguments.now c.args.parts.now _ c.loop-part.part-index _ c.part-item.result
          c.loop-part-test.true c.part-item.is
          c.loop-part.invariant.0 c.shape.ensures.extends c.in_ok-shape.ensures.within c.in_ok-shape.ensures.at),
      omega arith,
      omega arith,
    )

pub shape_all-returns-clause-at : goal.shape_all-returns-clause-at
shape_all-returns-clause-at t c =
    shaping_all _ _ c.args.arguments.now c.args.parts.now _ c.loop-part.part-index
    (let a : length c.args.parts.now ≤ c.loop-part.part-index = c.loop-part-test.false in omega arith)
    c.loop-part.invariant.0

pub shape-returns-in-Int-clause-extends : goal.shape-returns-in-Int-clause-extends
shape-returns-in-Int-clause-extends t c = c.add.ensures.extends

pub shape-returns-in-Int-clause-within : goal.shape-returns-in-Int-clause-within
shape-returns-in-Int-clause-within t c = c.add.ensures.within

pub shape-returns-in_ok-target-in-Reference-clause-within : goal.shape-returns-in_ok-target-in-Reference-clause-within
shape-returns-in_ok-target-in-Reference-clause-within t c = c.add-in-Reference.ensures.within

pub shape-returns-in_ok-parts-in-Tuple-clause-within : goal.shape-returns-in_ok-parts-in-Tuple-clause-within
shape-returns-in_ok-parts-in-Tuple-clause-within t c = c.add-in-Tuple.ensures.within

pub shape-returns-in_ok-types-in-Named-clause-within : goal.shape-returns-in_ok-types-in-Named-clause-within
shape-returns-in_ok-types-in-Named-clause-within t c = c.add-in-Named.ensures.within

pub shape-returns-in_err-target-in-Reference-clause-within : goal.shape-returns-in_err-target-in-Reference-clause-within
shape-returns-in_err-target-in-Reference-clause-within t c = failed c.from_residual.result _ _ c.from_residual.ensures.1

pub shape-returns-in_err-target-in-Reference-clause-at : goal.shape-returns-in_err-target-in-Reference-clause-at
shape-returns-in_err-target-in-Reference-clause-at t c = failed c.from_residual.result _ _ c.from_residual.ensures.1

pub shape-returns-in_err-target-in-Reference-clause-extends
    : goal.shape-returns-in_err-target-in-Reference-clause-extends
shape-returns-in_err-target-in-Reference-clause-extends t c = c.shape.ensures.extends

pub shape-returns-in_err-parts-in-Tuple-clause-within : goal.shape-returns-in_err-parts-in-Tuple-clause-within
shape-returns-in_err-parts-in-Tuple-clause-within t c =
    failed c.from_residual-in_err-parts-in-Tuple.result _ _ c.from_residual-in_err-parts-in-Tuple.ensures.1

pub shape-returns-in_err-parts-in-Tuple-clause-at : goal.shape-returns-in_err-parts-in-Tuple-clause-at
shape-returns-in_err-parts-in-Tuple-clause-at t c =
    failed c.from_residual-in_err-parts-in-Tuple.result _ _ c.from_residual-in_err-parts-in-Tuple.ensures.1

pub shape-returns-in_err-parts-in-Tuple-clause-extends : goal.shape-returns-in_err-parts-in-Tuple-clause-extends
shape-returns-in_err-parts-in-Tuple-clause-extends t c = c.shape_all.ensures.extends

pub shape-returns-in_err-types-in-Named-clause-within : goal.shape-returns-in_err-types-in-Named-clause-within
shape-returns-in_err-types-in-Named-clause-within t c =
    failed c.from_residual-in_err-types-in-Named.result _ _ c.from_residual-in_err-types-in-Named.ensures.1

pub shape-returns-in_err-types-in-Named-clause-at : goal.shape-returns-in_err-types-in-Named-clause-at
shape-returns-in_err-types-in-Named-clause-at t c =
    failed c.from_residual-in_err-types-in-Named.result _ _ c.from_residual-in_err-types-in-Named.ensures.1

pub shape-returns-in_err-types-in-Named-clause-extends : goal.shape-returns-in_err-types-in-Named-clause-extends
shape-returns-in_err-types-in-Named-clause-extends t c = c.shape_all-in-Named.ensures.extends

pub shape_all-returns-in_err-made-clause-within : goal.shape_all-returns-in_err-made-clause-within
shape_all-returns-in_err-made-clause-within t c = failed c.from_residual.result _ _ c.from_residual.ensures.1

pub shape_all-returns-in_err-made-clause-at : goal.shape_all-returns-in_err-made-clause-at
shape_all-returns-in_err-made-clause-at t c = failed c.from_residual.result _ _ c.from_residual.ensures.1

pub shape_all-returns-in_err-shape-clause-within : goal.shape_all-returns-in_err-shape-clause-within
shape_all-returns-in_err-shape-clause-within t c =
    failed c.from_residual-in_err-shape.result _ _ c.from_residual-in_err-shape.ensures.1

pub shape_all-returns-in_err-shape-clause-at : goal.shape_all-returns-in_err-shape-clause-at
shape_all-returns-in_err-shape-clause-at t c =
    failed c.from_residual-in_err-shape.result _ _ c.from_residual-in_err-shape.ensures.1

pub shape_all-returns-in_err-shape-clause-extends : goal.shape_all-returns-in_err-shape-clause-extends
shape_all-returns-in_err-shape-clause-extends t c =
    extends_then _ _ _ c.loop-part.invariant.0.extends c.shape.ensures.extends

pub shape_all-returns-clause-within : goal.shape_all-returns-clause-within
shape_all-returns-clause-within t c = c.loop-part.invariant.0.within

pub shape_all-returns-clause-extends : goal.shape_all-returns-clause-extends
shape_all-returns-clause-extends t c = c.loop-part.invariant.0.extends

pub shape_all-push_reserved-requires : goal.shape_all-push_reserved-requires
shape_all-push_reserved-requires t c = omega arith

pub shape_all-returns-in_err-made-clause-extends : goal.shape_all-returns-in_err-made-clause-extends
shape_all-returns-in_err-made-clause-extends t c = extends_same _

pub shape-add-requires-in-Tuple : goal.shape-add-requires-in-Tuple
shape-add-requires-in-Tuple t c = c.in_ok-parts-in-Tuple.ensures.within

pub shape-add-requires-in-Named : goal.shape-add-requires-in-Named
shape-add-requires-in-Named t c = c.in_ok-types-in-Named.ensures.within
