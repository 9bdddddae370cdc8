use Rattle.std.proofs.Common.{◌≡◌, ◌∙◌, ◌∷◌, ◌++◌, [], suc, sym, ap, arith}
use Rattle.std.proofs.lemmas.Result.{on_ok_weaker}
use Rattle.nll_types.specs.Declarations.{structs_of}
use Rattle.nll_types.specs.Shapes.{named_shape, shape_nodes}
use Rattle.nll_types.specs.Table.{all_at, at, shape_in, shape_over, shapes_in}
use Rattle.nll_types.proofs.FillLemmas.{part_nodes}
use Rattle.nll_rules.specs.Signs.{part_sign, row_signs_of}
use Rattle.nll_types.specs.declared.parameter.Sign.{Sign}
use Rattle.nll_rules.specs.Positions.{target_sign, times}
use Rattle.nll_rules.proofs.RowSignLemmas.{all_signs_more, appended_more, named_signs}
use Rattle.nll_rules.proofs.SubtypeLemmas.{times_covariant, times_invariant}
use Rattle.nll_rules.proofs.row_signs.+row_signs.Goals as goal
use Rattle.nll_rules.proofs.row_signs.+row_signs.Goals.{push_signs-then-mutable, push_signs-else-mutable}

pub push_parts-push_signs-requires : goal.push_parts-push_signs-requires
push_parts-push_signs-requires t c =
    let k = c.loop-place.place in
    let less = part_nodes (shapes_in c.args.shapes.now) c.args.parts.now k c.loop-place-test.true in
    let d = c.decreases in
    (omega arith, c.requires k c.loop-place-test.true)

pub push_parts-loop-place-preserved : goal.push_parts-loop-place-preserved
push_parts-loop-place-preserved t c =
    appended_more _ _ _ _ _ _ c.loop-place.invariant (rw c.at.ensures at c.in_ok-push_signs.ensures)
    (all_signs_more (structs_of c.args.structs.now) (shapes_in c.args.shapes.now) (part_sign c.args.kinds)
    c.args.parts.now c.loop-place.place 0 c.loop-place-test.true)

pub push_signs-push_parts-requires-in-Function : goal.push_signs-push_parts-requires-in-Function
push_signs-push_parts-requires-in-Function t c =
    let whole = ap shape_nodes (c.node.ensures.at ∙ ap (shape_over _) c.in-Function.is) in
    let over = rw c.in-Function.is at c.node.ensures.over in
    let d = c.decreases in
    rw c.as_slice-in-Function.ensures.value (omega arith, λ k l. omega (arith, over (suc k) (omega arith), c.requires))

pub push_signs-returns-in_ok-push_parts-in-Named : goal.push_signs-returns-in_ok-push_parts-in-Named
push_signs-returns-in_ok-push_parts-in-Named t c =
    let known = shapes_in c.args.shapes.now in
    let v = c.in-Named in
    let shape : shape_in c.args.shapes.now c.args.shape ≡ named_shape v.named v.count (all_at known v.parts.items) =
    c.node.ensures.at ∙ ap (shape_over known) v.is in
    on_ok_weaker c.push_own.result (λ h. rw shape
    (named_signs (structs_of c.args.structs.now) c.args.outer v.named v.count (all_at known v.parts.items) _ _ _ _ _
    c.type_parameters.ensures c.region_parameters.ensures
    (rw c.as_slice-in-Named.ensures.value at c.in_ok-push_parts-in-Named.ensures) h)) c.push_own.ensures

pub push_signs-returns-in-Tuple : goal.push_signs-returns-in-Tuple
push_signs-returns-in-Tuple t c =
    rw (c.node.ensures.at, c.in-Tuple.is) (rw c.as_slice.ensures.value at c.push_parts.ensures)

pub push_signs-returns-in_ok-push_parts-in-Function : goal.push_signs-returns-in_ok-push_parts-in-Function
push_signs-returns-in_ok-push_parts-in-Function t c =
    let shape = c.node.ensures.at ∙ ap (shape_over _) c.in-Function.is in
    on_ok_weaker c.push_signs-in-Function.result (λ h. appended_more _ _ _ _ _ _
    (rw (c.as_slice-in-Function.ensures.value, c.times.ensures) at c.in_ok-push_parts-in-Function.ensures) h
    (ap (row_signs_of (structs_of c.args.structs.now) c.args.outer) shape)) c.push_signs-in-Function.ensures

pub push_signs-returns-in_ok-push-in-Reference : goal.push_signs-returns-in_ok-push-in-Reference
push_signs-returns-in_ok-push-in-Reference t c =
    let f = c.in-Reference in
    let outer = c.args.outer in
    let sign : times outer (target_sign f.mutable) ≡ c.if-mutable.behind = elim c.if-mutable.branch [
      | push_signs-then-mutable w ↦ rw w.if-mutable.true (times_invariant outer ∙ sym w.behind-is)
      | push_signs-else-mutable w ↦ rw w.if-mutable.false (times_covariant outer ∙ sym w.behind-is)
    ] in
    rw (c.node.ensures.at, f.is) (appended_more _ _ _ _ _ _ c.in_ok-push_signs-in-Reference.ensures
    c.in_ok-push-in-Reference.ensures.items (ap (λ (s : Sign). row_signs_of (structs_of c.args.structs.now) s
    (at (shapes_in c.args.shapes.now) f.target) ++ outer ∷ []) sign))

pub push_signs-push_signs-requires : goal.push_signs-push_signs-requires
push_signs-push_signs-requires t c =
    let whole = ap shape_nodes (c.node.ensures.at ∙ ap (shape_over _) c.in-Reference.is) in
    let over = rw c.in-Reference.is at c.node.ensures.over in
    let d = c.decreases in
    (omega arith, omega (arith, over 0 (omega arith), c.requires))

pub push_signs-push_parts-requires : goal.push_signs-push_parts-requires
push_signs-push_parts-requires t c =
    let whole = ap shape_nodes (c.node.ensures.at ∙ ap (shape_over _) c.in-Tuple.is) in
    let over = rw c.in-Tuple.is at c.node.ensures.over in
    let d = c.decreases in
    rw c.as_slice.ensures.value (omega arith, λ k l. omega (arith, over k l, c.requires))

pub push_signs-push_parts-requires-in-Named : goal.push_signs-push_parts-requires-in-Named
push_signs-push_parts-requires-in-Named t c =
    let whole = ap shape_nodes (c.node.ensures.at ∙ ap (shape_over _) c.in-Named.is) in
    let over = rw c.in-Named.is at c.node.ensures.over in
    let d = c.decreases in
    rw c.as_slice-in-Named.ensures.value (omega arith, λ k l. omega (arith, over k l, c.requires))

pub push_signs-push_signs-requires-in-Function : goal.push_signs-push_signs-requires-in-Function
push_signs-push_signs-requires-in-Function t c =
    let whole = ap shape_nodes (c.node.ensures.at ∙ ap (shape_over _) c.in-Function.is) in
    let over = rw c.in-Function.is at c.node.ensures.over in
    let d = c.decreases in
    (omega arith, omega (arith, over 0 (omega arith), c.requires))
