use Rattle.std.proofs.Common.{◌≡◌, ◌∙◌, ap, suc, arith}
use Rattle.std.proofs.lemmas.Result.{on_ok_weaker}
use Rattle.nll_types.specs.Declarations.{structs_of}
use Rattle.nll_types.specs.Shapes.{named_shape}
use Rattle.nll_types.specs.Table.{all_at, shape_in, shape_over, shapes_in}
use Rattle.nll_types.specs.declared.parameter.Sign.TheVariants.{Covariant}
use Rattle.nll_rules.proofs.RowSignLemmas.{named_signs}
use Rattle.nll_rules.proofs.row_signs.push_top.Goals as goal

pub push_first-requires-in-Function : goal.push_first-requires-in-Function
push_first-requires-in-Function c =
    let over = rw c.in-Function.is at c.node.ensures.over in
    rw c.as_slice-in-Function.ensures.value (λ k l. omega (arith, over (suc k) (omega arith), c.requires))

pub returns-in_ok-push_first-in-Named-clause-signs : goal.returns-in_ok-push_first-in-Named-clause-signs
returns-in_ok-push_first-in-Named-clause-signs c =
    let known = shapes_in c.args.shapes.now in
    let v = c.in-Named in
    let shape : shape_in c.args.shapes.now c.args.shape ≡ named_shape v.named v.count (all_at known v.parts.items) =
    c.node.ensures.at ∙ ap (shape_over known) v.is in
    on_ok_weaker c.push_own.result (λ h. rw shape
    (named_signs (structs_of c.args.structs.now) Covariant v.named v.count (all_at known v.parts.items) _ _ _ _ _
    c.type_parameters.ensures c.region_parameters-parameters.ensures
    (rw c.as_slice-in-Named.ensures.value at c.in_ok-push_first-in-Named.ensures.signs) h)) c.push_own.ensures
