use Rattle.std.proofs.Common.{◌≡◌, ◌++◌, ◌∷◌, [], ◌∙◌, ap, sym, map, take, length, arith}
use Rattle.std.proofs.lemmas.List.{map_push, map_more}
use Rattle.std.proofs.Math.Seq.{take-length}
use Rattle.std.proofs.lemmas.Result.{IfOk-weaker}
use Rattle.nll_types.specs.Structs.{put_in}
use Rattle.nll_types.specs.declared.ty.Ty.{Ty}
use Rattle.nll_types.specs.Views.{tree, trees, row_of_trees}
use Rattle.nll_types.proofs.FailLemmas.{failed}
use Rattle.nll_types.proofs.ViewLemmas.{tree_int, tree_parameter}
use Rattle.nll_types.proofs.PuttingLemmas.{argument_past, argument_view, put_all}
use Rattle.nll_types.proofs.substitution.+substitution.Goals as goal

pub put_in_all-returns : goal.put_in_all-returns
put_in_all-returns t c =
    let whole : c.loop-part.part-index ≡ length c.args.parts.now = omega arith in
    let i = rw (whole, take-length c.args.parts.now) at c.loop-part.invariant.0 in
    ap row_of_trees i ∙ put_all c.args.regions.now (trees c.args.types.now) c.args.parts.now

pub put_in-returns-in-Int : goal.put_in-returns-in-Int
put_in-returns-in-Int t c = rw (ap tree c.in-Int.is ∙ tree_int) tree_int

pub put_in_all-returns-in_err-put : goal.put_in_all-returns-in_err-put
put_in_all-returns-in_err-put t c = failed c.from_residual.result _ _ c.from_residual.ensures.1

pub put_in_all-returns-in_err-put_in : goal.put_in_all-returns-in_err-put_in
put_in_all-returns-in_err-put_in t c =
    failed c.from_residual-in_err-put_in.result _ _ c.from_residual-in_err-put_in.ensures.1

pub put_in_all-push_reserved-requires : goal.put_in_all-push_reserved-requires
put_in_all-push_reserved-requires t c = omega arith

pub put_in_all-loop-part-preserved : goal.put_in_all-loop-part-preserved
put_in_all-loop-part-preserved t c =
    let pushed = c.push_reserved.ensures in
    let put = λ (part : Ty). put_in c.args.regions.now (trees c.args.types.now) (tree part) in (
      rw pushed.items (map_push tree _ _ ∙ (ap (λ z. z ++ tree c.in_ok-put_in.field-0 ∷ []) c.loop-part.invariant.0
          ∙ (ap (λ z. map put (take c.loop-part.part-index c.args.parts.now) ++ z ∷ [])
          (c.in_ok-put_in.ensures ∙ ap put c.part-item.is)
          ∙ sym (map_more put c.args.parts.now c.loop-part.part-index c.part-item.result c.loop-part-test.true)))),
      omega arith,
      omega arith,
    )

pub put_in-returns-in-Some : goal.put_in-returns-in-Some
put_in-returns-in-Some t c =
    let there = c.in-Some.ensures.lookup in
    rw (ap tree c.in-Parameter.is ∙ tree_parameter _) (IfOk-weaker c.copy.result _ _
    (λ u e. e ∙ ap tree there.1 ∙ argument_view c.args.types.now _ c.in-Some.ty.now there.3.0) c.copy.ensures)

pub put_in-returns-in-None : goal.put_in-returns-in-None
put_in-returns-in-None t c = rw (ap tree c.in-Parameter.is ∙ tree_parameter _)
    (tree_int ∙ argument_past c.args.types.now _ c.in-None.ensures.lookup.3)
