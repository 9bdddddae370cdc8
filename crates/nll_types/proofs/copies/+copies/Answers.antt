use Rattle.std.proofs.Common.{◌≤◌, ◌++◌, ◌∷◌, [], ◌∙◌, ap, sym, map, take, length, arith}
use Rattle.std.proofs.lemmas.List.{map_push, map_more, take_all}
use Rattle.nll_types.specs.Views.{tree}
use Rattle.nll_types.proofs.copies.+copies.Goals as goal

pub copy-returns-in-Int : goal.copy-returns-in-Int
copy-returns-in-Int t c = ap tree (sym c.in-Int.is)

pub copy-returns-in-Parameter : goal.copy-returns-in-Parameter
copy-returns-in-Parameter t c = ap tree (sym c.in-Parameter.is)

pub copy_all-push_reserved-requires : goal.copy_all-push_reserved-requires
copy_all-push_reserved-requires t c = omega arith

pub copy_all-loop-ty-preserved : goal.copy_all-loop-ty-preserved
copy_all-loop-ty-preserved t c =
    let pushed = c.push_reserved.ensures in (
      rw pushed.items (map_push tree _ _ ∙ (ap (λ z. z ++ tree c.in_ok-copy.field-0 ∷ []) c.loop-ty.invariant.0
          ∙ (ap (λ z. map tree (take c.loop-ty.ty-index c.args.types.now) ++ z ∷ [])
          (c.in_ok-copy.ensures ∙ ap tree c.ty-item.is)
          ∙ sym (map_more tree c.args.types.now c.loop-ty.ty-index c.ty-item.result c.loop-ty-test.true)))),
      omega arith,
      omega arith,
    )

pub copy_all-returns : goal.copy_all-returns
copy_all-returns t c =
    let past : length c.args.types.now ≤ c.loop-ty.ty-index = omega arith in
    rw (take_all c.loop-ty.ty-index c.args.types.now past) at c.loop-ty.invariant.0
