use Rattle.std.proofs.Common.{◌≡◌, Some, slice_get, ap, subst, sym, ◌∙◌}
use Rattle.std.specs.Prelude.{option_and_then, option_map}
use Rattle.nll_types.specs.Places.{behind_all, path_of}
use Rattle.nll_types.specs.Views.{tree}
use Rattle.nll_text_tests.proofs.body_types.write_place.Goals as goal

pub write_found-requires : goal.write_found-requires
write_found-requires g c =
    let body = c.args.body.now in
    let path = path_of c.args.place.now in
    let there = subst (λ x. slice_get body.variables x ≡ Some (tree c.in_ok-ty.ty))
    c.variable-variable.ensures (c.var_type.ensures.value ∙ sym (ap Some c.in_ok-ty.ensures)) in
    let found = rw c.projections.ensures at (rw c.structs.ensures at c.in_ok-ty-2.ensures) in (
      tree c.in-Some.ty,
      ap (option_and_then (behind_all body.structs path.projections)) there ∙ sym found
          ∙ ap (option_map tree) c.in-Some.is,
    )
