use Rattle.std.proofs.Common.{◌≡◌, length, Some, slice_get, ap, subst, sym, ◌∙◌, arith}
use Rattle.std.specs.Prelude.{option_and_then, option_map}
use Rattle.nll_types.specs.Places.{behind_all, path_of}
use Rattle.nll_types.specs.Views.{tree}
use Rattle.nll_body.proofs.body.Body.place_type.Goals as goal

pub returns-clause-well_formed : goal.returns-clause-well_formed
returns-clause-well_formed c =
    let body = c.args.self.now in
    let sound = c.points.ensures.sound in
    let path = path_of c.args.place.now in
    let there = subst (λ x. slice_get body.variables x ≡ Some (tree c.in_ok-ty.ty)) c.variable.ensures
    c.in_ok-ty.ensures.value in
    let found = rw c.projections.ensures at (rw c.structs.ensures at c.in_ok-ty-2.ensures) in
    c.types_of_places_are_well_formed.ensures body.structs sound.in_order (length body.names) 0
    (omega (arith, sound.some_universal, sound.all_universals)) body.variables sound.types path (tree c.in-Some.ty)
    (ap (option_and_then (behind_all body.structs path.projections)) there ∙ sym found
    ∙ ap (option_map tree) c.in-Some.is)
