use Rattle.std.proofs.Common.{◌∙◌}
use Rattle.nll_body.specs.declared.flat.FlatCall.{FlatCall}
use Rattle.nll_body.proofs.FlatLemmas.{grows_further, places_grow}
use Rattle.nll_mir_text.specs.Resolution.{scope_of}
use Rattle.nll_mir_text.proofs.CallLemmas.{arguments_later, arguments_unknown, bounds_unknown, call_fits, call_parts, call_resolved, result_unknown}
use Rattle.nll_mir_text.proofs.ResolvedLemmas.{adds_then, flat_of}
use Rattle.nll_mir_text.proofs.resolution.resolve_call.Goals as goal

pub returns-in_default-clause-made : goal.returns-in_default-clause-made
returns-in_default-clause-made c =
    bounds_unknown (scope_of c.args.scope.now) c.args.call.now
    (rw (c.in_default.is, c.as_slice.ensures.value) at c.in_ok-wheres.ensures.made)

pub returns-in_err-arguments-clause-grows : goal.returns-in_err-arguments-clause-grows
returns-in_err-arguments-clause-grows c =
    grows_further _ _ _ (grows_further _ _ _ (places_grow _ _ c.in_ok-place.ensures.places)
    c.in_ok-wheres.ensures.grows) c.resolve_arguments.ensures.grows

pub returns-in_default-2-clause-grows : goal.returns-in_default-2-clause-grows
returns-in_default-2-clause-grows c =
    grows_further _ _ _ (grows_further _ _ _ (places_grow _ _ c.in_ok-place.ensures.places)
    c.in_ok-wheres.ensures.grows) c.resolve_arguments.ensures.grows

pub returns-in_default-2-clause-made : goal.returns-in_default-2-clause-made
returns-in_default-2-clause-made c =
    arguments_unknown (scope_of c.args.scope.now) c.args.call.now
    (rw (c.in_default-2.is, c.as_slice-inputs.ensures.value) at c.in_ok-arguments.ensures.made)

pub returns-in_err-result-clause-grows : goal.returns-in_err-result-clause-grows
returns-in_err-result-clause-grows c =
    grows_further _ _ _ (grows_further _ _ _ (places_grow _ _ c.in_ok-place.ensures.places)
    c.in_ok-wheres.ensures.grows) c.resolve_arguments.ensures.grows

pub returns-in_default-3-clause-grows : goal.returns-in_default-3-clause-grows
returns-in_default-3-clause-grows c =
    grows_further _ _ _ (grows_further _ _ _ (places_grow _ _ c.in_ok-place.ensures.places)
    c.in_ok-wheres.ensures.grows) c.resolve_arguments.ensures.grows

pub returns-in_default-3-clause-made : goal.returns-in_default-3-clause-made
returns-in_default-3-clause-made c =
    result_unknown (scope_of c.args.scope.now) c.args.call.now
    (rw c.in_default-3.is at c.in_ok-result.ensures.resolved)

pub returns-in_err-add_call-clause-grows : goal.returns-in_err-add_call-clause-grows
returns-in_err-add_call-clause-grows c =
    grows_further _ _ _ (grows_further _ _ _ (grows_further _ _ _ (places_grow _ _ c.in_ok-place.ensures.places)
    c.in_ok-wheres.ensures.grows) c.resolve_arguments.ensures.grows) c.add_call.ensures.grows

pub add_call-requires : goal.add_call-requires
add_call-requires c =
    let bounds = rw (c.in-Some.is, c.as_slice.ensures.value) at c.in_ok-wheres.ensures.made in
    let arguments = rw (c.in-Some-2.is, c.as_slice-inputs.ensures.value) at c.in_ok-arguments.ensures.made in
    let call : FlatCall = record {
      place = c.in_ok-place.place;
      arguments = c.in-Some-2.arguments;
      result = c.in-Some-3.result;
      wheres = c.in-Some.wheres;
      target = c.args.call.now.target;
      unwind = c.args.call.now.unwind;
    } in
    (call_parts _ _ _ call _ _ _ c.in_ok-place.ensures.within c.in_ok-wheres.ensures.grows
    c.in_ok-arguments.ensures.grows c.in_ok-place.ensures.number bounds.1 arguments.2).0

pub returns-clause-adds : goal.returns-clause-adds
returns-clause-adds c = adds_then _ _ _ c.in_ok-arguments.ensures.adds c.in_ok-result.ensures.adds

pub returns-clause-grows : goal.returns-clause-grows
returns-clause-grows c =
    grows_further _ _ _ (grows_further _ _ _ (grows_further _ _ _ (places_grow _ _ c.in_ok-place.ensures.places)
    c.in_ok-wheres.ensures.grows) c.resolve_arguments.ensures.grows) c.add_call.ensures.grows

pub returns-clause-made : goal.returns-clause-made
returns-clause-made c =
    let s = scope_of c.args.scope.now in
    let bounds = rw (c.in-Some.is, c.as_slice.ensures.value) at c.in_ok-wheres.ensures.made in
    let arguments = rw (c.in-Some-2.is, c.as_slice-inputs.ensures.value) at c.in_ok-arguments.ensures.made in
    let result = rw c.in-Some-3.is at c.in_ok-result.ensures.resolved in
    let flat = c.in_ok-add_call.ensures.flat in
    flat_of s _ _ _ _ _
    (call_resolved s c.args.call.now _ arguments.0 c.in-Some-3.result bounds.0
    (arguments_later _ _ c.in_ok-result.ensures.adds s _ arguments.0 arguments.1) result) (
      flat.0,
      flat.1 ∙ (call_parts _ _ _ _ _ _ _ c.in_ok-place.ensures.within c.in_ok-wheres.ensures.grows
          c.in_ok-arguments.ensures.grows c.in_ok-place.ensures.number bounds.1 arguments.2).1,
    )

pub returns-clause-fits : goal.returns-clause-fits
returns-clause-fits c =
    let arguments = rw (c.in-Some-2.is, c.as_slice-inputs.ensures.value) at c.in_ok-arguments.ensures.made in
    call_fits (scope_of c.args.scope.now) c.args.call.now c.args.fits.now _ _ arguments.3
    (rw c.in-Some-3.is at c.in_ok-result.ensures.fits)
