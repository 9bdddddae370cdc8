use Rattle.std.proofs.Common.{◌∙◌, ap, refl, length, arith, ◌<◌}
use Rattle.std.proofs.lemmas.Option.{slice_get_read}
use Rattle.indexmap.proofs.MapLemmas.{OnOk-map}
use Rattle.nll_types.proofs.FailLemmas.{failed}
use Rattle.nll_types.specs.Types.{type_at}
use Rattle.nll_types.specs.Views.{tree, trees}
use Rattle.nll_types.specs.Declarations.{structs_of}
use Rattle.nll_types.proofs.ViewLemmas.{type_at_item, type_within, tree_int, tree_parameter, tree_reference, tree_tuple, tree_named, tree_function}
use Rattle.nll_types.proofs.WellFormedLemmas.{well_formed_at}
use Rattle.nll_types.proofs.DropLemmas.{adds_nothing, adds_then, below_none, below_more, below_all, wanted_int, wanted_reference, wanted_tuple, wanted_named, wanted_function, wanted_flags, written_flag}
use Rattle.nll_types.proofs.drop_search.+drop_search.Goals as goal

pub collect-returns-in-Int : goal.collect-returns-in-Int
collect-returns-in-Int t c =
    λ later n p. rw (ap tree c.in-Int.is ∙ tree_int) (λ w. adds_nothing _ _ _ (wanted_int _ _ _))

pub collect-returns-in_ok-add_where-in-Parameter : goal.collect-returns-in_ok-add_where-in-Parameter
collect-returns-in_ok-add_where-in-Parameter t c = OnOk-map c.add_where-in-Parameter.result _ _ (λ e. λ later n p.
    rw (ap tree c.in-Parameter.is ∙ tree_parameter _)
    (λ w. adds_then _ _ _ _ _ _ (c.in_ok-add_where-in-Parameter.ensures _) (e _))) c.add_where-in-Parameter.ensures

pub collect-returns-in_ok-add_where-in-Reference : goal.collect-returns-in_ok-add_where-in-Reference
collect-returns-in_ok-add_where-in-Reference t c =
    let inner = rw c.deref.ensures at c.collect.ensures in
    OnOk-map c.collect.result _ _ (λ e. λ later n p.
    rw (ap tree c.in-Reference.is ∙ tree_reference _ _ _)
    (λ w. wanted_reference _ _ _ _ _ _ _ _ _ (c.in_ok-add_where-in-Reference.ensures _) (e later n p w.1))) inner

pub collect-returns-in-Tuple : goal.collect-returns-in-Tuple
collect-returns-in-Tuple t c =
    let inner = rw c.as_slice.ensures.value at c.collect_parts.ensures in
    OnOk-map c.collect_parts.result _ _ (λ e. λ later n p.
    rw (ap tree c.in-Tuple.is ∙ tree_tuple _) (λ w. wanted_tuple _ _ _ _ _ _ (e later n p w))) inner

pub collect-returns-in_ok-collect_sources-in-Named : goal.collect-returns-in_ok-collect_sources-in-Named
collect-returns-in_ok-collect_sources-in-Named t c =
    let first = rw c.as_slice-in-Named.ensures.value at c.in_ok-collect_regions-in-Named.ensures in
    let second =
    rw (c.as_slice-in-Named-2.ensures.keys, c.as_slice-in-Named-3.ensures.value) at
    c.in_ok-collect_sources-in-Named.ensures in
    let third = rw c.as_slice-in-Named-4.ensures.value at c.collect_arguments.ensures in
    OnOk-map c.collect_arguments.result _ _ (λ e. λ later n p.
    rw (ap tree c.in-Named.is ∙ tree_named _ _ _) (λ w.
    wanted_named (structs_of c.args.structs.now) later c.in-Named.number c.in-Named.regions.items
    (trees c.in-Named.types.items) c.in-Some.sources.now.keys c.args.written c.args.dropped
    c.in-Some.ensures w.1 _ _ _ (adds_then _ _ _ _ _ _ (first _) (second _)) (e later n p w.4))) third

pub collect-returns-in_ok-collect_parts-in-Function : goal.collect-returns-in_ok-collect_parts-in-Function
collect-returns-in_ok-collect_parts-in-Function t c =
    let first = rw c.as_slice-in-Function.ensures.value at c.in_ok-collect_parts-in-Function.ensures in
    let last = rw c.deref-in-Function.ensures at c.collect-in-Function.ensures in
    OnOk-map c.collect-in-Function.result _ _ (λ e. λ later n p.
    rw (ap tree c.in-Function.is ∙ tree_function _ _)
    (λ w. wanted_function _ _ _ _ _ _ _ _ (first later n p w.0) (e later n p w.1))) last

pub collect-returns-in_err-collect_parts-in-Function : goal.collect-returns-in_err-collect_parts-in-Function
collect-returns-in_err-collect_parts-in-Function t c =
    failed c.from_residual-in_err-collect_parts-in-Function.result _ _
    c.from_residual-in_err-collect_parts-in-Function.ensures.1

pub collect_parts-returns-in_err-collect : goal.collect_parts-returns-in_err-collect
collect_parts-returns-in_err-collect t c = failed c.from_residual.result _ _ c.from_residual.ensures.1

pub collect_arguments-returns-in_err-collect : goal.collect_arguments-returns-in_err-collect
collect_arguments-returns-in_err-collect t c = failed c.from_residual.result _ _ c.from_residual.ensures.1

pub collect_parts-loop-part-init : goal.collect_parts-loop-part-init
collect_parts-loop-part-init t c = λ later n p w. below_none _ _ _ _

pub collect_arguments-loop-place-init : goal.collect_arguments-loop-place-init
collect_arguments-loop-place-init t c = λ later n p w. below_none _ _ _ _

pub collect_parts-loop-part-preserved : goal.collect_parts-loop-part-preserved
collect_parts-loop-part-preserved t c = λ later n p w.
    let item =
    type_at_item c.args.parts.now c.loop-part.part-index c.part-item.result
    (slice_get_read c.args.parts.now _ c.loop-part.part-index c.part-item.result refl c.loop-part-test.true
    c.part-item.is) in
    below_more _ (type_at (trees c.args.parts.now)) _ c.loop-part.part-index (tree c.part-item.result) _ _ _ item
    (c.loop-part.invariant later n p w)
    (c.in_ok-collect.ensures later n p (well_formed_at _ n p _ c.loop-part.part-index _ w item))

pub collect_parts-returns : goal.collect_parts-returns
collect_parts-returns t c = λ later n p w.
    below_all _ (type_at (trees c.args.parts.now)) _ c.loop-part.part-index _ _
    (λ k u e. (let l = type_within c.args.parts.now k u e in omega arith)) (c.loop-part.invariant later n p w)

pub collect_arguments-loop-place-preserved : goal.collect_arguments-loop-place-preserved
collect_arguments-loop-place-preserved t c = λ later n p w.
    let within : c.loop-place.place < length c.args.arguments.now = omega arith in
    let item =
    type_at_item c.args.arguments.now c.loop-place.place _
    (slice_get_read c.args.arguments.now _ c.loop-place.place _ refl within c.index-arguments-place.is) in
    below_more _ (type_at (trees c.args.arguments.now)) _ c.loop-place.place _ _ _ _ item
    (c.loop-place.invariant later n p w)
    (wanted_flags _ _ _ _ _ _ _ _ (written_flag _ _ _ _ c.wants.ensures) c.wants-dropped.ensures
    (c.in_ok-collect.ensures later n p (well_formed_at _ n p _ c.loop-place.place _ w item)))

pub collect_arguments-returns : goal.collect_arguments-returns
collect_arguments-returns t c = λ later n p w.
    below_all _ (type_at (trees c.args.arguments.now)) _ c.loop-place.place _ _
    (λ k u e. (let l = type_within c.args.arguments.now k u e in omega arith)) (c.loop-place.invariant later n p w)
