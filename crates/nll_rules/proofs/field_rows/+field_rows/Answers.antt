use Rattle.std.proofs.Common.{◌≡◌, ◌+◌, ◌≤◌, ◌++◌, ◌∷◌, [], ◌∙◌, ℕ, List, ap, sym, length, map, take, arith}
use Rattle.std.proofs.lemmas.List.{take_all, take_more}
use Rattle.std.proofs.lemmas.Result.{on_ok_weaker}
use Rattle.nll_types.specs.Rows.{region_rows}
use Rattle.nll_types.specs.Structs.{put_in_all, region_in}
use Rattle.nll_types.specs.Views.{tree, trees}
use Rattle.nll_types.specs.declared.ty.Ty.{Ty}
use Rattle.nll_types.proofs.ViewLemmas.{tree_tuple, tree_named, tree_function}
use Rattle.nll_rules.specs.TypeRows.{row_from}
use Rattle.nll_rules.proofs.FieldLemmas.{row_joined, rows_more}
use Rattle.nll_rules.proofs.field_rows.+field_rows.Goals as goal

pub push_field-returns-in-Tuple : goal.push_field-returns-in-Tuple
push_field-returns-in-Tuple t c =
    rw (ap tree c.in-Tuple.is ∙ tree_tuple _) (rw c.as_slice.ensures.value at c.push_fields.ensures)

pub push_field-returns-in_ok-push_fields-in-Named : goal.push_field-returns-in_ok-push_fields-in-Named
push_field-returns-in_ok-push_fields-in-Named t c =
    let own = c.in-Named.regions.items in
    let parts = rw c.as_slice-in-Named.ensures.value at c.in_ok-push_fields-in-Named.ensures in
    let regions = rw c.as_slice-in-Named-2.ensures.value at c.push_regions.ensures in
    rw (ap tree c.in-Named.is ∙ tree_named _ _ _)
    (on_ok_weaker c.push_regions.result (λ e row rs ts h. row_joined _ _ _ _ _ (parts row rs ts h)
    (rw (ap (λ (qs : List ℕ). map (region_in qs) own) h.regions) at (e row h.counted))) regions)

pub push_field-returns-in_ok-push_fields-in-Function : goal.push_field-returns-in_ok-push_fields-in-Function
push_field-returns-in_ok-push_fields-in-Function t c =
    let inputs = rw c.as_slice-in-Function.ensures.value at c.in_ok-push_fields-in-Function.ensures in
    let output = rw c.deref-in-Function.ensures at c.push_field-in-Function.ensures in
    rw (ap tree c.in-Function.is ∙ tree_function _ _)
    (on_ok_weaker c.push_field-in-Function.result
    (λ e row rs ts h. row_joined _ _ _ _ _ (inputs row rs ts h) (e row rs ts h)) output)

pub push_fields-loop-part-preserved : goal.push_fields-loop-part-preserved
push_fields-loop-part-preserved t c =
    let parts = c.args.parts.now in
    let before = take c.loop-part.part-index parts in
    let one : take (c.loop-part.part-index + 1) parts ≡ before ++ c.part-item.result ∷ [] =
    take_more parts c.loop-part.part-index c.part-item.result c.loop-part-test.true
    ∙ ap (λ (p : Ty). before ++ p ∷ []) (sym c.part-item.is) in
    λ row rs ts h.
    row_joined _ _ _ _ _ (c.loop-part.invariant row rs ts h) (c.in_ok-push_field.ensures row rs ts h)
    ∙ ap (λ (qs : List ℕ). row_from row c.args.template.now.items ++ qs)
    (sym (rows_more rs ts before c.part-item.result)
    ∙ ap (λ (ps : List Ty). region_rows (put_in_all rs ts (trees ps))) (sym one))

pub push_fields-returns : goal.push_fields-returns
push_fields-returns t c =
    let past : length c.args.parts.now ≤ c.loop-part.part-index = omega arith in
    rw (take_all c.loop-part.part-index c.args.parts.now past) at c.loop-part.invariant
