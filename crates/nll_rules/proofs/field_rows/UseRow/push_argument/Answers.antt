use Rattle.std.proofs.Common.{◌≡◌, ◌+◌, ◌++◌, ◌∙◌, List, ℕ, ap, append-nil, arith, drop, length, sym, take}
use Rattle.std.specs.Prelude.{min, slice_index_or}
use Rattle.nll_rules.specs.TypeRows.{row_from}
use Rattle.nll_rules.proofs.FieldLemmas.{none_from, row_on, slice_between}
use Rattle.nll_rules.proofs.field_rows.UseRow.push_argument.Goals as goal

pub loop-place-init : goal.loop-place-init
loop-place-init c row count =
    let old = row_from row c.args.template.now.items in
    sym (append-nil old) ∙ ap (λ (xs : List ℕ). old ++ xs) (sym (none_from row c.min-from.result))

pub loop-place-preserved : goal.loop-place-preserved
loop-place-preserved c row count =
    row_on row _ _ _ c.min-from.result c.loop-place.place (omega arith) (omega arith) c.in_ok-push.ensures.items
    (c.loop-place.invariant row count)

pub returns : goal.returns
returns c row count =
    let u = c.args.self.now in
    let old = row_from row c.args.template.now.items in
    let at = c.loop-place.place in
    let from = slice_index_or u.starts.now c.args.parameter 0 in
    let next : c.saturating_add-next.result ≡ c.args.parameter + 1 = omega (arith, c.saturating_add-next.ensures) in
    let last : at ≡ min (slice_index_or u.starts.now c.saturating_add-next.result 0) (length row) =
    omega (arith, c.min-end.ensures) in
    let first : c.min-from.result ≡ min from at = omega (arith, c.min-from.ensures) in
    c.loop-place.invariant row count ∙ ap (λ (xs : List ℕ). old ++ xs) (slice_between row from _ _ at last first
    ∙ ap (λ (n : ℕ). drop from (take (slice_index_or u.starts.now n 0) row)) next)
