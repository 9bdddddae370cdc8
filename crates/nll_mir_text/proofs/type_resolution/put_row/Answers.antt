use Rattle.std.proofs.Common.{◌≡◌, ap, arith, drop, length, min, sym, take, ◌-◌, ◌∙◌}
use Rattle.std.proofs.Math.Seq.{take-length}
use Rattle.std.proofs.lemmas.List.{drop_min, length-drop, take_min}
use Rattle.std.proofs.lemmas.Result.{on_ok_weaker}
use Rattle.nll_types.specs.Table.{shapes_in}
use Rattle.nll_mir_text.specs.Resolving.{shape_with, starts, without_row}
use Rattle.nll_mir_text.proofs.ShapedLemmas.{front_taken, row_taken, shaped_kept}
use Rattle.nll_mir_text.proofs.type_resolution.put_row.Goals as goal

pub returns-clause-made : goal.returns-clause-made
returns-clause-made c =
    let old = c.args.types.now.table.shapes in
    let shapes = c.number_of.new.table.shapes in
    let kept = c.args.made.now.shapes.items in
    let n = c.newest_row-newest.result.types in
    let p = c.min-start.result in
    let counted : c.len.result ≡ length kept = omega (arith, c.len.ensures, c.args.made.now.shapes.ok.0) in
    let start : p ≡ min n (length kept) = c.min-start.ensures ∙ ap (min n) counted in
    let xs = c.as_slice-2.result.now in
    let parts : take (length xs - p) (drop p xs) ≡ drop n kept =
    rw c.as_slice-2.ensures.value (ap (λ k. take k (drop p kept)) (sym (length-drop p kept))
    ∙ (take-length (drop p kept) ∙ (ap (λ k. drop k kept) start ∙ drop_min n kept))) in
    on_ok_weaker c.put_shape.result (λ told. λ st t a e.
    let first : n ≡ (starts st.rows).0 = cc in
    let row = row_taken old n _ st.made kept _ a.shapes parts first in
    told (without_row st) t (record {
      shapes = front_taken shapes n _ st.made kept c.truncate.new.self.items
          (shaped_kept old shapes st.made kept c.number_of.ensures.grows.extends c.requires.below a.shapes)
          (c.truncate.ensures.items ∙ (ap (λ k. take k kept) start ∙ take_min n kept)) first;
      regions = a.regions;
      rows = cc;
      known = a.known;
      fits = a.fits;
    }) (c.in_ok-target.ensures.at ∙ (ap (shape_with (shapes_in old) c.args.head) row ∙ e)))
    c.put_shape.ensures.made
