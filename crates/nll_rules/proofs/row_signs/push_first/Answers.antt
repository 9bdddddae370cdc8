use Rattle.std.proofs.Common.{◌≡◌, ◌+◌, ◌∙◌, ◌∷◌, ◌++◌, [], ℕ, ap, arith, length, length-append, get_or}
use Rattle.nll_types.specs.Declarations.{structs_of}
use Rattle.nll_types.specs.Shapes.{Shape}
use Rattle.nll_types.specs.Table.{at, shapes_in}
use Rattle.nll_rules.specs.Signs.{part_sign}
use Rattle.nll_rules.specs.TypeRows.{row_length}
use Rattle.nll_rules.proofs.RowSignLemmas.{all_signs_more, appended_more, signs_length, starts_step}
use Rattle.nll_rules.proofs.row_signs.push_first.Goals as goal

pub loop-place-preserved : goal.loop-place-preserved
loop-place-preserved c =
    let structs = structs_of c.args.structs.now in
    let known = shapes_in c.args.shapes.now in
    let is = c.args.parts.now in
    let k = c.loop-place.place in
    let part : Shape = at known (get_or is k 0) in
    let before = c.loop-place.made.signs in
    let begun : c.len.result ≡ length before.items = c.len.ensures ∙ before.ok.0 in
    let count : length c.push_signs.new.signs.items ≡ length before.items + row_length part =
    ap length c.in_ok-push_signs.ensures
    ∙ omega (arith, length-append before.items, signs_length structs c.at.result part) in
    record {
      signs = appended_more _ _ _ _ _ _ c.loop-place.invariant.signs (rw c.at.ensures at c.in_ok-push_signs.ensures)
          (all_signs_more structs known (part_sign c.args.kinds) is k 0 c.loop-place-test.true);
      starts = starts_step known c.loop-place.made.starts.items _ _ _ _ k 0 is c.loop-place-test.true
          (c.in_ok-push.ensures.items ∙ ap (λ (n : ℕ). c.loop-place.made.starts.items ++ n ∷ []) begun) count
          c.loop-place.invariant.starts;
    }
