use Rattle.std.proofs.Common.{ap}
use Rattle.nll_types.specs.Shapes.{function_shape, shapes_of}
use Rattle.nll_types.specs.Types.{function}
use Rattle.nll_mir_text.specs.Resolving.{newest_type, all_but_last, types_inside}
use Rattle.nll_mir_text.proofs.ShapedLemmas.{both_ok, older_taken, piece_done, shaped_kept}
use Rattle.nll_mir_text.proofs.type_resolution.put_function.Goals as goal

pub returns-clause-made : goal.returns-clause-made
returns-clause-made c =
    let old = c.args.types.now.table.shapes in
    let shapes = c.pop.new.table.shapes in
    let kept = c.args.made.now.shapes.items in
    both_ok c.put_row.result (λ below told. λ s. piece_done s _ _ _ _ _ below (λ st a.
    let rest = record st { made = all_but_last st.made } in
    told rest (function (types_inside rest) (newest_type st.made)) (record {
      shapes = older_taken shapes st.made kept c.pop.new.made.items
          (shaped_kept old shapes st.made kept c.pop.ensures.grows.extends c.requires.below a.shapes)
          c.pop.ensures.older;
      regions = a.regions;
      rows = a.rows;
      known = a.known;
      fits = a.fits;
    }) (ap (function_shape (shapes_of (types_inside rest))) (c.in_ok-output.ensures.newest st.made a.shapes))))
    c.put_row.ensures.below c.put_row.ensures.made
