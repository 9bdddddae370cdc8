use Rattle.std.proofs.Common.{◌≡◌, ℕ, ◌-◌, ◌++◌, [], Bool, true, false, ap, length, map, refl, reverse, sym, take, ◌∙◌}
use Rattle.std.specs.Prelude.{◌&&◌, ◌||◌, slice_index_or}
use Rattle.nll_format.specs.Names.{number_of}
use Rattle.nll_types.specs.Shapes.{ShapeList, named_shape}
use Rattle.nll_types.specs.Types.{named, parameter}
use Rattle.nll_mir_text.specs.Naming.{is_name_among, same_kinds}
use Rattle.nll_mir_text.specs.Resolution.{scope_of}
use Rattle.nll_mir_text.specs.Resolving.{newest_arguments, is_region_entry, newest, others, regions_in, starts, types_inside}
use Rattle.nll_mir_text.proofs.RowLemmas.{behind_beginning}
use Rattle.nll_mir_text.proofs.ShapedLemmas.{front_taken, piece_done, shaped_kept}
use Rattle.nll_mir_text.proofs.type_resolution.put_named.Goals as goal

-- shapes of structs are the same where their parts are
same_named : (n m k l : ℕ) (ts us : ShapeList) → n ≡ m → k ≡ l → ts ≡ us → named_shape n k ts ≡ named_shape m l us
same_named n m k l ts us d e f = cc

none_known : (a b c : Bool) → b ≡ false → c ≡ false → (a && (b || c)) ≡ false
none_known true b c h k = rw (h, k) refl
none_known false b c h k = refl

pub returns-then-is_parameter-clause-made : goal.returns-then-is_parameter-clause-made
returns-then-is_parameter-clause-made c =
    let told_row = c.newest_row-row.ensures in
    let row = c.newest_row-row.result in
    let kept = c.args.made.now in
    let is = sym c.find-number.ensures.known ∙ c.if-is_parameter.true in
    let number = sym c.find-number.ensures.number in
    let behind = behind_beginning c.as_slice-2.result.now c.as_slice.result.now row.place
    (c.as_slice-2.ensures.value ∙ sym c.as_slice.ensures.value) told_row.newest in
    piece_done (scope_of c.args.scope.now) _ _ _ _ _ c.in_ok-put_shape.ensures.below (λ st a.
    let rows = ap reverse c.as_slice.ensures.value ∙ a.rows in
    let kinds = ap (map is_region_entry) (behind ∙ ap (λ ms. reverse (newest ms)) rows) in
    rw (is, number) (c.in_ok-put_shape.ensures.made _ (parameter c.find-number.result.0) (record {
      shapes = front_taken c.add.new.self.shapes row.types (starts st.rows).0 st.made
          kept.shapes.items c.truncate-then-is_parameter.new.self.items
          (shaped_kept c.args.types.now.table.shapes c.add.new.self.shapes st.made kept.shapes.items
          c.add.ensures.grows.extends c.requires.below a.shapes)
          c.truncate-then-is_parameter.ensures.items
          (told_row.types ∙ ap (λ ms. (starts ms).0) rows);
      regions = c.truncate-then-is_parameter-2.ensures.items ∙ cc;
      rows = ap reverse (c.truncate.ensures.items
          ∙ (ap (λ n. take n kept.rows.items) c.saturating_sub.ensures
          ∙ ap (take (row.place - 1)) (sym c.as_slice.ensures.value))) ∙ (told_row.others ∙ ap others rows);
      known = rw a.known refl;
      fits = cc;
    }) c.in_ok-target.ensures.at))

pub returns-then-not-known-clause-made : goal.returns-then-not-known-clause-made
returns-then-not-known-clause-made c = record {
  below = c.requires.below;
  made = λ e. absurd (cc);
  unknown = λ e st. none_known st.known _ _ (sym c.find-number.ensures.known ∙ c.if-is_parameter.false)
      (sym c.find-number-2.ensures.known ∙ c.if-not-known.true);
  same = λ e. refl;
}

pub returns-clause-made : goal.returns-clause-made
returns-clause-made c =
    let s = scope_of c.args.scope.now in
    let n = c.args.name.now in
    let other = sym c.find-number.ensures.known ∙ c.if-is_parameter.false in
    let behind = behind_beginning c.as_slice-2.result.now c.as_slice.result.now c.newest_row-row.result.place
    (c.as_slice-2.ensures.value ∙ sym c.as_slice.ensures.value) c.newest_row-row.ensures.newest in
    piece_done s _ _ _ _ _ c.in_ok-put_row.ensures.below (λ st a.
    let inside = behind ∙ ap (λ ms. reverse (newest ms)) (ap reverse c.as_slice.ensures.value ∙ a.rows) in
    let regions = ap regions_in inside in
    let kinds = ap (map is_region_entry) inside in
    let next = record st {
      regions = st.regions ++ regions_in (newest_arguments st);
      known = st.known && (false || is_name_among s.structs n);
      fits = st.fits
          && same_kinds (map is_region_entry (newest_arguments st)) (slice_index_or s.kinds (number_of s.structs n) []);
    } in
    rw other (c.in_ok-put_row.ensures.made next
    (named (number_of s.structs n) (regions_in (newest_arguments st)) (types_inside st)) (record {
      shapes = a.shapes;
      regions = c.in_ok-count.ensures.regions ∙ cc;
      rows = a.rows;
      known = cc;
      fits = cc;
    }) (same_named c.find-number-2.result.0 _ c.in_ok-count.count _ _ _ c.find-number-2.ensures.number
    (c.in_ok-count.ensures.count ∙ ap length regions) refl)))
