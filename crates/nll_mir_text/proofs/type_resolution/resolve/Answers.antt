use Rattle.std.proofs.Common.{◌≡◌, true, ◌&&◌, [], length, refl, reverse, sym, ap, ◌∙◌, arith}
use Rattle.std.proofs.Math.Seq.{drop-append_seam}
use Rattle.std.proofs.lemmas.List.{append-nil, length-append}
use Rattle.nll_types.specs.Rows.{region_row}
use Rattle.nll_types.specs.Shapes.{shape_of}
use Rattle.nll_types.specs.declared.body_types.BodyTypes.{BodyTypes}
use Rattle.nll_mir_grammar.specs.TypeTexts.{written}
use Rattle.nll_mir_text.specs.Naming.{meant}
use Rattle.nll_mir_text.specs.Resolution.{scope_of}
use Rattle.nll_mir_text.specs.Resolving.{IsOf, ResolvingState, newest_type, no_regions_after}
use Rattle.nll_mir_text.specs.declared.type_resolution.Resolving.{Resolving}
use Rattle.nll_mir_text.proofs.ResolvedTypeLemmas.{type_done}
use Rattle.nll_mir_text.proofs.type_resolution.resolve.Goals as goal

-- nothing is resolved yet
fresh : (types : BodyTypes) (kept : Resolving) → kept.shapes.items ≡ [] → kept.rows.items ≡ [] → kept.fits ≡ true
    → IsOf (no_regions_after types.regions.items) types kept
fresh types kept shapes rows fits = record {
  shapes = rw shapes record { counted = refl; each = λ k l. absurd (omega (arith, l)) };
  regions = refl;
  rows = ap reverse rows;
  known = refl;
  fits = fits;
}

pub returns-in_default-clause-adds : goal.returns-in_default-clause-adds
returns-in_default-clause-adds c =
    let rs = c.args.types.now.regions.items in
    let done = type_done (scope_of c.args.scope.now) c.pieces.result.now c.args.text.now rs c.pieces.ensures.value
    c.pieces.ensures.sound in
    let begun = fresh c.args.types.now (record { shapes = c.clear.new.self; rows = c.clear-2.new.self; fits = true })
    c.clear.ensures.items c.clear-2.ensures.items refl in
    record {
      table = c.resolve_pieces-told.ensures.grows;
      regions = c.in_ok-shape.ensures.kept (no_regions_after rs) rs begun done.1;
    }

pub returns-in_default-clause-resolved : goal.returns-in_default-clause-resolved
returns-in_default-clause-resolved c =
    let rs = c.args.types.now.regions.items in
    let done = type_done (scope_of c.args.scope.now) c.pieces.result.now c.args.text.now rs c.pieces.ensures.value
    c.pieces.ensures.sound in
    let begun = fresh c.args.types.now (record { shapes = c.clear.new.self; rows = c.clear-2.new.self; fits = true })
    c.clear.ensures.items c.clear-2.ensures.items refl in
    sym (ap (λ (st : ResolvingState). st.known) done.0)
    ∙ rw c.in_default.is at (c.in_ok-shape.ensures.shape (no_regions_after rs) begun)

pub returns : goal.returns
returns c =
    let s = scope_of c.args.scope.now in
    let rs = c.args.types.now.regions.items in
    let t = written c.args.text.now in
    let row = region_row (meant s t) in
    let done = (type_done s c.pieces.result.now c.args.text.now rs c.pieces.ensures.value c.pieces.ensures.sound).0 in
    let begun = fresh c.args.types.now (record { shapes = c.clear.new.self; rows = c.clear-2.new.self; fits = true })
    c.clear.ensures.items c.clear-2.ensures.items refl in
    let made = rw c.in-Some.is at (c.in_ok-shape.ensures.shape (no_regions_after rs) begun) in
    let regions = made.regions ∙ ap (λ (st : ResolvingState). st.regions) done in
    let first : c.len-first.result ≡ length rs = omega (arith, c.len-first.ensures) in
    record {
      adds = record { table = c.resolve_pieces-told.ensures.grows; regions = (row, regions) };
      fits = ap (λ f. c.args.fits.now && f) (made.fits ∙ ap (λ (st : ResolvingState). st.fits) done);
      resolved = record {
        known = sym (ap (λ (st : ResolvingState). st.known) done) ∙ made.known;
        typed = record {
          within = rw c.in-Some.is at c.in_ok-shape.ensures.within;
          begun = omega (arith, first, ap length regions, length-append rs row);
          shape = made.shape ∙ ap (λ (st : ResolvingState). shape_of (newest_type st.made)) done;
          row = ([], rw (first, regions) (drop-append_seam rs row ∙ sym (append-nil row)));
        };
      };
    }
