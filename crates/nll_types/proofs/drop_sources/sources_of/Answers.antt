use Rattle.std.proofs.Common.{◌≡◌, ◌⊎◌, ◌∙◌, ◌++◌, ◌∷◌, [], List, ℕ, subst, sym, true}
use Rattle.std.proofs.lemmas.Bool.{false≢true}
use Rattle.std.proofs.lemmas.List.{length-map}
use Rattle.nll_types.specs.Collecting.{IsInKept, IsKeptRegion}
use Rattle.nll_types.specs.Declarations.{declared, structs_of}
use Rattle.nll_types.specs.Sources.{AddsSources, AreSourcesOf}
use Rattle.nll_types.specs.Structs.{Struct}
use Rattle.nll_types.proofs.DeclareLemmas.{sources_declared}
use Rattle.nll_types.proofs.DropLemmas.{adds_as, adds_nothing, adds_then}
use Rattle.nll_types.proofs.drop_sources.sources_of.Goals.{then-declaration+in_ok-collect_kept_regions+in_ok-collect_kept_types, else-declaration}
use Rattle.nll_types.proofs.drop_sources.sources_of.Goals as goal

pub returns : goal.returns
returns c =
    let d = c.args.declaration.now in
    let own : (all : List Struct) → AddsSources all (λ rs ts r. (d.has_drop ≡ true)
    × (IsKeptRegion d.regions.items rs ts r ⊎ IsInKept d.types.items rs ts r)) c.new-out.result.keys
    c.if-declaration.out.keys = elim c.if-declaration.branch [
      | then-declaration+in_ok-collect_kept_regions+in_ok-collect_kept_types w ↦ λ all.
          let first = rw w.as_slice.ensures.value at w.in_ok-collect_kept_regions.ensures in
          let second = rw w.as_slice-then-declaration.ensures.value at w.in_ok-collect_kept_types.ensures in
          rw w.out-is (adds_as all _ _ _ _ (λ rs ts r h. (w.if-declaration.true, h)) (λ rs ts r h. h.1)
          (adds_then all _ _ _ _ _ (first all) (second all)))
      | else-declaration w ↦ λ all.
          rw w.out-is (adds_nothing all _ _ (λ rs ts r h. false≢true (sym w.if-declaration.false ∙ h.0)))
    ] in
    let first = rw c.new-out.ensures.empty at own in
    let second = rw c.as_slice-fields.ensures.value at c.in_ok-collect_parts.ensures in
    subst (λ (n : ℕ). AreSourcesOf
    (structs_of c.args.structs.now ++ declared c.args.declaration.now ∷ []) n c.collect_parts.new.out.keys)
    (length-map c.args.structs.now declared)
    (sources_declared (structs_of c.args.structs.now) (declared c.args.declaration.now) _ _ first
    (λ later. second later _ _ c.requires.fields))
