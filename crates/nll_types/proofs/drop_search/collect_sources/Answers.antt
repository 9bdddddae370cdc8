use Rattle.std.proofs.Common.{◌≡◌, ◌∙◌, ap, sym, refl, Some, arith}
use Rattle.std.specs.Prelude.{slice_get}
use Rattle.std.proofs.lemmas.Bool.{false≢true}
use Rattle.std.proofs.lemmas.Option.{slice_get_read, slice_get_within}
use Rattle.nll_types.specs.declared.source.Source.TheVariants.{Region}
use Rattle.nll_types.proofs.DropLemmas.{adds_nothing, adds_as, below_none, below_more, below_all}
use Rattle.nll_types.specs.Structs.{region_in}
use Rattle.nll_types.proofs.drop_search.collect_sources.Goals.{in-Region+in_ok-add, in_default}
use Rattle.nll_types.proofs.drop_search.collect_sources.Goals as goal

pub returns-then-not-wanted : goal.returns-then-not-wanted
returns-then-not-wanted c = λ all. adds_nothing all _ _ (λ rs ts r h. false≢true (sym c.if-not-wanted.true ∙ h.0))

pub loop-source-init : goal.loop-source-init
loop-source-init c = λ all. below_none all _ _ _

pub loop-source-preserved : goal.loop-source-preserved
loop-source-preserved c =
    let item = slice_get_read c.args.sources.now _ c.loop-source.source-index c.source-item.result refl
    c.loop-source-test.true c.source-item.is in
    elim c.match-source.branch [
      | in-Region+in_ok-add w ↦ rw w.out-is (λ all. below_more all (slice_get c.args.sources.now) _
          c.loop-source.source-index c.source-item.result _ _ _ item (c.loop-source.invariant all) (adds_as all _ _ _ _
          (λ rs ts r h. (w.in-Region.number, w.in-Region.is, ap (region_in rs) (sym w.region_in.ensures) ∙ h))
          (λ rs ts r h. (let e : w.in-Region.number ≡ h.0 = (let a = w.in-Region.is in let b = h.1 in cc) in
          ap (region_in rs) (w.region_in.ensures ∙ ap (region_in c.args.regions.now) e) ∙ h.2))
          (w.in_ok-add.ensures all)))
      | in_default w ↦ rw w.out-is (λ all. below_more all (slice_get c.args.sources.now) _
          c.loop-source.source-index c.source-item.result _ _ _ item (c.loop-source.invariant all)
          (adds_nothing all _ _ (λ rs ts r h. w.in_default.not-Region h.0 h.1)))
    ]

pub returns : goal.returns
returns c =
    λ all. adds_as all _ _ _ _ (λ rs ts r h. (c.if-not-wanted.false, (h.0, h.3.0, h.2 ∙ ap Some h.3.1, h.3.2)))
    (λ rs ts r h. (h.1.0, Region h.1.1, h.1.2, (h.1.1, refl, h.1.3)))
    (below_all all (slice_get c.args.sources.now) _ c.loop-source.source-index _ _
    (λ k x e. (let l = slice_get_within c.args.sources.now k x e in omega arith)) (c.loop-source.invariant all))
