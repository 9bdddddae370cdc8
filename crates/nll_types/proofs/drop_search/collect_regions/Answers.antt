use Rattle.std.proofs.Common.{◌∙◌, sym, refl, arith}
use Rattle.std.specs.Prelude.{slice_get}
use Rattle.std.proofs.lemmas.Bool.{false≢true}
use Rattle.std.proofs.lemmas.Option.{slice_get_read, slice_get_within}
use Rattle.nll_types.proofs.DropLemmas.{adds_nothing, adds_as, below_none, below_more, below_all}
use Rattle.nll_types.proofs.drop_search.collect_regions.Goals as goal

pub returns-then-not-wanted : goal.returns-then-not-wanted
returns-then-not-wanted c = λ all. adds_nothing all _ _ (λ rs ts r h. false≢true (sym c.if-not-wanted.true ∙ h.0))

pub loop-region-init : goal.loop-region-init
loop-region-init c = λ all. below_none all _ _ _

pub loop-region-preserved : goal.loop-region-preserved
loop-region-preserved c =
    λ all. below_more all (slice_get c.args.regions.now) _ c.loop-region.region-index c.region-item.result _ _ _
    (slice_get_read c.args.regions.now _ c.loop-region.region-index c.region-item.result refl c.loop-region-test.true
    c.region-item.is)
    (c.loop-region.invariant all) (c.in_ok-add.ensures all)

pub returns : goal.returns
returns c = λ all. adds_as all _ _ _ _ (λ rs ts r h. (c.if-not-wanted.false, h)) (λ rs ts r h. h.1)
    (below_all all (slice_get c.args.regions.now) _ c.loop-region.region-index _ _
    (λ k x e. (let l = slice_get_within c.args.regions.now k x e in omega arith)) (c.loop-region.invariant all))
