use Rattle.std.proofs.Common.{◌<◌, length, false, arith}
use Rattle.std.specs.Prelude.{slice_get}
use Rattle.std.proofs.lemmas.Option.{slice_get-get_or, slice_get_within}
use Rattle.nll_types.specs.declared.parameter.Sign.TheVariants.{Covariant}
use Rattle.nll_types.proofs.DropLemmas.{adds_as, below_none, below_more, below_all, kept_at}
use Rattle.nll_types.proofs.drop_sources.collect_kept_types.Goals as goal

pub loop-place-init : goal.loop-place-init
loop-place-init c = λ all. below_none all _ _ _

pub loop-place-preserved : goal.loop-place-preserved
loop-place-preserved c = λ all.
    let within : c.loop-place.place < length c.args.parameters.now = omega arith in
    let kept =
    kept_at c.args.parameters.now c.loop-place.place (record { sign = Covariant; may_dangle = false }) within in
    below_more all (slice_get c.args.parameters.now) _ c.loop-place.place _ _ _ _
    (slice_get-get_or c.args.parameters.now c.loop-place.place (record { sign = Covariant; may_dangle = false }) within)
    (c.loop-place.invariant all)
    (adds_as all _ _ _ _
    (λ rs ts r h. (kept.0 h.0, h.1))
    (λ rs ts r h. (kept.1 h.0, h.1))
    (c.in_ok-add_where.ensures all))

pub returns : goal.returns
returns c = λ all. adds_as all _ _ _ _ (λ rs ts r h. (h.0, h.3.0, h.3.1)) (λ rs ts r h. (h.0, h.1.0, h.1.1, (h.1, h.2)))
    (below_all all (slice_get c.args.parameters.now) _ c.loop-place.place _ _
    (λ k x e. (let l = slice_get_within c.args.parameters.now k x e in omega arith)) (c.loop-place.invariant all))
