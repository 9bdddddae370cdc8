use Rattle.std.proofs.Common.{arith, length, ◌<◌, refl}
use Rattle.std.proofs.lemmas.Option.{slice_get-get_or, slice_get_read}
use Rattle.nll_rules.proofs.PairLemmas.{adds_same, below_all, below_more}
use Rattle.nll_rules.proofs.RowSignLemmas.{asked_here, asked_rows, asked_within}
use Rattle.nll_rules.proofs.row_signs.ask_rows.Goals as goal

pub loop-place-preserved : goal.loop-place-preserved
loop-place-preserved c =
    let ss = c.args.signs.now in
    let rs = c.args.one.now in
    let qs = c.args.other.now in
    let n = c.loop-place.place in
    let s : n < length ss = omega (arith, c.loop-place-test.true, c.min-place-end.ensures, c.min.ensures) in
    let r : n < length rs = omega (arith, c.loop-place-test.true, c.min-place-end.ensures, c.min.ensures) in
    let q : n < length qs = omega (arith, c.loop-place-test.true, c.min-place-end.ensures, c.min.ensures) in
    below_more _ _ n _ _ _ (λ x. asked_here ss rs qs n _ _ _ x
    (slice_get_read rs (length rs) n _ refl r c.index-one-place.is)
    (slice_get_read qs (length qs) n _ refl q c.index-other-place.is) (slice_get-get_or ss n _ s))
    c.loop-place.invariant c.in_ok-ask_pair.ensures

pub returns : goal.returns
returns c =
    let ss = c.args.signs.now in
    let rs = c.args.one.now in
    let qs = c.args.other.now in
    let n = c.loop-place.place in
    adds_same _ _ _ _ (asked_rows ss rs qs)
    (below_all _ n _ _ (λ k x w. asked_within ss rs qs n k x
    (omega (arith, c.min-place-end.ensures, c.min.ensures, c.loop-place-test.false)) w) c.loop-place.invariant)
