use Rattle.std.proofs.Common.{◌≡◌, ◌∙◌, ◌++◌, ◌∷◌, ℕ, [], ap, sym}
use Rattle.nll_types.specs.declared.parameter.Sign.{Sign}
use Rattle.nll_types.specs.declared.parameter.Sign.TheVariants.{Invariant}
use Rattle.nll_rules.specs.Positions.{sign_or, times}
use Rattle.nll_rules.specs.Signs.{sign_row}
use Rattle.nll_rules.proofs.RowSignLemmas.{appended_more, sign_row_more}
use Rattle.nll_rules.proofs.row_signs.push_own.Goals as goal

pub loop-place-preserved : goal.loop-place-preserved
loop-place-preserved c =
    let sign : ℕ → Sign = λ k. times c.args.outer (sign_or c.args.parameters.now k Invariant) in
    let n = c.loop-place.place in
    let here : c.times.result ≡ sign n = rw c.sign_or.ensures at c.times.ensures in
    appended_more _ _ _ (sign_row sign n) _ _ c.loop-place.invariant c.in_ok-push.ensures.items
    (sign_row_more sign n ∙ ap (λ (s : Sign). sign_row sign n ++ s ∷ []) (sym here))
