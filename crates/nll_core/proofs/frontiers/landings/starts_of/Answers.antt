use Rattle.std.proofs.Common.{ℕ, ◌+◌, ◌<◌, [], ◌∷◌, List, length, length-append, slice_index, sym, subst, ap, ◌∙◌, arith}
use Rattle.std.proofs.lemmas.Result.{IfOk-from_err}
use Rattle.nll_core.specs.Lines.{IsLandingStart}
use Rattle.nll_core.proofs.LandingLemmas.{nothing_below, below_higher, starts_more}
use Rattle.nll_core.proofs.frontiers.landings.starts_of.Goals as goal

pub returns-in_err-starts : goal.returns-in_err-starts
returns-in_err-starts c =
    let back = c.from_residual in
    record { sized = IfOk-from_err back.result _ back.ensures.0; each = IfOk-from_err back.result _ back.ensures.0 }

pub loop-number-init : goal.loop-number-init
loop-number-init c = record {
  sized = ap (λ (xs : List ℕ). length xs) c.in_ok-starts.ensures.items;
  within = omega arith;
  below = λ k d less. nothing_below k less;
  each = λ t less. nothing_below t less;
}

pub start_from-place-requires : goal.start_from-place-requires
start_from-place-requires c = record {
  ascending = c.requires.ascending;
  from = c.loop-number.invariant.within;
  below = c.loop-number.invariant.below;
}

pub returns-in_err-push : goal.returns-in_err-push
returns-in_err-push c =
    let back = c.from_residual-in_err-push in
    record { sized = IfOk-from_err back.result _ back.ensures.0; each = IfOk-from_err back.result _ back.ensures.0 }

pub loop-number-preserved : goal.loop-number-preserved
loop-number-preserved c =
    let now = c.loop-number in
    let here = c.start_from-place.ensures in
    let place = c.start_from-place.result in
    let items = c.in_ok-push.ensures.items in
    record {
      sized = ap (λ (xs : List ℕ). length xs) items ∙ length-append now.starts.items (place ∷ [])
          ∙ ap (λ (n : ℕ). n + 1) now.invariant.sized;
      within = here.bound;
      below = λ k d less. below_higher _ _ (here.below k d less);
      each = subst (λ (xs : List ℕ). (t : ℕ) → t < now.number + 1
          → IsLandingStart c.args.list.now t (slice_index xs t)) (sym items)
          (starts_more c.args.list.now now.starts.items now.number place now.invariant.sized now.invariant.each here);
    }

pub returns-clause-each : goal.returns-clause-each
returns-clause-each c t less =
    c.loop-number.invariant.each t (omega (arith, less, c.loop-number-test.false))
