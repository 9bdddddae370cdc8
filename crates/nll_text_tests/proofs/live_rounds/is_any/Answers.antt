use Rattle.std.proofs.Common.{◌≡◌, ◌∙◌, true, slice_index, refl, sym, arith}
use borrow.Author.Count.{below_more}
use Rattle.std.proofs.lemmas.Bool.{false≢true}
use Rattle.std.proofs.lemmas.List.Elements.{Contains-get_or}
use Rattle.nll_sets.specs.ElementSet.{flag}
use Rattle.nll_live.proofs.MarkLemmas.{at_each}
use Rattle.nll_text_tests.proofs.live_rounds.is_any.Goals as goal

pub loop-point-preserved : goal.loop-point-preserved
loop-point-preserved c =
    below_more _ _ c.loop-point.invariant (λ h. false≢true (sym c.if-is_flagged.false ∙ c.is_flagged.ensures.1 h))

pub returns-then-is_flagged : goal.returns-then-is_flagged
returns-then-is_flagged c = (
  λ h. (
    slice_index c.args.points.now c.loop-point.point-index,
    c.is_flagged.ensures.0 c.if-is_flagged.true,
    Contains-get_or c.args.points.now c.loop-point.point-index 0 c.loop-point-test.true,
  ),
  λ h. refl,
)

pub returns : goal.returns
returns c = (
  λ h. absurd (false≢true h),
  λ h. absurd (at_each (λ q. flag c.args.flags.now q ≡ true → ⊥) c.args.points.now
      (λ k low. c.loop-point.invariant k (omega arith)) h.0 h.2 h.1),
)
