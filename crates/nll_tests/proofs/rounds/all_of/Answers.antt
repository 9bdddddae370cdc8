use Rattle.std.proofs.Common.{◌≡◌, ◌+◌, ◌<◌, ◌⊎◌, ℕ, true, Contains, subst, sym, ◌∙◌, inl, inr, ⊎_elim, arith}
use Rattle.std.proofs.Math.Nat.{eq-or-lt_of_le}
use Rattle.std.proofs.lemmas.Bool.{false≢true}
use Rattle.std.proofs.lemmas.List.Elements.{Contains-push, Contains-push_cases, Contains-append_left}
use Rattle.nll_sets.specs.ElementSet.{flag}
use Rattle.nll_core.proofs.SearchLemmas.{flag_within}
use Rattle.nll_tests.proofs.rounds.all_of.Goals as goal
use Rattle.nll_tests.proofs.rounds.all_of.Goals.{then-has+in_ok-push, else-has}

pub loop-number-init : goal.loop-number-init
loop-number-init c x = (λ h. absurd (omega (arith, h.1)), λ own. absurd (omega (arith, own.0)))

-- below the next number it is either one that was below this one, or this one
next : (x n : ℕ) → x < n + 1 → (x < n) ⊎ (x ≡ n)
next x n below = ⊎_elim inr inl (eq-or-lt_of_le (omega (arith, below)))

pub loop-number-preserved : goal.loop-number-preserved
loop-number-preserved c x =
    elim c.if-has.branch [
      | then-has+in_ok-push w ↦ rw (w.found-is, w.in_ok-push.ensures.items) (
        λ h. ⊎_elim
            (λ old. let own = (c.loop-number.invariant x).0 old in (omega (arith, own.0), own.1))
            (λ is. subst (λ n. (n < c.loop-number.number + 1) × (flag c.args.set.now n ≡ true)) is
            (omega arith, sym c.has.ensures ∙ w.if-has.true))
            (Contains-push_cases _ _ x h),
        λ own. ⊎_elim
            (λ low. Contains-append_left _ _ x ((c.loop-number.invariant x).1 (low, own.1)))
            (λ is. subst (Contains _) (sym is) (Contains-push _ _))
            (next x c.loop-number.number own.0),
      )
      | else-has w ↦ rw w.found-is (
        λ h. let own = (c.loop-number.invariant x).0 h in (omega (arith, own.0), own.1),
        λ own. ⊎_elim
            (λ low. (c.loop-number.invariant x).1 (low, own.1))
            (λ is. absurd (false≢true (sym w.if-has.false
            ∙ (c.has.ensures ∙ subst (λ n. flag c.args.set.now n ≡ true) is own.1))))
            (next x c.loop-number.number own.0),
      )
    ]

pub returns : goal.returns
returns c x = (
  λ h. ((c.loop-number.invariant x).0 h).1,
  λ own. (c.loop-number.invariant x).1 (omega (arith, flag_within c.args.set.now x own, c.requires), own),
)
