use Rattle.std.proofs.Common.{◌≡◌, ◌+◌, ℕ, sym, ◌∙◌, subst, arith}
use Rattle.std.proofs.lemmas.Bool.{false≢true}
use Rattle.nll_core.specs.Outliving.{FindsUpTo}
use Rattle.nll_core.specs.Values.{IsHeld}
use Rattle.nll_core.proofs.FaultLemmas.{finds_added, finds_skipped, finds_row}
use Rattle.nll_core.proofs.fault_check.add_faults.Goals as goal
use Rattle.nll_core.proofs.fault_check.add_faults.Goals.{then-has+then-not-has+in_ok-push, else-has, else-has-via-then-has+else-not-has, else-has-via-else-has}

pub loop-shorter-preserved : goal.loop-shorter-preserved
loop-shorter-preserved c =
    let shorter = c.loop-shorter.shorter in
    let known = c.in_ok-outlived.ensures.exact shorter in
    let held = λ (n : ℕ). IsHeld c.args.values.now c.args.longer (n + shorter) in
    elim c.if-has.branch [
      | then-has+then-not-has+in_ok-push w ↦ rw (w.faults-is, w.in_ok-push.ensures.items)
          (finds_added c.args.problem.now c.args.values.now _ _ _ c.loop-shorter.invariant (
            c.requires.universal,
            omega arith,
            subst held c.points.ensures.value (sym c.has.ensures ∙ w.if-has.true),
            λ h. false≢true (sym w.if-not-has.true ∙ (w.has-then-has.ensures ∙ known.1 h)),
          ))
      | else-has w ↦ rw w.faults-is (finds_skipped c.args.problem.now c.args.values.now _ _ _
          c.loop-shorter.invariant (λ h. elim w.else-has.branch [
            | else-has-via-then-has+else-not-has v ↦ h.3 (known.0 (sym v.has-then-has.ensures ∙ v.if-not-has.false))
            | else-has-via-else-has v ↦ false≢true (sym v.if-has.false
                ∙ (c.has.ensures ∙ subst held (sym c.points.ensures.value) h.2))
          ]))
    ]

pub returns : goal.returns
returns c =
    let all : c.loop-shorter.shorter ≡ c.args.problem.now.graph.universals = omega arith in
    finds_row c.args.problem.now c.args.values.now _ c.args.longer
    (subst (FindsUpTo c.args.problem.now c.args.values.now c.loop-shorter.faults.items c.args.longer) all
    c.loop-shorter.invariant)
