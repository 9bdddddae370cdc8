use Rattle.std.proofs.Common.{◌∙◌, sym, arith}
use Rattle.std.proofs.lemmas.Bool.{false≢true}
use Rattle.nll_text_tests.proofs.LiveRoundLemmas.{flags_none, flags_one, unflagged_one, flagged_or_new}
use Rattle.nll_text_tests.proofs.live_rounds.visit.Goals as goal

pub returns-then-not-is_new-clause-flags : goal.returns-then-not-is_new-clause-flags
returns-then-not-is_new-clause-flags c = flags_none c.args.body.now c.args.variable c.args.flags.now.items

pub returns-then-not-is_new-clause-closed : goal.returns-then-not-is_new-clause-closed
returns-then-not-is_new-clause-closed c =
    let exact = rw c.as_slice.ensures.value at c.is_new.ensures in
    λ h q on step. flagged_or_new c.args.body.now c.args.variable c.args.flags.now.items c.args.point
    (λ new. false≢true (sym c.if-not-is_new.true ∙ exact.1 new)) q on step

pub returns-clause-flags : goal.returns-clause-flags
returns-clause-flags c =
    let exact = rw c.as_slice.ensures.value at c.is_new.ensures in
    let new = exact.0 c.if-not-is_new.false in
    flags_one c.args.body.now c.args.variable c.args.flags.now.items c.args.point new.1.0 new.1.1 new.1.2
    (omega (arith, c.requires.width, c.requires.point))

pub returns-clause-fewer : goal.returns-clause-fewer
returns-clause-fewer c =
    let exact = rw c.as_slice.ensures.value at c.is_new.ensures in
    λ h. unflagged_one c.args.flags.now.items c.args.point (omega (arith, c.requires.width, c.requires.point))
    (exact.0 c.if-not-is_new.false).0
