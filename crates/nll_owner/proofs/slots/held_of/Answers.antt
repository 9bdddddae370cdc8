use Rattle.std.proofs.Common.{ℕ, Bool, cond, [], ◌∷◌, ◌++◌, append-nil, sym, ap, ◌∙◌, arith}
use Rattle.nll_cut.specs.Readers.{is_read}
use Rattle.nll_owner.specs.Keeping.{held_below}
use Rattle.nll_owner.proofs.SlotLemmas.{held_more}
use Rattle.nll_owner.proofs.slots.held_of.Goals as goal
use Rattle.nll_owner.proofs.slots.held_of.Goals.{then-holds+in_ok-push, else-holds}

pub loop-number-preserved : goal.loop-number-preserved
loop-number-preserved c =
    let n = c.loop-number.number in
    let reading : ℕ → Bool = λ r. is_read c.args.readers.now c.args.me r in
    let before = held_below n c.args.cut.now c.args.me reading in
    let more = held_more n c.args.cut.now c.args.me reading in
    elim c.if-holds.branch [
      | then-holds+in_ok-push w ↦ ap (λ v. v.items) w.held-is
          ∙ (w.in_ok-push.ensures.items
          ∙ (ap (λ xs. xs ++ n ∷ []) c.loop-number.invariant
          ∙ (ap (λ b. before ++ cond b (n ∷ []) []) (sym (sym c.holds.ensures ∙ w.if-holds.true)) ∙ sym more)))
      | else-holds w ↦ ap (λ v. v.items) w.held-is
          ∙ (c.loop-number.invariant
          ∙ (sym (append-nil before)
          ∙ (ap (λ b. before ++ cond b (n ∷ []) []) (sym (sym c.holds.ensures ∙ w.if-holds.false)) ∙ sym more)))
    ]

pub overflow_cast-number : goal.overflow_cast-number
overflow_cast-number c = omega (arith, c.loop-number-test.true, c.requires.few)
