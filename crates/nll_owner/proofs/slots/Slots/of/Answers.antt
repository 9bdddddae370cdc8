use Rattle.std.proofs.Common.{◌+◌, ◌<◌, ℕ, Bool, AllPairs, length, sym, ap, ◌∙◌, subst, arith}
use Rattle.nll_cut.specs.Readers.{is_read}
use Rattle.nll_owner.specs.Keeping.{IsSlotIn, TellsSlots}
use Rattle.nll_owner.proofs.SlotLemmas.{held_ascends, held_short, held_within}
use Rattle.nll_owner.proofs.slots.Slots.of.Goals as goal
use Rattle.nll_owner.proofs.slots.Slots.of.Goals.{In_ok-held}

abbrev reading : (c : In_ok-held) → ℕ → Bool
reading c r = is_read c.args.readers.now c.args.me r

ascends : (c : In_ok-held) → AllPairs {X = ℕ} (λ r s. r < s) c.in_ok-held.held.items
ascends c =
    subst (AllPairs {X = ℕ} (λ r s. r < s)) (sym c.in_ok-held.ensures)
    (held_ascends c.args.regions c.args.cut.now c.args.me (reading c))

few : (c : In_ok-held) → length c.in_ok-held.held.items < c.args.regions + 1
few c = omega (arith, ap length c.in_ok-held.ensures, held_short c.args.regions c.args.cut.now c.args.me (reading c))

pub table_of-requires-clause-ascending : goal.table_of-requires-clause-ascending
table_of-requires-clause-ascending c =
    subst (AllPairs {X = ℕ} (λ r s. r < s)) (sym c.as_slice.ensures.value)
    (ascends (goal.at.table_of-requires-clause-ascending c).In_ok-held)

pub table_of-requires-clause-within : goal.table_of-requires-clause-within
table_of-requires-clause-within c = λ s r at.
    let d = (goal.at.table_of-requires-clause-within c).In_ok-held in
    held_within c.args.regions c.args.cut.now c.args.me (reading d) s r
    (subst (λ xs. IsSlotIn xs s r) (c.as_slice.ensures.value ∙ c.in_ok-held.ensures) at)

pub table_of-requires-clause-few : goal.table_of-requires-clause-few
table_of-requires-clause-few c =
    omega (
      arith,
      few (goal.at.table_of-requires-clause-few c).In_ok-held,
      ap length c.as_slice.ensures.value,
      c.requires.few,
    )

pub invariant_of-result : goal.invariant_of-result
invariant_of-result c =
    let d = (goal.at.invariant_of-result c).In_ok-held in (
      ascends d,
      omega (arith, few d, c.requires.few),
      subst (λ xs. TellsSlots xs c.in_ok-table.table.items) c.as_slice.ensures.value c.in_ok-table.ensures,
    )
