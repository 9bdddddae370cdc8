use Rattle.std.proofs.Common.{◌≡◌, ◌+◌, ◌<◌, length, set, sym, subst, arith}
use Rattle.nll_run.proofs.TakingLemmas.{AreTaken, has_set, taken_more, taken_shaped, taken_told}
use Rattle.nll_run.proofs.values.values_of.Goals as goal
use Rattle.nll_run.proofs.values.values_of.Goals.{After-index_mut, After-of_sets}

low : (c : After-index_mut) → c.loop-number.number < c.args.problem.now.regions
low c = omega (arith, c.loop-number-test.true, c.regions-regions.ensures.value)

within : (c : After-index_mut) → c.owner_of-owner.result < length c.loop-number.holdings.items
within c =
    let n = c.owner_of-owner.ensures.value in
    let l = c.requires.cut.cut.owned c.loop-number.number (omega (arith, low c, c.requires.cut.regions)) in
    omega (arith, n, l, c.requires.holdings.1.counted, c.loop-number.invariant.1.as_many)

pub take-requires : goal.take-requires
take-requires c =
    has_set c.args.cut.now c.loop-number.number c.args.holdings.now.items c.loop-number.holdings.items
    c.loop-number.sets.items c.loop-number.invariant.1 c.owner_of-owner.result c.owner_of-owner.ensures.value (within c)
    c.index_mut.result.now c.index_mut.ensures.value c.args.problem.now (low c) c.requires.cut c.requires.holdings.0
    c.requires.holdings.1

pub loop-number-preserved : goal.loop-number-preserved
loop-number-preserved c =
    let d = (goal.at.loop-number-preserved c).After-index_mut in (
      omega (arith, c.loop-number.invariant.0, c.push_reserved.ensures.capacity),
      subst
          (λ xs. AreTaken c.args.cut.now (c.loop-number.number + 1) c.args.holdings.now.items
          (set c.loop-number.holdings.items c.owner_of-owner.result c.take.new.self) xs)
          (sym c.push_reserved.ensures.items)
          (taken_more c.args.cut.now c.loop-number.number c.args.holdings.now.items c.loop-number.holdings.items
          c.loop-number.sets.items c.loop-number.invariant.1 c.owner_of-owner.result c.owner_of-owner.ensures.value
          (within d) c.index_mut.result.now c.index_mut.ensures.value c.take.result c.take.new.self c.take.ensures.set
          c.take.ensures.others),
    )

all : (c : After-of_sets) → AreTaken c.args.cut.now c.args.problem.now.regions c.args.holdings.now.items
    c.loop-number.holdings.items c.of_sets.result
all c =
    let is : c.loop-number.number ≡ c.args.problem.now.regions =
    omega (
      arith,
      c.loop-number-test.false,
      c.loop-number.auto.number-end,
      c.regions-regions.ensures.value,
    ) in
    subst
    (λ xs. AreTaken c.args.cut.now c.args.problem.now.regions c.args.holdings.now.items c.loop-number.holdings.items xs)
    (sym c.of_sets.ensures)
    (subst (λ n. AreTaken c.args.cut.now n c.args.holdings.now.items c.loop-number.holdings.items
    c.loop-number.sets.items) is c.loop-number.invariant.1)

pub returns-clause-shaped : goal.returns-clause-shaped
returns-clause-shaped c =
    taken_shaped c.args.problem.now c.args.cut.now c.requires.cut c.args.holdings.now.items
    c.loop-number.holdings.items c.of_sets.result (all c) c.requires.holdings.0 c.requires.holdings.1

pub returns-clause-held : goal.returns-clause-held
returns-clause-held c = λ logs have.
    taken_told c.args.problem.now c.args.cut.now c.requires.cut c.args.holdings.now.items
    c.loop-number.holdings.items c.of_sets.result (all c) logs have
