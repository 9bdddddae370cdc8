use Rattle.std.proofs.Common.{List, Bool, sym, subst, arith}
use Rattle.nll_owner.specs.Holding.{HasSet}
use Rattle.nll_owner_tests.proofs.holdings.write_all_taken.Goals as goal
use Rattle.nll_owner_tests.proofs.holdings.write_all_taken.Goals.{then-owner_of-me+in_ok-write_taken, else-owner_of-me}

pub write_taken-requires : goal.write_taken-requires
write_taken-requires c =
    let s = c.requires.sets c.loop-number.number c.loop-number-test.true
    (omega (arith, c.owner_of.ensures.value, c.if-owner_of-me.true)) in
    c.loop-number.invariant c.loop-number.number s.0 s.1

pub returns-in_err-write_taken : goal.returns-in_err-write_taken
returns-in_err-write_taken c = λ r set has.
    let x = c.loop-number.invariant r set has in
    c.write_taken.ensures r x.0 x.1

pub loop-number-preserved : goal.loop-number-preserved
loop-number-preserved c = λ r set has.
    let x = c.loop-number.invariant r set has in
    elim c.if-owner_of-me.branch [
      | then-owner_of-me+in_ok-write_taken w ↦ subst (λ h. (left : List Bool) × HasSet h r left) (sym w.holding-is)
          (w.write_taken.ensures r x.0 x.1)
      | else-owner_of-me w ↦ subst (λ h. (left : List Bool) × HasSet h r left) (sym w.holding-is) x
    ]
