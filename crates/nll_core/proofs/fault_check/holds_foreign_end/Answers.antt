use Rattle.std.proofs.Common.{arith}
use Rattle.nll_core.proofs.fault_check.holds_foreign_end.Goals as goal

pub has-requires-clause-region : goal.has-requires-clause-region
has-requires-clause-region c =
    omega (
      arith,
      c.requires.universal,
      c.requires.shaped.regions,
      c.universals-other-end.ensures.sound.universals_are_regions,
    )

pub has-requires-clause-element : goal.has-requires-clause-element
has-requires-clause-element c =
    omega (
      arith,
      c.requires.shaped.elements c.args.region
          (omega (arith, c.requires.universal, c.universals-other-end.ensures.sound.universals_are_regions)),
    )

pub returns : goal.returns
returns c = λ h other universal foreign. c.loop-other.invariant other (omega arith) foreign
