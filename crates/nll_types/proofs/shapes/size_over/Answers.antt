use Rattle.std.proofs.Common.{suc, arith}
use Rattle.nll_types.proofs.shapes.size_over.Goals as goal

pub count-requires : goal.count-requires
count-requires c =
    let below = rw c.in-Function.is at c.requires in
    rw c.as_slice.ensures.value (λ k l. below (suc k) (omega arith))

pub returns-in-Function : goal.returns-in-Function
returns-in-Function c =
    let counted = rw c.as_slice.ensures.value at c.count.ensures in
    rw c.in-Function.is (omega (arith, c.min-in-Function.ensures, c.min-returned.ensures, counted))
