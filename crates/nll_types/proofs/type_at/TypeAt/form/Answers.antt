use Rattle.std.proofs.Common.{suc, arith}
use Rattle.nll_types.proofs.type_at.TypeAt.form.Goals as goal

pub pass_rows-requires-in-Function : goal.pass_rows-requires-in-Function
pass_rows-requires-in-Function c =
    let over = rw c.in-Function.is at c.node.ensures.over in
    rw c.as_slice-parts-in-Function.ensures.value (rw c.shapes-shapes.ensures
    (λ k l. omega (arith, over (suc k) (omega arith), c.args.self.within)))

pub invariant_of-inputs : goal.invariant_of-inputs
invariant_of-inputs c =
    let over = rw c.in-Function.is at c.node.ensures.over in
    record {
      within = rw c.as_slice-parts-in-Function.ensures.value
          (λ k l. omega (arith, over (suc k) (omega arith), c.args.self.within));
    }
