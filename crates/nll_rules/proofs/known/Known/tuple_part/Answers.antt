use Rattle.std.proofs.Common.{ap, arith, ◌∙◌}
use Rattle.nll_types.specs.Table.{shape_over, shapes_in}
use Rattle.nll_rules.proofs.KnownFieldLemmas.{fourth_is, learns_none}
use Rattle.nll_rules.proofs.KnownLemmas.{tuple_row}
use Rattle.nll_rules.proofs.known.Known.tuple_part.Goals as goal

pub returns-clause-row : goal.returns-clause-row
returns-clause-row c = rw (← c.self.view_is) (λ ts h.
    let ns = c.self.inside.shapes in
    let known = (c.learn.ensures.right c.args.row.shape c.in-Some.known.now c.in-Some.ensures.found).1 in
    tuple_row ns _ _ ts c.args.row c.args.place c.in-Tuple.parts c.as_slice-starts.result.now _ h
    (c.node.ensures.at ∙ ap (shape_over (shapes_in ns)) c.in-Tuple.is) (rw c.in-Tuple.is at c.node.ensures.over)
    (c.as_slice-starts.ensures.value ∙ known.starts)
    (rw (c.as_slice.ensures.value, c.self.invariant.4) at c.tuple_part.ensures))

pub returns-in_default : goal.returns-in_default
returns-in_default c =
    record { learns = rw (← c.self.view_is) (learns_none _); row = grind arith }

pub returns-in_err-learn-clause-learns : goal.returns-in_err-learn-clause-learns
returns-in_err-learn-clause-learns c = rw (← c.self.view_is) (learns_none _)

pub returns-clause-learns : goal.returns-clause-learns
returns-clause-learns c = rw (← c.self.view_is) (learns_none _)

pub invariant_of-self : goal.invariant_of-self
invariant_of-self c = fourth_is c.self.invariant (rw c.structs-structs.ensures at c.learn.ensures.right)

pub invariant_of-self-2 : goal.invariant_of-self-2
invariant_of-self-2 c = fourth_is c.self.invariant (rw c.structs-structs.ensures at c.learn.ensures.right)

pub invariant_of-self-in_default : goal.invariant_of-self-in_default
invariant_of-self-in_default c = fourth_is c.self.invariant (rw c.structs-structs.ensures at c.learn.ensures.right)
