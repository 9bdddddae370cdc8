use Rattle.std.proofs.Common.{rules, subst, sym}
use Rattle.nll_sets.proofs.PrefixLemmas.{prefix_same}
use Rattle.nll_body.specs.Within.{IsCallIn}
use Rattle.nll_body.specs.contracts.statements.Statements.{the_view}
use Rattle.nll_body.proofs.AddedLemmas.{grows_call, is_call, within_call}
use Rattle.nll_body.proofs.statements.Statements.add_call.Goals as goal

is_in : (c : goal.In_ok-push) → IsCallIn (the_view c.self.inside) c.args.call
is_in c = subst (λ l. IsCallIn l c.args.call) (sym c.self.view_is) c.requires

pub invariant_of-self-2 : goal.invariant_of-self-2
invariant_of-self-2 c =
    rw c.in_ok-push.ensures.items (within_call (the_view c.self.inside) c.args.call c.self.invariant (is_in c))

pub returns-clause-flat : goal.returns-clause-flat
returns-clause-flat c =
    rw (c.in_ok-push.ensures.items, ← c.self.view_is)
    (is_call (the_view c.self.inside) c.args.call c.len-number.result c.self.invariant (search rules) (is_in c))

pub returns-clause-grows : goal.returns-clause-grows
returns-clause-grows c =
    rw (c.in_ok-push.ensures.items, ← c.self.view_is) (grows_call (the_view c.self.inside) c.args.call)

pub returns-in_err-push-clause-grows : goal.returns-in_err-push-clause-grows
returns-in_err-push-clause-grows c =
    rw (c.in_err-push.ensures.items, ← c.self.view_is) (search (rules, prefix_same))
