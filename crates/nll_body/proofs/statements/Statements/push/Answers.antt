use Rattle.std.proofs.Common.{subst, sym}
use Rattle.nll_body.specs.Within.{IsStatementIn}
use Rattle.nll_body.specs.contracts.statements.Statements.{the_view}
use Rattle.nll_body.proofs.AddedLemmas.{pushed, within_point}
use Rattle.nll_body.proofs.statements.Statements.push.Goals as goal

is_in : (c : goal.In_ok-push) → IsStatementIn (the_view c.self.inside) c.args.statement
is_in c = subst (λ l. IsStatementIn l c.args.statement) (sym c.self.view_is) c.requires

pub invariant_of-self-2 : goal.invariant_of-self-2
invariant_of-self-2 c =
    rw c.in_ok-push.ensures.items (within_point (the_view c.self.inside) c.args.statement c.self.invariant (is_in c))

pub returns-clause-ok : goal.returns-clause-ok
returns-clause-ok c =
    rw (c.in_ok-push.ensures.items, ← c.self.view_is)
    (pushed (the_view c.self.inside) c.args.statement c.self.invariant (is_in c))
