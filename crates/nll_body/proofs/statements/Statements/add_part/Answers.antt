use Rattle.std.proofs.Common.{◌≡◌, length, rules}
use Rattle.nll_sets.proofs.PrefixLemmas.{prefix_same, prefix_grown}
use Rattle.nll_types.specs.Places.{path_of}
use Rattle.nll_body.specs.contracts.statements.Statements.{the_view}
use Rattle.nll_body.proofs.AddedLemmas.{is_part}
use Rattle.nll_body.proofs.statements.Statements.add_part.Goals as goal

pub returns-in_err-push-clause-places : goal.returns-in_err-push-clause-places
returns-in_err-push-clause-places c = rw (← c.self.view_is) (search (rules, prefix_same, prefix_grown))

pub returns-clause-places : goal.returns-clause-places
returns-clause-places c =
    rw (c.in_ok-push.ensures.items, c.in_ok-append.ensures.ok, ← c.self.view_is)
    (search (rules, prefix_same, prefix_grown))

pub returns-clause-number : goal.returns-clause-number
returns-clause-number c =
    let counted : c.in_ok-number.number ≡ length c.self.inside.parts.items = search rules in
    rw (c.in_ok-push.ensures.items, c.in_ok-append.ensures.ok)
    (is_part (the_view c.self.inside) _ c.projections-taken.result.now c.in_ok-number.number (path_of c.args.place.now)
    counted (search rules) (search rules) (search rules) (search rules))
