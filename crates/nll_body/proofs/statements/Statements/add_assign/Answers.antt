use Rattle.std.proofs.Common.{ap, ◌∙◌}
use Rattle.nll_types.specs.Places.{path_of}
use Rattle.nll_body.specs.Flat.{operand_in}
use Rattle.nll_body.specs.Statements.{assign}
use Rattle.nll_body.proofs.FlatLemmas.{number_kept, places_grow}
use Rattle.nll_body.proofs.statements.Statements.add_assign.Goals as goal

pub returns-clause-flat : goal.returns-clause-flat
returns-clause-flat c =
    let l = c.add_place.new.self in
    let m = c.add_operand.new.self in
    let target = number_kept l m c.add_place.ensures.within (places_grow l m c.add_operand.ensures.places).lists
    (path_of c.args.target.now) c.in_ok-target.target c.in_ok-target.ensures.number in
    let operand = c.in_ok-operand.ensures.operand in (
      (target.0, operand.0),
      ap (λ p. assign p (operand_in m c.in_ok-operand.operand)) target.1
          ∙ ap (assign (path_of c.args.target.now)) operand.1,
    )
