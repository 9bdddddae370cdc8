use Rattle.std.proofs.Common.{◌∙◌}
use Rattle.nll_format.proofs.NameLemmas.{position_mapped, number_found}
use Rattle.nll_format.proofs.names.Names.number_of.Goals as goal

pub returns-in_default-clause-place : goal.returns-in_default-clause-place
returns-in_default-clause-place c =
    rw (← c.self.view_is) (c.get_index_of.ensures.index
    ∙ position_mapped (λ name. name.items) c.args.name.now c.self.inside.set.keys)

pub returns-in_default-clause-number : goal.returns-in_default-clause-number
returns-in_default-clause-number c =
    number_found c.args.self.now c.args.name.now c.get_index_of.result
    (rw (← c.self.view_is) (c.get_index_of.ensures.index
    ∙ position_mapped (λ name. name.items) c.args.name.now c.self.inside.set.keys))
