use Rattle.std.proofs.Common.{sym, refl, ◌∙◌, ◌<◌, length}
use Rattle.std.proofs.lemmas.Bool.{ltb-true}
use Rattle.nll_format.proofs.NameLemmas.{at_place}
use Rattle.nll_format.proofs.names.Names.is_at.Goals as goal

pub returns-in-Some : goal.returns-in-Some
returns-in-Some c =
    let keys = c.as_slice.ensures.keys in
    let there = rw keys at c.in-Some.ensures.lookup in
    let within : c.args.number < length c.self.inside.set.keys = ltb-true _ _ (sym there.0) in
    rw (← c.self.view_is)
    (at_place (λ name. name.items) c.self.inside.set.keys c.args.number c.in-Some.known.now _ c.args.name.now _
    c.as_slice.ensures.unique within there.1 (c.eq.ensures ∙ rw c.as_slice-in-Some.ensures refl))
