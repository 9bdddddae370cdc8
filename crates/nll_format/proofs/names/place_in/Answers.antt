use Rattle.std.proofs.Common.{sym, subst, map}
use Rattle.std.specs.Prelude.{IfSome}
use Rattle.std.proofs.lemmas.Bool.{ltb-true}
use Rattle.nll_format.specs.Names.{IsSeries}
use Rattle.nll_format.proofs.NameLemmas.{place_numbers}
use Rattle.nll_format.proofs.names.place_in.Goals as goal

pub returns-clause-number : goal.returns-clause-number
returns-clause-number c =
    let keys = c.as_slice.ensures.keys in
    let there = rw keys at c.in_ok-first.ensures.lookup in
    place_numbers (λ name. name.items) c.args.set.now.keys c.in_ok-series.series c.in_ok-first.first.now _ _
    c.args.name.now _ c.as_slice.ensures.unique
    (subst (λ o. IfSome o (IsSeries (map (λ name. name.items) c.args.set.now.keys))) c.in_ok-series.was c.requires)
    (ltb-true _ _ (sym there.0)) there.1 c.as_slice-2.ensures c.place.ensures
