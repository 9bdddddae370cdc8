use Rattle.std.proofs.Common.{◌∙◌, sym, subst}
use Rattle.std.specs.Str.{IsUtf8}
use Rattle.nll_format.proofs.NameLemmas.{name_at}
use Rattle.nll_format.proofs.names.Names.name.Goals as goal

pub unreachable-requires : goal.unreachable-requires
unreachable-requires c =
    c.in-Err.ensures.cases.0 (subst IsUtf8
    (sym (c.as_slice.ensures ∙ name_at (λ name. name.items) c.self.inside.set.keys c.args.number c.index.result.now
    c.index.ensures)) (c.self.invariant.0 c.args.number (rw (← c.self.view_is) at c.requires)))

pub returns : goal.returns
returns c =
    rw (← c.self.view_is) (c.in-Ok.ensures.cases.0
    ∙ (c.as_slice.ensures ∙ name_at (λ name. name.items) c.self.inside.set.keys c.args.number c.index.result.now
    c.index.ensures))
