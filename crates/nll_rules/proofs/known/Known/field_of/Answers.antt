use Rattle.std.proofs.Common.{sym, ap, ◌∙◌}
use Rattle.nll_types.specs.Table.{shape_in}
use Rattle.nll_rules.proofs.KeyLemmas.{among_uses}
use Rattle.nll_rules.proofs.known.Known.field_of.Goals as goal

pub returns-in-Some-clause-row : goal.returns-in-Some-clause-row
returns-in-Some-clause-row c = rw (← c.self.view_is) (λ s rs ts is row.
    let f = rw c.in-Some.is at (among_uses c.self.inside.uses.entries c.args.used c.copied.result
    (c.copied.ensures ∙ c.get.ensures.value)) in
    let ns = c.self.inside.shapes in
    rw (c.self.invariant.4, f.3) at ((c.self.invariant.5.each f.0 c.in-Some.known f.1).1 s rs ts
    (is ∙ ap (shape_in ns) (sym f.2)) (row ∙ sym f.4)))
