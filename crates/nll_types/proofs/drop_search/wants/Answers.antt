use Rattle.std.proofs.Common.{◌∙◌, sym}
use Rattle.std.specs.Prelude.{IsTrue, Contains, ◌↔◌}
use Rattle.std.proofs.lemmas.Bool.{false≢true}
use Rattle.nll_types.proofs.SourceSetLemmas.{contains_found}
use Rattle.nll_types.proofs.drop_search.wants.Goals as goal

pub returns-then-dropped : goal.returns-then-dropped
returns-then-dropped c =
    let is : IsTrue c.contains.result ↔ Contains c.args.sources.now.keys c.args.source =
    rw c.contains.ensures (contains_found _ c.args.source) in
    (λ h. (c.if-dropped.true, is.0 h), λ w. is.1 w.1)

pub returns-else-dropped : goal.returns-else-dropped
returns-else-dropped c =
    (λ h. absurd (false≢true (sym c.if-dropped.false ∙ h)), λ w. absurd (false≢true (sym c.if-dropped.false ∙ w.0)))
