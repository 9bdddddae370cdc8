use Rattle.std.proofs.Common.{sym, ◌∙◌}
use Rattle.std.proofs.lemmas.Bool.{false≢true}
use Rattle.nll_facts.proofs.VersionLemmas.{no_version}
use Rattle.nll_facts.proofs.facts.header_version.Goals as goal

pub returns-then-is_header : goal.returns-then-is_header
returns-then-is_header c = c.is_header.ensures.0 c.if-is_header.true

pub returns-then-is_header-2 : goal.returns-then-is_header-2
returns-then-is_header-2 c = c.is_header-2.ensures.0 c.if-is_header-2.true

pub returns : goal.returns
returns c = no_version c.args.line.now
    (λ h. false≢true (sym c.if-is_header.false ∙ c.is_header.ensures.1 h))
    (λ h. false≢true (sym c.if-is_header-2.false ∙ c.is_header-2.ensures.1 h))
