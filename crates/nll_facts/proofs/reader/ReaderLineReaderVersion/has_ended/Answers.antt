use Rattle.std.proofs.Common.{sym, ◌∙◌}
use Rattle.std.proofs.lemmas.Bool.{eqb-true, eq-eqb}
use Rattle.nll_facts.proofs.TextLemmas.{ended, end_reached}
use Rattle.nll_facts.proofs.reader.ReaderLineReaderVersion.has_ended.Goals as goal

pub returns : goal.returns
returns c = λ forms same. (
  λ last. ended forms (same.reached ∙ eqb-true c.args.self.now.reached 6 last),
  λ has. eq-eqb c.args.self.now.reached 6 (sym same.reached ∙ end_reached forms has),
)
