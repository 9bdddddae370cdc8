use Rattle.std.proofs.Common.{ap, sym, ◌∙◌}
use Rattle.nll_mir_text.specs.MirSaid.{Said}
use Rattle.nll_mir_text.specs.MirSteps.{has_reached}
use Rattle.nll_mir_text.specs.declared.groups.Group.TheVariants as groups
use Rattle.nll_mir_text.proofs.SaidLemmas.{ended, end_reached}
use Rattle.nll_mir_text.proofs.reader.ReaderLineReaderVersion.has_ended.Goals as goal

pub returns : goal.returns
returns c = λ forms same.
    let told = ap (λ (s : Said). has_reached s groups.End) same ∙ sym c.has_reached.ensures in
    (λ last. ended forms (told ∙ last), λ has. sym told ∙ end_reached forms has)
