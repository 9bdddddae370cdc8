use Rattle.std.proofs.Common.{refl}
use Rattle.std.proofs.lemmas.Bool.{false≢true}
use Rattle.nll_mir_text.proofs.header.is_mir_header.Goals as goal

pub returns-in-Some : goal.returns-in-Some
returns-in-Some c = (λ h. (c.in-Some._version, c.in-Some.ensures), λ h. refl)

pub returns-in-None : goal.returns-in-None
returns-in-None c = (λ h. absurd (false≢true h), λ h. absurd (c.in-None.ensures h.0 h.1))
