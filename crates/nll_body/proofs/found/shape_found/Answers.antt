use Rattle.std.proofs.Common.{◌∙◌, ap, Some}
use Rattle.nll_body.proofs.MeetingLemmas.{small_agrees}
use Rattle.nll_body.proofs.found.shape_found.Goals as goal

pub returns-clause-found : goal.returns-clause-found
returns-clause-found c = λ t e. record { shape = ap Some e; small = c.is_small.ensures ∙ small_agrees t _ e }
