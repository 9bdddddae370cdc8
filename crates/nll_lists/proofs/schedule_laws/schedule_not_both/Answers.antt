use Rattle.nll_lists.proofs.ScheduleLawLemmas.{not_both_lem}
use Rattle.nll_lists.proofs.schedule_laws.schedule_not_both.Goals as goal

pub returns : goal.returns
returns c = not_both_lem
