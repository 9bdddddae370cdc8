use Rattle.nll_lists.proofs.ScheduleLawLemmas.{one_meaning_lem}
use Rattle.nll_lists.proofs.schedule_laws.schedule_one_meaning.Goals as goal

pub returns : goal.returns
returns c = one_meaning_lem
