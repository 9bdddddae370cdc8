use Rattle.nll_lists.proofs.ScheduleLawLemmas.{never_at_end_lem}
use Rattle.nll_lists.proofs.schedule_laws.schedule_never_at_end.Goals as goal

pub returns : goal.returns
returns c = never_at_end_lem
