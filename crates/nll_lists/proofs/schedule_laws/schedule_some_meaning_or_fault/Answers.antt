use Rattle.nll_lists.proofs.ScheduleLawLemmas.{some_meaning_or_fault_lem}
use Rattle.nll_lists.proofs.schedule_laws.schedule_some_meaning_or_fault.Goals as goal

pub returns : goal.returns
returns c = some_meaning_or_fault_lem
