use Rattle.nll_lists.proofs.ScheduleLawLemmas.{one_fault_lem}
use Rattle.nll_lists.proofs.schedule_laws.schedule_one_fault.Goals as goal

pub returns : goal.returns
returns c = one_fault_lem
