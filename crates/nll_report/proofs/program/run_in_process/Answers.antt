use Rattle.std.proofs.Common.{sym, inl, refl, []}
use Rattle.nll_report.proofs.RunLemmas.{lost_words}
use Rattle.nll_report.proofs.program.run_in_process.Goals as goal

pub returns-in-Err-clause-told : goal.returns-in-Err-clause-told
returns-in-Err-clause-told g c _ = (
  [],
  c.in-Err.lost,
  sym c.tell.ensures.status,
  inl (refl, lost_words _ _ _ c.in-Err.ensures.lost),
  c.tell.ensures.told,
)
