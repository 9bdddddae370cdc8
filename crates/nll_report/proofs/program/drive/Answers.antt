use Rattle.std.proofs.Common.{sym, inr, refl}
use Rattle.nll_report.specs.declared.messages.Refusal.TheVariants.{CannotWrite}
use Rattle.nll_report.proofs.RunLemmas.{begun_by}
use Rattle.nll_report.proofs.program.drive.Goals as goal

pub returns-in-Ok-clause-told : goal.returns-in-Ok-clause-told
returns-in-Ok-clause-told g c _ = (
  CannotWrite,
  sym c.tell.ensures.status,
  inr (
    refl,
    begun_by _ _ c.in-Ok.status _ _ _ c.in-Ok.bytes.items _ c.in-Err-put.field-0.written c.in-Ok.ensures.ok
        c.as_slice.ensures.value c.in-Err-put.ensures.first c.in-Err-put.ensures.refused,
  ),
  c.tell.ensures.told,
)
