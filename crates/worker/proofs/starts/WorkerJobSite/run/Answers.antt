use Rattle.std.proofs.Common.{sym, subst}
use Rattle.worker.specs.Finishing.{EndsAs}
use Rattle.worker.proofs.starts.WorkerJobSite.run.Goals as goal

pub returns-in-Failed : goal.returns-in-Failed
returns-in-Failed g c = (
  c.call_off.ensures.ended c.args.site.now.analysis.now,
  subst (λ s. EndsAs s c.call_off.result.ending) (sym c.in-Failed.is) c.call_off.ensures.ending,
)

pub returns-in-Refused : goal.returns-in-Refused
returns-in-Refused g c = (
  c.call_off-in-Refused.ensures.ended c.args.site.now.analysis.now,
  subst (λ s. EndsAs s c.call_off-in-Refused.result.ending) (sym c.in-Refused.is) c.call_off-in-Refused.ensures.ending,
)
