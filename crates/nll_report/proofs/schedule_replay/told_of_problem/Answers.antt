use Rattle.std.proofs.Common.{option_map, string_bytes, subst}
use Rattle.std.proofs.lemmas.Result.{IfOk-weaker}
use Rattle.nll_report.specs.Owners.{IsAskedCut}
use Rattle.nll_report.proofs.schedule_replay.told_of_problem.Goals as goal

pub returns-clause-ok : goal.returns-clause-ok
returns-clause-ok g c =
    IfOk-weaker c.told_by_cut-told.result _ _
    (λ report h. record {
      cut = c.in_ok-cut.cut;
      asked = subst (λ n. IsAskedCut (g.T.Texts.holds c.args.texts.now) n c.args.cut.count c.args.cut.deal
          (option_map string_bytes c.args.cut.path) c.in_ok-cut.cut) c.regions.ensures.value
          c.in_ok-cut.ensures.asked;
      told = h;
    })
    c.told_by_cut-told.ensures.ok
