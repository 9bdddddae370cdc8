use Rattle.std.proofs.Common.{option_map, string_bytes, subst}
use Rattle.std.proofs.lemmas.Result.{err_from_is_err_and}
use Rattle.nll_report.specs.Owners.{IsAskedCut}
use Rattle.nll_report.proofs.OwnerLemmas.{run_told}
use Rattle.nll_report.proofs.owners.told_by_owners.Goals as goal

pub returns-in_err-told-clause-err : goal.returns-in_err-told-clause-err
returns-in_err-told-clause-err g c =
    let p = err_from_is_err_and c.from_residual-in_err-told.result c.from_residual-in_err-told.ensures.1 in
    rw p.1 (run_told (g.T.Texts.holds c.args.texts.now) (g.T.Texts.lacks c.args.texts.now) c.args.facts.now.problem
    c.args.owners.cut.count c.args.owners.cut.deal (option_map string_bytes c.args.owners.cut.path) c.in_ok-cut.cut
    (subst (λ n. IsAskedCut (g.T.Texts.holds c.args.texts.now) n c.args.owners.cut.count c.args.owners.cut.deal
    (option_map string_bytes c.args.owners.cut.path) c.in_ok-cut.cut) c.regions.ensures.value c.in_ok-cut.ensures.asked)
    _ _ p.2 c.in_err-told.ensures.err)

pub returns-clause-ok : goal.returns-clause-ok
returns-clause-ok g c = record {
  cut = c.in_ok-cut.cut;
  asked = subst (λ n. IsAskedCut (g.T.Texts.holds c.args.texts.now) n c.args.owners.cut.count c.args.owners.cut.deal
      (option_map string_bytes c.args.owners.cut.path) c.in_ok-cut.cut) c.regions.ensures.value
      c.in_ok-cut.ensures.asked;
  told = c.in_ok-told.ensures.ok;
}
