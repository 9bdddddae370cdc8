use Rattle.std.proofs.Common.{sym, subst}
use Rattle.std.proofs.lemmas.Result.{IfOk-weaker}
use Rattle.nll_lists.specs.CutText.{MeansCut}
use Rattle.nll_report.specs.Owners.{IsTextCut}
use Rattle.nll_report.proofs.OwnerLemmas.{listed_ok, taken_ok}
use Rattle.nll_report.proofs.owners.listed_cut.Goals as goal

pub returns-in-Ok-clause-listed : goal.returns-in-Ok-clause-listed
returns-in-Ok-clause-listed c =
    let made = c.from_list.result in
    let list = c.as_slice-in-Ok.result.now in
    taken_ok made c.taken.result c.taken.ensures.ok c.taken.ensures.err
    (IsTextCut c.args.regions c.args.count c.args.text.items)
    (IfOk-weaker made _ _ (λ cut h. (
      list,
      subst (λ text. MeansCut text list) c.as_slice.ensures.value
          (subst (λ owners. MeansCut c.as_slice.result.now owners) (sym c.as_slice-in-Ok.ensures.value)
          c.in-Ok.ensures.ok),
      h.0,
      h.1,
    ))
    (listed_ok c.args.regions c.args.count list made c.requires c.from_list.ensures.answers c.from_list.ensures.ok))
