use Rattle.std.proofs.Common.{map}
use Rattle.run.specs.Outcome as generic
use Rattle.nll_owner.specs.Regions.{YieldsValues, rules, system_of}
use Rattle.nll_run.proofs.OutcomeLemmas.{have_values, is_outcome}
use Rattle.nll_run.proofs.coordinator.conclude.Goals as goal

pub returns-in-Ok-clause-ok : goal.returns-in-Ok-clause-ok
returns-in-Ok-clause-ok g c =
    let q = c.args.problem.now in
    let cut = c.args.cut.now in
    let ran = c.in_ok-yields.field-0 in
    let logs = map (λ list. list.items) ran.grown.items in
    let o : generic.IsOutcome rules YieldsValues g.M.Mail (system_of q cut) logs ran.yields.items ran.posts.items =
    rw c.in_ok-yields.was at c.requires.ran in
    is_outcome g.M.Mail q cut logs ran.yields.items ran.posts.items o c.in-Ok.values c.in-Ok.ensures.shaped
    (c.in-Ok.ensures.held logs (have_values g.M.Mail q cut logs ran.yields.items ran.posts.items o))
