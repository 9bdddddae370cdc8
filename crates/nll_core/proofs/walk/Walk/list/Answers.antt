use Rattle.std.proofs.Common.{List, ◌++◌, ap, subst, sym, ◌∙◌}
use Rattle.nll_sets.specs.Runs.{MakeUp}
use Rattle.nll_sets.specs.declared.run.Run.{Run}
use Rattle.nll_core.proofs.walk.Walk.list.Goals as goal

pub returns-clause-make_up : goal.returns-clause-make_up
returns-clause-make_up c =
    let runs = c.as_runs.result.now in
    let listed = c.in_ok-extend_from_slice.ensures.items ∙ ap (λ (xs : List Run). xs ++ runs) c.clear.ensures.items in
    subst (λ (xs : List Run). MakeUp xs c.args.set.now) (sym listed) c.as_runs.ensures.make_up
