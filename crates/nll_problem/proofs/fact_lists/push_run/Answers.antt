use Rattle.std.proofs.Common.{◌∷◌, [], List, subst, sym, ◌∙◌, rules}
use Rattle.std.proofs.lemmas.List.Elements.{Contains-append_left}
use Rattle.nll_problem.specs.BaseRuns.{AreInRuns}
use Rattle.nll_problem.specs.declared.base_run.BaseRun.{BaseRun}
use Rattle.nll_problem.proofs.BaseRunLemmas.{repeated_run}
use Rattle.nll_problem.proofs.fact_lists.push_run.Goals as goal
use Rattle.nll_problem.proofs.fact_lists.push_run.Goals.{else-is_err-via-then-is_err+else-has_run, else-is_err-via-else-is_err}

pub returns-then-has_run-clause-ok : goal.returns-then-has_run-clause-ok
returns-then-has_run-clause-ok c =
    rw c.reserve-room.ensures.items (repeated_run c.args.runs.now.items c.args.run
    (subst (λ (xs : List BaseRun). AreInRuns xs c.args.run) (c.as_slice.ensures.value ∙ c.reserve-room.ensures.items)
    (c.has_run.ensures.0 c.if-has_run.true)))

pub returns-in_err-room-clause-each : goal.returns-in_err-room-clause-each
returns-in_err-room-clause-each c =
    rw c.reserve-room.ensures.items (Contains-append_left c.args.runs.now.items (c.args.run ∷ []))

pub returns-in_err-room-clause-repeated : goal.returns-in_err-room-clause-repeated
returns-in_err-room-clause-repeated c = λ there.
    elim c.else-is_err.branch [
      | else-is_err-via-then-is_err+else-has_run w ↦
          let found = w.has_run.ensures.1 (subst (λ (xs : List BaseRun). AreInRuns xs c.args.run)
          (sym (w.as_slice.ensures.value ∙ c.reserve-room.ensures.items)) there) in
          search rules
      | else-is_err-via-else-is_err w ↦ search rules
    ]
