use Rattle.std.proofs.Common.{◌∙◌}
use Rattle.std.proofs.lemmas.Result.{on_ok_weaker}
use Rattle.nll_core.specs.Search.{IsIn}
use Rattle.nll_core.specs.Frontiers.{IsBeside, IsFrontierIn}
use Rattle.nll_core.proofs.FrontierLemmas.{frontier_alike, beside_filled, beside_sound}
use Rattle.nll_tests.proofs.frontiers.grow.Goals as goal
use Rattle.nll_tests.proofs.frontiers.grow.Goals.{In_ok-insert_run}

-- the frontier has what is asked for beside the run that came
exact : (c : In_ok-insert_run)
    → IsFrontierIn c.args.steps.now (IsBeside c.insert_run.new.self c.in-Some.gap) c.args.frontier.now
exact c =
    let gap = c.in-Some.ensures.some in
    frontier_alike c.args.steps.now (IsIn c.args.seen.now)
    (IsBeside c.insert_run.new.self c.in-Some.gap) c.args.frontier.now
    (beside_filled c.args.seen.now c.insert_run.new.self c.in-Some.gap c.in_ok-insert_run.ensures.ok
    (λ x own. gap.lacks x own.0 own.1)) c.requires.reached

pub grow_run-requires : goal.grow_run-requires
grow_run-requires c =
    let d = (goal.at.grow_run-requires c).In_ok-insert_run in
    let fills = c.in_ok-insert_run.ensures.ok in
    record {
      width = fills.width ∙ c.requires.width;
      proper = c.in-Some.ensures.some.proper;
      inside = λ x own. fills.filled x own.0 own.1;
      starts = c.requires.starts;
      fits = λ _. c.requires.fits;
      sound = λ _. beside_sound c.args.steps.now c.insert_run.new.self c.in-Some.gap c.args.frontier.now (exact d);
    }

pub returns-clause-reached : goal.returns-clause-reached
returns-clause-reached c =
    let d = (goal.at.returns-clause-reached c).In_ok-insert_run in
    on_ok_weaker c.grow_run.result (λ grown. grown.exact (exact d)) c.grow_run.ensures.ok
