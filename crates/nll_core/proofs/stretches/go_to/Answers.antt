use Rattle.std.proofs.Common.{sym, ◌∙◌, arith}
use Rattle.std.proofs.lemmas.Bool.{false≢true}
use Rattle.nll_problem.specs.Walks.{Reaches}
use Rattle.nll_core.specs.Search.{IsIn}
use Rattle.nll_core.proofs.WalkingLemmas.{grows_none}
use Rattle.nll_core.proofs.stretches.go_to.Goals as goal

pub returns-in-Ok-clause-grows : goal.returns-in-Ok-clause-grows
returns-in-Ok-clause-grows c =
    grows_none _ _ (Reaches c.args.lines.now (IsIn c.args.sub.now) c.args.point) c.args.reached.now
    c.args.todo.now.items

pub returns-in-Ok-clause-known : goal.returns-in-Ok-clause-known
returns-in-Ok-clause-known c = c.in-Ok.ensures.run

pub returns-in-Ok-clause-covers : goal.returns-in-Ok-clause-covers
returns-in-Ok-clause-covers c = λ _. c.in-Ok.ensures.has

pub returns-in_default-clause-grows : goal.returns-in_default-clause-grows
returns-in_default-clause-grows c =
    grows_none _ _ (Reaches c.args.lines.now (IsIn c.args.sub.now) c.args.point) c.args.reached.now
    c.args.todo.now.items

pub returns-in_default-clause-known : goal.returns-in_default-clause-known
returns-in_default-clause-known c = c.requires.known

pub returns-in_default-clause-covers : goal.returns-in_default-clause-covers
returns-in_default-clause-covers c =
    λ h. absurd (false≢true (sym ((rw c.in_default.is at c.run_near-at.ensures.none) c.args.point (omega arith)) ∙ h))

pub enter_run-requires-clause-inside : goal.enter_run-requires-clause-inside
enter_run-requires-clause-inside c = (c.if-inside-point.true, (rw c.in-Some.is at c.run_near-at.ensures.some).reach)

pub returns-in_ok-enter_run-clause-grows : goal.returns-in_ok-enter_run-clause-grows
returns-in_ok-enter_run-clause-grows c =
    c.in_ok-enter_run.ensures.grows c.args.sub.now (rw c.in-Some.is at c.run_near-at.ensures.some)

pub returns-in_ok-enter_run-clause-known : goal.returns-in_ok-enter_run-clause-known
returns-in_ok-enter_run-clause-known c =
    λ x h. (c.in_ok-enter_run.ensures.grows c.args.sub.now (rw c.in-Some.is at c.run_near-at.ensures.some)).kept x
    (c.requires.known x h)

pub returns-in_ok-enter_run-clause-covers : goal.returns-in_ok-enter_run-clause-covers
returns-in_ok-enter_run-clause-covers c = λ _. c.in_ok-enter_run.ensures.covers

pub returns-else-inside-point-clause-grows : goal.returns-else-inside-point-clause-grows
returns-else-inside-point-clause-grows c =
    grows_none _ _ (Reaches c.args.lines.now (IsIn c.args.sub.now) c.args.point) c.args.reached.now
    c.args.todo.now.items

pub returns-else-inside-point-clause-known : goal.returns-else-inside-point-clause-known
returns-else-inside-point-clause-known c = c.requires.known

pub returns-else-inside-point-clause-covers : goal.returns-else-inside-point-clause-covers
returns-else-inside-point-clause-covers c =
    λ h. absurd (false≢true (sym ((rw c.in-Some.is at c.run_near-at.ensures.some).none c.args.point
    (omega arith) c.if-inside-point.false) ∙ h))
