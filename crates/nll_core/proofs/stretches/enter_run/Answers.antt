use Rattle.std.proofs.Common.{Bool, List, refl, subst, sym, arith}
use Rattle.nll_problem.specs.Walks.{Reaches}
use Rattle.nll_core.specs.Search.{IsIn}
use Rattle.nll_core.specs.Walking.{GrowsByRuns}
use Rattle.nll_sets.specs.Runs.{IsRunFrom}
use Rattle.nll_sets.specs.declared.run.Run.{Run}
use Rattle.nll_core.proofs.WalkingLemmas.{grows_stretch, line_closed, stretch_of}
use Rattle.nll_core.proofs.LedWalkLemmas.{settled_entry}
use Rattle.nll_core.proofs.stretches.enter_run.Goals as goal
use Rattle.nll_core.proofs.stretches.enter_run.Goals.{In_ok-push}

grows : (c : In_ok-push) (sub : List Bool) → IsRunFrom sub c.args.point c.args.inside
    → GrowsByRuns c.args.lines.now sub (Reaches c.args.lines.now (IsIn sub) c.args.point) c.args.reached.now
    c.insert_run.new.self c.args.todo.now.items c.push.new.self.items
grows c sub from =
    let graph = c.args.lines.now in
    let run : Run = record { first = c.args.point; last = c.min.result } in
    let s = stretch_of graph sub c.args.reached.now c.args.point c.line_end.result c.args.limit c.min-last.result
    c.args.inside run c.line_end.ensures from (omega (arith, c.requires.inside.0)) c.requires.free
    c.min-last.ensures refl c.min.ensures
    (omega (arith, c.points-points.ensures.sound.point_limit, c.points-points.ensures.value))
    in
    subst (λ (items : List Run). GrowsByRuns graph sub
    (Reaches graph (IsIn sub) c.args.point) c.args.reached.now c.insert_run.new.self c.args.todo.now.items items)
    (sym c.in_ok-push.ensures.items)
    (grows_stretch graph sub c.args.reached.now c.insert_run.new.self c.args.todo.now.items c.args.point run s
    c.in_ok-insert_run.ensures.ok)

pub returns-clause-grows : goal.returns-clause-grows
returns-clause-grows c = grows (goal.at.returns-clause-grows c).In_ok-push

pub returns-clause-settled : goal.returns-clause-settled
returns-clause-settled c = λ sub from closed x a b.
    let d = (goal.at.returns-clause-settled c).In_ok-push in
    settled_entry c.args.lines.now sub c.insert_run.new.self c.args.point c.min-last.result
    (line_closed c.args.lines.now sub (Reaches c.args.lines.now (IsIn sub) c.args.point) _ _ _ _
    (grows d sub from) closed)
    (c.in_ok-insert_run.ensures.ok.filled c.args.point (omega arith)
    (omega (
      arith,
      c.min.ensures,
      c.min-last.ensures,
      c.requires.free.above,
      c.line_end.ensures.above,
      c.requires.inside.1,
    )))
    (λ y h k. c.line_end.ensures.line y h (omega (arith, k, c.min-last.ensures)))
    (λ y h k. from.all y (omega (arith, h, c.requires.inside.0)) (omega (arith, k, c.min-last.ensures)))
    x a (omega (arith, b))
