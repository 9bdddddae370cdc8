use Rattle.std.proofs.Common.{◌≡◌, ◌+◌, ◌-◌, ◌++◌, ap, ◌∙◌, arith}
use Rattle.std.proofs.lemmas.Result.{IfOk-from_err}
use Rattle.nll_owner.specs.Keeping.{growths}
use Rattle.nll_owner.proofs.OwnerLemmas.{grows_none, clock_low}
use Rattle.nll_owner.proofs.OwnGrowthLemmas.{run_kept, run_grows, run_has}
use Rattle.nll_owner.proofs.knowledge.Knowledge.grow_gap.Goals as goal
use Rattle.nll_owner.proofs.knowledge.Knowledge.grow_gap.Goals.{After-push_growths}

log_is : (c : After-push_growths) → c.push_growths.new.log.items
    ≡ c.self.inside.log.items ++ growths c.args.region c.args.gap.first c.self.inside.clock
    (c.args.gap.last - c.args.gap.first + 1)
log_is c =
    c.push_growths.ensures ∙ ap (λ xs. xs ++ growths c.args.region c.args.gap.first c.self.inside.clock
    (c.args.gap.last - c.args.gap.first + 1)) c.reserve.ensures.items

pub invariant_of-self-2 : goal.invariant_of-self-2
invariant_of-self-2 c =
    let d = (goal.at.invariant_of-self-2 c).After-push_growths in
    rw (log_is d)
    (run_kept _ _ _ c.insert_run.new.self c.self.invariant c.args.region c.args.slot
    (rw (← c.self.view_is) at c.requires.slot) c.args.gap
    (rw (← c.self.view_is) at c.requires.own) c.requires.proper (rw (← c.self.view_is) at c.requires.elements)
    (rw (← c.self.view_is) at c.requires.called) (rw (← c.self.view_is) at c.requires.lacks)
    c.in_ok-insert_run.ensures.gains c.in_ok-insert_run.ensures.covers c.in_ok-insert_run.ensures.fewer)

pub returns-clause-grows : goal.returns-clause-grows
returns-clause-grows c =
    let d = (goal.at.returns-clause-grows c).After-push_growths in
    rw (← c.self.view_is, log_is d)
    (run_grows _ _ _ c.insert_run.new.self c.self.invariant c.args.region c.args.slot
    (rw (← c.self.view_is) at c.requires.slot) c.args.gap
    (rw (← c.self.view_is) at c.requires.own) c.requires.proper (rw (← c.self.view_is) at c.requires.elements)
    (rw (← c.self.view_is) at c.requires.called) (rw (← c.self.view_is) at c.requires.lacks)
    c.in_ok-insert_run.ensures.gains c.in_ok-insert_run.ensures.covers c.in_ok-insert_run.ensures.fewer)

pub returns-clause-covers : goal.returns-clause-covers
returns-clause-covers c =
    let d = (goal.at.returns-clause-covers c).After-push_growths in
    rw (log_is d)
    (run_has _ _ _ c.insert_run.new.self c.self.invariant c.args.region c.args.slot
    (rw (← c.self.view_is) at c.requires.slot) c.args.gap
    (rw (← c.self.view_is) at c.requires.own) c.requires.proper (rw (← c.self.view_is) at c.requires.elements)
    (rw (← c.self.view_is) at c.requires.called) (rw (← c.self.view_is) at c.requires.lacks)
    c.in_ok-insert_run.ensures.gains c.in_ok-insert_run.ensures.covers c.in_ok-insert_run.ensures.fewer)

pub overflow_add-count : goal.overflow_add-count
overflow_add-count c =
    let elements = rw (← c.self.view_is) at c.requires.elements in
    let graph = c.self.invariant.sound.problem.graph in
    omega (arith, elements, graph.point_limit, graph.universal_limit)

pub push_growths-requires-clause-ranks : goal.push_growths-requires-clause-ranks
push_growths-requires-clause-ranks c =
    (let low = clock_low _ c.self.invariant.sound in let elements = rw (← c.self.view_is) at c.requires.elements in
    let graph = c.self.invariant.sound.problem.graph in
    omega (arith, low, elements, graph.point_limit, graph.universal_limit))

pub overflow_add-self : goal.overflow_add-self
overflow_add-self c =
    (let low = clock_low _ c.self.invariant.sound in let elements = rw (← c.self.view_is) at c.requires.elements in
    let graph = c.self.invariant.sound.problem.graph in
    omega (arith, low, elements, graph.point_limit, graph.universal_limit))

pub invariant_of-self-in_err-insert_run : goal.invariant_of-self-in_err-insert_run
invariant_of-self-in_err-insert_run c =
    rw (c.reserve.ensures.items, c.in_err-insert_run.ensures.err) c.self.invariant

pub returns-in_err-insert_run-clause-grows : goal.returns-in_err-insert_run-clause-grows
returns-in_err-insert_run-clause-grows c =
    rw (← c.self.view_is, c.reserve.ensures.items) (grows_none _ c.self.invariant.sound)

pub returns-in_err-insert_run-clause-covers : goal.returns-in_err-insert_run-clause-covers
returns-in_err-insert_run-clause-covers c =
    IfOk-from_err c.from_residual-in_err-insert_run.result _ c.from_residual-in_err-insert_run.ensures.0

pub returns-in_err-reserve-clause-covers : goal.returns-in_err-reserve-clause-covers
returns-in_err-reserve-clause-covers c = IfOk-from_err c.from_residual.result _ c.from_residual.ensures.0

pub overflow_cast-count : goal.overflow_cast-count
overflow_cast-count c =
    let elements = rw (← c.self.view_is) at c.requires.elements in
    let graph = c.self.invariant.sound.problem.graph in
    omega (arith, elements, graph.point_limit, graph.universal_limit)
