use Rattle.std.proofs.Common.{◌≤◌, ◌∙◌, sym, arith, ⊎_elim}
use Rattle.std.proofs.lemmas.Bool.{cases_lt, false≢true}
use Rattle.nll_core.proofs.ResumeLemmas.{beginning_more}
use Rattle.nll_core.proofs.frontiers.continuation.enter_starts.Goals as goal

pub loop-start-preserved : goal.loop-start-preserved
loop-start-preserved c =
    let some = c.in-Some.ensures.some in
    let run = c.in-Some-run_from.ensures.some in
    let first : c.in-Some-run_from.entered.first ≤ c.in-Some.start = ⊎_elim
    (λ late. absurd (false≢true (sym (run.none c.in-Some.start (omega arith) late)
    ∙ c.in_ok-enter_point.ensures.covers)))
    (λ le. le)
    (cases_lt c.in-Some.start c.in-Some-run_from.entered.first) in
    beginning_more c.args.lines.now c.args.seen.now c.args.starts.now c.args.part.first c.args.reached.now
    c.loop-start.reached c.enter_point.new.reached c.args.found.now.items c.loop-start.found.items
    c.enter_point.new.found.items c.loop-start.next c.in-Some.start c.min-next.result
    some.0 some.1 c.in-Some.ensures.least c.loop-start.invariant c.in_ok-enter_point.ensures.grows
    (omega (arith, run.reach, some.1))
    (λ x after before. run.all x (omega (arith, first, after)) (omega (arith, before)))

pub returns-clause-covers : goal.returns-clause-covers
returns-clause-covers c = λ p at own. ⊎_elim
    (λ early. c.loop-start.invariant.covers p at own.0 early)
    (λ late. absurd (omega (arith, c.in_default.ensures.none p at late, own.1)))
    (cases_lt p c.loop-start.next)
