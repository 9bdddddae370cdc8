use Rattle.std.proofs.Common.{◌<◌, length, arith}
use Rattle.fixpoint.specs.State.{part_for, given_to}
use Rattle.worker.proofs.TallyLemmas.{all_counted, part_few, sum_next, counted_same, due_none, waiting_grows, due_more}
use Rattle.worker.proofs.tally.count_new.Goals as goal

pub returns-then-grown-tally-clause-counted : goal.returns-then-grown-tally-clause-counted
returns-then-grown-tally-clause-counted g c =
    let e = c.if-grown-tally.true in
    let w = c.requires.grew in
    counted_same g.A.Rules.rules w.0 (g.A.Analysis.state c.args.part.now) w.1 c.args.tally.now w.2 (omega (
      arith,
      e,
      c.grown-grown.ensures,
    ))

pub returns-then-grown-tally-clause-more : goal.returns-then-grown-tally-clause-more
returns-then-grown-tally-clause-more g c = λ before h was.
    let e = c.if-grown-tally.true in
    due_none g.A.Rules.rules before (g.A.Analysis.state c.args.part.now) h c.args.tally.now was (omega (
      arith,
      e,
      c.grown-grown.ensures,
    ))

pub overflow_add-waiting : goal.overflow_add-waiting
overflow_add-waiting g c =
    let lawful = g.met.A.Rules.lawful in
    let few =
    part_few g.A.Rules.rules (g.A.Analysis.state c.args.part.now) c.loop-to.to c.unsent-waiting.ensures.sound in
    let inside : c.loop-to.to < (g.A.Rules.rules.parts (g.A.Analysis.state c.args.part.now).system) =
    omega (arith, c.loop-to-test.true, c.owners-to-end.ensures.value) in
    let count = c.unsent-waiting.ensures.count c.requires.whole inside in
    omega (
      arith,
      few,
      count,
      c.loop-to.invariant.1,
      c.owners-to-end.ensures.value,
      (lawful.few _ c.owners-to-end.ensures.sound.valid).1,
      c.loop-to-test.true,
    )

pub loop-to-preserved : goal.loop-to-preserved
loop-to-preserved g c =
    let few =
    part_few g.A.Rules.rules (g.A.Analysis.state c.args.part.now) c.loop-to.to c.unsent-waiting.ensures.sound in
    let inside : c.loop-to.to < (g.A.Rules.rules.parts (g.A.Analysis.state c.args.part.now).system) =
    omega (arith, c.loop-to-test.true, c.owners-to-end.ensures.value) in
    let count = c.unsent-waiting.ensures.count c.requires.whole inside in
    let s = sum_next c.loop-to.to (λ j. given_to (g.A.Analysis.state c.args.part.now) j) in
    let p = sum_next c.loop-to.to (λ j. length (part_for g.A.Rules.rules (g.A.Analysis.state c.args.part.now) j)) in
    (omega (arith, s, p, count, c.loop-to.invariant.0), omega (arith, few, count, c.loop-to.invariant.1))

pub overflow_sub-new : goal.overflow_sub-new
overflow_sub-new g c =
    let w = c.requires.grew in
    let o = g.A.Analysis.state c.args.part.now in
    waiting_grows g.A.Rules.rules w.0 o w.1 c.args.tally.now w.2 c.loop-to.waiting
    (all_counted g.A.Rules.rules o c.loop-to.to c.loop-to.waiting
    (omega (arith, c.loop-to-test.false, c.loop-to.auto.to-end, c.owners-to-end.ensures.value))
    c.loop-to.invariant.0)

pub returns-clause-more : goal.returns-clause-more
returns-clause-more g c = λ before h was.
    let o = g.A.Analysis.state c.args.part.now in
    let count =
    all_counted g.A.Rules.rules o c.loop-to.to c.loop-to.waiting
    (omega (arith, c.loop-to-test.false, c.loop-to.auto.to-end, c.owners-to-end.ensures.value))
    c.loop-to.invariant.0 in
    let small = waiting_grows g.A.Rules.rules before o h c.args.tally.now was c.loop-to.waiting count in
    due_more g.A.Rules.rules before o h c.args.tally.now was c.loop-to.waiting _ count (omega (arith, small))
