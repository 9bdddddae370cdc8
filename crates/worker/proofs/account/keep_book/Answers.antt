use Rattle.std.proofs.Common.{arith}
use Rattle.worker.proofs.TallyLemmas.{due_small}
use Rattle.worker.proofs.account.keep_book.Goals as goal

pub owe-requires-clause-few : goal.owe-requires-clause-few
owe-requires-clause-few g c =
    let w = c.requires.grew in
    let more = c.count_new-count.ensures.more w.0 w.1 w.2 in
    let lawful = g.met.A.Rules.lawful in
    let small = due_small g.A.Rules.rules (g.A.Analysis.state c.args.part.now) c.requires.sound
    (lawful.few _ c.requires.sound.valid).1 in
    (omega (arith, more, small), omega (arith, more, small, w.3))

pub returns-clause-owes : goal.returns-clause-owes
returns-clause-owes g c =
    let w = c.requires.grew in
    let more = c.count_new-count.ensures.more w.0 w.1 w.2 in
    omega (arith, c.clear.ensures.same.0, c.owe.ensures.owed, more, w.3)
