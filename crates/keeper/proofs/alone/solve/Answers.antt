use Rattle.std.proofs.Common.{◌≡◌, ◌∙◌, ap, sym}
use Rattle.fixpoint.specs.State.{State}
use Rattle.keeper.proofs.AloneLemmas.{tells_least, logs_sound, logs_ranked}
use Rattle.keeper.proofs.FirstPartLemmas.{first_has}
use Rattle.keeper.proofs.DueLemmas.{due_first}
use Rattle.keeper.proofs.alone.solve.Goals as goal

pub settle-requires-clause-store : goal.settle-requires-clause-store
settle-requires-clause-store g c = λ f.
    let sound = (rw (c.book.view_is, c.in_ok-book.ensures) at c.book.invariant.sound) in
    rw c.in_ok-book.ensures
    (c.in_ok-store.ensures f
    ∙ sym (first_has g.E.Rules.rules g.met.E.Rules.lawful c.args.engine.now sound.valid 0 sound.me f))

pub settle-requires-clause-due : goal.settle-requires-clause-due
settle-requires-clause-due g c =
    let sound = (rw (c.book.view_is, c.in_ok-book.ensures) at c.book.invariant.sound) in
    let r = g.E.Rules.rules in
    let law = g.met.E.Rules.lawful in
    rw c.in_ok-book.ensures
    (due_first r law c.args.engine.now sound.valid 0 _ c.new-due.result.items c.begin.new.found.items
    (first_has r law c.args.engine.now sound.valid 0 sound.me) c.new-due.ensures.items c.in_ok-begin.ensures)

pub returns : goal.returns
returns g c =
    let r = g.E.Rules.rules in
    let law = g.met.E.Rules.lawful in
    let o = c.settle.new.book in
    let done = c.in_ok-settle.ensures.done in
    let is : o.system ≡ c.args.engine.now = ap (λ (s : State _ _). s.system) c.settle.ensures.grows.others
    ∙ ap (λ (s : State _ _). s.system) c.in_ok-book.ensures in
    rw (c.into_log.ensures, ← is) (record {
      exact = tells_least r law o (rw is c.requires) c.settle.ensures.sound done;
      sound = logs_sound r law o (rw is c.requires) c.settle.ensures.sound done;
      ranked = logs_ranked r law o (rw is c.requires) c.settle.ensures.sound done;
    })
