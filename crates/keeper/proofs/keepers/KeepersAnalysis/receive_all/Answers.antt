use Rattle.std.proofs.Common.{sym, ◌∙◌}
use Rattle.keeper.proofs.WholeLemmas.{whole_after, done_after}
use Rattle.keeper.proofs.keepers.KeepersAnalysis.receive_all.Goals as goal

pub take_in-told-requires-clause-quiet : goal.take_in-told-requires-clause-quiet
take_in-told-requires-clause-quiet g c = (c.part.invariant.1 (sym c.if-is_broken.ensures)).quiet

pub take_in-told-requires-clause-done : goal.take_in-told-requires-clause-done
take_in-told-requires-clause-done g c =
    (c.part.invariant.1 (sym c.if-is_broken.ensures)).done
    ((rw (← c.part.view_is) at c.requires.ready) (sym c.if-is_broken.ensures))

pub take_in-told-requires-clause-passes : goal.take_in-told-requires-clause-passes
take_in-told-requires-clause-passes g c = rw (← c.part.view_is) at c.requires.passes

pub invariant_of-part : goal.invariant_of-part
invariant_of-part g c = (
  c.mark.ensures.sound,
  whole_after g.E.Rules.rules _ _ _ _ c.take_in-told.new.book c.mark.new.self c.take_in-told.result
      c.is_loaded-loaded.result c.is_err.result
      (λ _. c.is_loaded-loaded.ensures
      ∙ (rw (← c.part.view_is) at c.requires.ready) (sym c.if-is_broken.ensures))
      c.is_err.ensures.value c.mark.ensures.marks c.take_in-told.ensures.quiet c.take_in-told.ensures.done,
)

pub returns-clause-done : goal.returns-clause-done
returns-clause-done g c =
    done_after g.E.Rules.rules c.answer.result c.take_in-told.result c.take_in-told.new.book c.mark.new.self
    c.is_loaded-loaded.result c.is_err.result c.answer.ensures.ok c.mark.ensures.marks c.take_in-told.ensures.done
