use Rattle.std.proofs.Common.{sym, ◌∙◌}
use Rattle.keeper.proofs.WholeLemmas.{whole_after, done_after}
use Rattle.keeper.proofs.keepers.KeepersAnalysis.load.Goals as goal

pub load_all-told-requires-clause-quiet : goal.load_all-told-requires-clause-quiet
load_all-told-requires-clause-quiet g c = (c.part.invariant.1 (sym c.if-is_broken.ensures)).quiet

pub load_all-told-requires-clause-fresh : goal.load_all-told-requires-clause-fresh
load_all-told-requires-clause-fresh g c =
    (c.part.invariant.1 (sym c.if-is_broken.ensures)).fresh
    ((rw (← c.part.view_is) at c.requires) (sym c.if-is_broken.ensures))

pub invariant_of-part : goal.invariant_of-part
invariant_of-part g c = (
  c.mark.ensures.sound,
  whole_after g.E.Rules.rules _ _ _ _ c.load_all-told.new.book c.mark.new.self c.load_all-told.result c.is_ok.result
      c.is_err.result (λ h. c.is_ok.ensures.value ∙ h) c.is_err.ensures.value c.mark.ensures.marks
      c.load_all-told.ensures.quiet c.load_all-told.ensures.done,
)

pub returns-clause-done : goal.returns-clause-done
returns-clause-done g c =
    done_after g.E.Rules.rules c.answer.result c.load_all-told.result c.load_all-told.new.book c.mark.new.self
    c.is_ok.result c.is_err.result c.answer.ensures.ok c.mark.ensures.marks c.load_all-told.ensures.done
