use Rattle.keeper.proofs.KeepingLemmas.{marked_kept}
use Rattle.keeper.proofs.book.Book.mark.Goals as goal

pub invariant_of-self : goal.invariant_of-self
invariant_of-self g c = marked_kept g.E.Rules.rules
    g.met.E.Rules.lawful
    _ _ _ _ c.self.invariant

pub returns-clause-sound : goal.returns-clause-sound
returns-clause-sound g c = (marked_kept g.E.Rules.rules
    g.met.E.Rules.lawful
    _ _ c.args.loaded c.args.broken c.self.invariant).sound
