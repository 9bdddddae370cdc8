use Rattle.std.proofs.Common.{inl, ⊎_elim}
use Rattle.std.proofs.lemmas.Bool.{false≢true}
use Rattle.keeper.proofs.OwnLemmas.{finds_first}
use Rattle.reach.specs.Reach.{rules_of_reach}
use Rattle.reach.proofs.reach.GraphEngine.begin.Goals as goal

pub returns : goal.returns
returns c =
    finds_first rules_of_reach c.args.self.now c.args.me c.args.self.now.roots.now
    (λ x. (⊎_elim (λ h. h) (λ w. absurd (false≢true w.2)), inl))
    c.push_own.result _ _ (rw c.roots-roots.ensures at c.push_own.ensures)
