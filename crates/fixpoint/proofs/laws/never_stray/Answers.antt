use Rattle.std.proofs.Common.{subst}
use Rattle.fixpoint.proofs.RunLemmas.{not_stray}
use Rattle.fixpoint.proofs.laws.never_stray.Goals as goal

pub returns : goal.returns
returns g c = λ a state sent got rest owed cleared ending ends tied i low.
    not_stray g.A.Rules.rules
    g.met.A.Rules.lawful a
    (subst g.A.Rules.rules.valid (ends i low).system (ends i low).sound.valid) state sent got rest owed cleared ending
    ends tied i low
