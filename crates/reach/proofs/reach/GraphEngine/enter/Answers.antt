use Rattle.std.proofs.Common.{Contains, inl, inr, ⊎_elim, subst, sym, rules}
use Rattle.std.proofs.lemmas.Bool.{eqb-true, eq-eqb}
use Rattle.keeper.proofs.OwnLemmas.{finds_more}
use Rattle.reach.specs.Reach.{ends, rules_of_reach as reach_rules}
use Rattle.reach.proofs.reach.GraphEngine.enter.Goals as goal

pub returns-clause-found : goal.returns-clause-found
returns-clause-found c =
    let a = c.args.self.now in
    finds_more reach_rules a c.args.me (λ x y. (eqb-true x y, eq-eqb x y)) c.args.fact _ _
    (ends a c.args.fact) (search rules)
    (λ known here x h. inr (c.args.fact, h, here))
    (λ known cases x. ⊎_elim (λ r. inl (inl r)) (λ w. ⊎_elim
    (λ same. inr (subst (λ y. Contains (ends a y) x) (sym same) w.1))
    (λ before. inl (inr (w.0, w.1, before)))
    (cases w.0 w.2)))
    c.push_own.result _ _ (rw c.ends-ends.ensures at c.push_own.ensures)
