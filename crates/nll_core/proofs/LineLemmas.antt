-- Where lines end.
use Rattle.std.proofs.Common.{◌≡◌, ℕ, ◌+◌, ◌-◌, List, [], length, sym, subst, ⊎_elim, arith}
use Rattle.std.proofs.lemmas.Bool.{cases_eq, cases_lt}
use Rattle.nll_problem.specs.Graph.{Graph, IsNext, IsSound}
use Rattle.nll_core.specs.Lines.{AreEndsTo, AreLineEnds}

module _ (g : Graph) where
  -- no point
  pub ends_none : AreEndsTo g 0 []
  ends_none =
      record {
        within = omega arith;
        each = λ x h. absurd (omega (arith, h));
        going = λ x a b. absurd (omega (arith, b));
      }

  -- a point behind which the line goes on
  pub ends_on : (p : ℕ) (ends : List ℕ) → IsNext g p (p + 1) → AreEndsTo g p ends → AreEndsTo g (p + 1) ends
  ends_on p ends next e = record {
    within = omega (arith, e.within);
    each = e.each;
    going = λ x a b. ⊎_elim (λ same. subst (λ y. IsNext g y (y + 1)) (sym same) next)
        (λ other. e.going x a (omega (arith, b, other))) (cases_eq x p);
  }

  -- all points
  pub ends_all : (ends : List ℕ) (count : ℕ) → IsSound g → count ≡ g.points → AreEndsTo g count ends
      → AreLineEnds g ends
  ends_all ends count sound all e =
      let sized : length ends ≡ g.points = ⊎_elim
      (λ short.
      let next = e.going (length ends + (g.points - 1 - length ends)) (omega arith) (omega (arith, short, all)) in
      absurd (omega (arith, (sound.edges_in_range _ _ next).1, short)))
      (λ le. omega (arith, le, e.within, all))
      (cases_lt (length ends) g.points) in
      record { sized = sized; each = λ x h. e.each x (omega (arith, h, sized)) }
