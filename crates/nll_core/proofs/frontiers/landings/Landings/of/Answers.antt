use Rattle.std.proofs.Common.{List, get_or, ◌∙◌, sym, subst, arith}
use Rattle.nll_problem.specs.Graph.{Graph}
use Rattle.nll_core.specs.Lines.{AreLandings, AreReturns, IsLandingStart}
use Rattle.nll_core.specs.declared.frontiers.landings.Landing.{Landing}
use Rattle.nll_core.proofs.frontiers.landings.Landings.of.Goals as goal

pub invariant_of-result : goal.invariant_of-result
invariant_of-result c = (
  subst (λ (g : Graph). AreLandings g c.in_ok-list.list.items c.in_ok-starts.starts.items)
      (c.requires ∙ sym c.of.ensures) (record {
        each = c.in_ok-list.ensures.each;
        sized = omega (arith, c.in_ok-starts.ensures.sized, c.points.ensures.value);
        start = λ t low. subst (λ (list : List Landing). IsLandingStart list t (get_or c.in_ok-starts.starts.items t 0))
            c.as_slice.ensures.value (c.in_ok-starts.ensures.each t (omega (arith, low, c.points.ensures.value)));
      }),
  subst (λ (g : Graph). AreReturns g c.in_ok-returns.returns.items) (sym c.of.ensures) c.in_ok-returns.ensures,
)
