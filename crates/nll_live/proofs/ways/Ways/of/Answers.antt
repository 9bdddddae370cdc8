use Rattle.std.proofs.Common.{ℕ, subst, sym}
use Rattle.nll_problem.specs.Graph.{IsNext}
use Rattle.nll_body.specs.Bodies.{IsGraphOf}
use Rattle.nll_live.specs.Chains.{HaveStarts}
use Rattle.nll_live.proofs.ChainLemmas.{starts_of_body}
use Rattle.nll_live.proofs.ways.Ways.of.Goals as goal

pub returns-clause-ways : goal.returns-clause-ways
returns-clause-ways c =
    let shown = subst (IsGraphOf c.args.body.now) (sym c.in_ok-previous.ensures) c.graph.ensures in
    record {
      shown = shown;
      uses = c.in_ok-uses.ensures;
      drops = c.in_ok-drops.ensures;
      ways =
          record {
            chains = starts_of_body c.args.body.now c.in_ok-previous.previous c.in_ok-starts.starts.items shown
                (subst (λ (n : ℕ). HaveStarts (IsNext c.in_ok-previous.previous) n c.in_ok-starts.starts.items)
                c.points.ensures.value c.in_ok-starts.ensures);
            defined = c.in_ok-definitions.ensures;
          };
    }
