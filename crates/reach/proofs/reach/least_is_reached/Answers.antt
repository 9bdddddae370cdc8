use Rattle.std.proofs.Common.{ℕ, map, inl, inr}
use Rattle.fixpoint.specs.Rules.{IsLeast}
use Rattle.keeper.proofs.OwnLemmas.{least_led}
use Rattle.reach.specs.Reach.{IsReached, rules_of_reach}
use Rattle.reach.specs.Reach.IsReached.{root, step}
use Rattle.reach.specs.declared.Graph.{Graph}
use Rattle.reach.proofs.reach.least_is_reached.Goals as goal

-- what is reached is in the least solution
reached_least : (a : Graph) (x : ℕ) → IsReached a x → IsLeast rules_of_reach a x
reached_least a x (root _ h) known closed = closed x (inl h)
reached_least a y (step x _ edge r) known closed = closed y (inr (x, edge, reached_least a x r known closed))

pub returns : goal.returns
returns c = λ a x. (
  least_led rules_of_reach a a.roots.now (map (λ list. list.items) a.edges.now) (λ known y h. h)
      (IsReached a) root step x,
  reached_least a x,
)
