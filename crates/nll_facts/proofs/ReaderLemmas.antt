-- What a reader's tables say.
use Rattle.std.proofs.Common.{◌≡◌, Option, Some, None, unwrap_or}
use Rattle.nll_problem.specs.Problem.{Problem}

-- what a new builder has is what stood for it
pub made_for_none : (o : Option Problem) (b q : Problem) → o ≡ None → q ≡ b → q ≡ unwrap_or o b
made_for_none None b q none e = e
made_for_none (Some p) b q none e = absurd cc

-- a value is there or not
pub some_is_not_none : {X : Type 0} {x : X} → Some x ≡ None → ⊥
some_is_not_none h = cc
