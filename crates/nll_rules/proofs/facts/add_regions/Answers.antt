use Rattle.std.proofs.Common.{◌≡◌, ℕ, ap, subst, arith}
use Rattle.nll_rules.proofs.facts.add_regions.Goals as goal

pub loop-number-init : goal.loop-number-init
loop-number-init c = ap (λ (n : ℕ). record c.args.builder.now { regions = n }) c.requires.universals

pub returns : goal.returns
returns c =
    subst (λ (n : ℕ). c.loop-number.builder ≡ record c.args.builder.now { regions = n })
    (omega arith) c.loop-number.invariant
