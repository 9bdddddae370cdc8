use Rattle.std.proofs.Common.{◌≡◌, ℕ, ◌<◌, get_or}
use Rattle.nll_mail.specs.declared.growth.Growth.{Growth}
use Rattle.nll_owner.specs.Owner.{Passes}
use Rattle.nll_owner.proofs.owner.Owner.passes_all.Given as goal

-- The growths before the index pass.
abbrev pub invariant-loop-growth : goal.invariant-loop-growth
invariant-loop-growth l = (k : ℕ) (g : Growth) → k < l.growth-index → get_or l.growths k g ≡ g
    → Passes l.self.problem l.self.cut l.self.me l.from g
