use Rattle.std.proofs.Common.{refl}
use Rattle.nll_core.proofs.PlaceLemmas.{all_first, all_nowhere}
use Rattle.nll_core.proofs.frontiers.places.Places.has_all.Goals as goal

pub returns-in-All : goal.returns-in-All
returns-in-All c =
    rw (← c.self.view_is) (λ _. all_first c.self.inside.first c.self.inside.others.items c.in-All.is, λ _. refl)

pub returns-in-Point : goal.returns-in-Point
returns-in-Point c =
    rw (← c.self.view_is) (
      λ h. absurd cc,
      λ h. absurd (all_nowhere c.self.inside.first c.self.inside.others.items c.in-Point.field-0 c.in-Point.is h),
    )
