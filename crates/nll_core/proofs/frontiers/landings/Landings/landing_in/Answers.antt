use Rattle.std.proofs.Common.{◌≡◌, ◌↔◌, ◌+◌, ◌<◌, Contains, length, get_or, slice_range, ap, sym, subst, ◌∙◌, arith}
use Rattle.std.proofs.lemmas.List.{get_or_default}
use Rattle.nll_problem.specs.Graph.{Graph}
use Rattle.nll_core.specs.Lines.{IsJump, IsLandingStart}
use Rattle.nll_core.proofs.LandingLemmas.{part_rises, part_has}
use Rattle.nll_core.proofs.frontiers.landings.Landings.landing_in.Goals as goal
use Rattle.nll_core.proofs.frontiers.landings.Landings.landing_in.Goals.{After-index-to}

points_is : (c : After-index-to) → c.self.inside.graph.value.points ≡ c.args.self.now.points
points_is c = ap (λ (g : Graph). g.points) c.self.view_is

within : (c : After-index-to) → c.args.run.last + 1 < length c.self.inside.starts.items
within c = omega (arith, c.requires.within, c.self.invariant.0.sized, points_is c)

first_is : (c : After-index-to) → c.index-from.result.now ≡ get_or c.self.inside.starts.items c.args.run.first 0
first_is c =
    c.index-from.ensures ∙ get_or_default c.self.inside.starts.items c.args.run.first c.index-from.result.now 0
    (omega (arith, within c, c.requires.proper))

end_is : (c : After-index-to) → c.index-to.result.now ≡ get_or c.self.inside.starts.items (c.args.run.last + 1) 0
end_is c =
    c.index-to.ensures ∙ get_or_default c.self.inside.starts.items (c.args.run.last + 1) c.index-to.result.now 0
    (within c)

start_is : (c : After-index-to) → IsLandingStart c.self.inside.list.items c.args.run.first
    (get_or c.self.inside.starts.items c.args.run.first 0)
start_is c =
    c.self.invariant.0.start c.args.run.first (omega (arith, c.requires.proper, c.requires.within, points_is c))

last_is : (c : After-index-to) → IsLandingStart c.self.inside.list.items (c.args.run.last + 1)
    (get_or c.self.inside.starts.items (c.args.run.last + 1) 0)
last_is c = c.self.invariant.0.start (c.args.run.last + 1) (omega (arith, c.requires.within, points_is c))

pub slice_bounds-result-count : goal.slice_bounds-result-count
slice_bounds-result-count c =
    let d = (goal.at.slice_bounds-result-count c).After-index-to in
    omega (
      arith,
      first_is d,
      end_is d,
      part_rises c.self.inside.list.items c.args.run.first c.args.run.last _ _ c.requires.proper (start_is d)
          (last_is d),
    )

pub slice_bounds-result-start : goal.slice_bounds-result-start
slice_bounds-result-start c =
    let d = (goal.at.slice_bounds-result-start c).After-index-to in
    let rises = part_rises c.self.inside.list.items c.args.run.first c.args.run.last _ _ c.requires.proper (start_is d)
    (last_is d) in
    omega (arith, rises, first_is d, end_is d, (last_is d).bound, c.deref.ensures.len)

pub returns : goal.returns
returns c = λ l.
    let d = (goal.at.returns c).After-index-to in
    let has =
    part_has c.self.inside.list.items c.args.run.first c.args.run.last _ _ c.requires.proper (start_is d)
    (last_is d) l in
    let now = slice_range c.deref.result.now c.index-from.result.now c.index-to.result.now in
    let same : now ≡ slice_range c.self.inside.list.items
    (get_or c.self.inside.starts.items c.args.run.first 0)
    (get_or c.self.inside.starts.items (c.args.run.last + 1) 0) =
    λ i. slice_range (c.deref.ensures.value i) (first_is d i) (end_is d i) in
    let jump : Contains c.self.inside.list.items l ↔ IsJump c.args.self.now l.from l.to =
    subst (λ (g : Graph). Contains c.self.inside.list.items l ↔ IsJump g l.from l.to) c.self.view_is
    (c.self.invariant.0.each l) in (
      λ h. let own = has.0 (subst (λ xs. Contains xs l) same h) in (jump.0 own.0, own.1, own.2),
      λ h. subst (λ xs. Contains xs l) (sym same) (has.1 (jump.1 h.0, h.1, h.2)),
    )
