use Rattle.std.proofs.Common.{◌↔◌, ◌∙◌, ℕ, ◌+◌, ◌<◌, Contains, List, slice_range, subst, sym, arith}
use Rattle.std.proofs.lemmas.List.{get_or_default}
use Rattle.nll_problem.specs.Graph.{Graph}
use Rattle.nll_sets.specs.Runs.{IsWithin}
use Rattle.nll_core.specs.Lines.{IsJump}
use Rattle.nll_core.proofs.JumpLemmas.{part_jumps, part_ordered}
use Rattle.nll_core.proofs.lines.Lines.jumps.Goals as goal

pub index-from-requires : goal.index-from-requires
index-from-requires c =
    omega (
      arith,
      subst (λ (x : Graph). c.args.run.last < x.points) (sym c.self.view_is) c.requires.points,
      c.requires.proper,
      c.self.invariant.jumps.sized,
    )

pub index-to-requires : goal.index-to-requires
index-to-requires c =
    omega (
      arith,
      subst (λ (x : Graph). c.args.run.last < x.points) (sym c.self.view_is) c.requires.points,
      c.self.invariant.jumps.sized,
    )

pub slice_bounds-result-count : goal.slice_bounds-result-count
slice_bounds-result-count c =
    let g = c.self.inside.graph.value in
    let starts = c.self.inside.jumps.starts.items in
    let first = c.args.run.first in
    let last = c.args.run.last in
    let j = c.self.invariant.jumps in
    let point : last < g.points =
    subst (λ (x : Graph). c.args.run.last < x.points) (sym c.self.view_is) c.requires.points in
    let from_is =
    c.index-from.ensures ∙ get_or_default starts first c.index-from.result.now 0
    (omega (arith, point, c.requires.proper, j.sized)) in
    let to_is =
    c.index-to.ensures ∙ get_or_default starts (last + 1) c.index-to.result.now 0 (omega (arith, point, j.sized)) in
    part_ordered g g.points starts c.self.inside.jumps.targets.items j first last c.index-from.result.now
    c.index-to.result.now c.requires.proper point from_is to_is

pub returns : goal.returns
returns c =
    let g = c.self.inside.graph.value in
    let starts = c.self.inside.jumps.starts.items in
    let targets = c.self.inside.jumps.targets.items in
    let first = c.args.run.first in
    let last = c.args.run.last in
    let j = c.self.invariant.jumps in
    let point : last < g.points = subst (λ (x : Graph). last < x.points) (sym c.self.view_is) c.requires.points in
    let from_is =
    c.index-from.ensures ∙ get_or_default starts first c.index-from.result.now 0
    (omega (arith, point, c.requires.proper, j.sized)) in
    let to_is =
    c.index-to.ensures ∙ get_or_default starts (last + 1) c.index-to.result.now 0 (omega (arith, point, j.sized)) in
    λ t.
    let part =
    part_jumps g g.points starts targets j first last c.index-from.result.now c.index-to.result.now
    c.requires.proper point from_is to_is t in
    subst (λ (x : Graph). Contains (slice_range c.deref.result.now c.index-from.result.now c.index-to.result.now) t
    ↔ ((y : ℕ) × IsWithin c.args.run y × IsJump x y t)) c.self.view_is
    (subst (λ (items : List ℕ). Contains (slice_range items c.index-from.result.now c.index-to.result.now) t
    ↔ ((y : ℕ) × IsWithin c.args.run y × IsJump g y t)) (sym c.deref.ensures.value) part)
