use Rattle.std.proofs.Common.{◌∙◌, ◌<◌, subst, sym, arith}
use Rattle.std.proofs.lemmas.List.{get_or_default}
use Rattle.nll_problem.specs.Graph.{Graph}
use Rattle.nll_core.specs.Lines.{IsLineEnd}
use Rattle.nll_core.proofs.lines.Lines.line_end.Goals as goal

pub index-requires : goal.index-requires
index-requires c =
    omega (
      arith,
      subst (λ (g : Graph). c.args.point < g.points) (sym c.self.view_is) c.requires,
      c.self.invariant.line_ends.sized,
    )

pub returns : goal.returns
returns c =
    let g = c.self.inside.graph.value in
    let ends = c.self.inside.ends.items in
    let point : c.args.point < g.points =
    subst (λ (g : Graph). c.args.point < g.points) (sym c.self.view_is) c.requires in
    let is =
    c.index.ensures ∙ get_or_default ends c.args.point c.index.result.now 0
    (omega (arith, point, c.self.invariant.line_ends.sized)) in
    subst (λ (g : Graph). IsLineEnd g c.args.point c.index.result.now) c.self.view_is
    (subst (λ e. IsLineEnd g c.args.point e) (sym is) (c.self.invariant.line_ends.each c.args.point point))
