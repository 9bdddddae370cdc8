use Rattle.std.proofs.Common.{◌∙◌, sym, arith}
use Rattle.std.proofs.lemmas.Bool.{false≢true}
use Rattle.nll_text_tests.proofs.live_rounds.goes_on.Goals as goal

pub next_of-requires : goal.next_of-requires
next_of-requires c = omega (arith, c.requires, c.graph-graph.ensures.points)

pub returns-then-defines : goal.returns-then-defines
returns-then-defines c = (
  λ h. absurd (false≢true h),
  λ h. absurd (h.2.0 (c.defines.ensures.0 c.if-defines.true)),
)

pub returns : goal.returns
returns c = (
  λ h. let any = c.is_any.ensures.0 h in (
    any.0,
    any.1,
    (
      λ d. false≢true (sym c.if-defines.false ∙ c.defines.ensures.1 d),
      (c.graph-graph.ensures.next c.args.point any.0).0 ((c.next_of.ensures.each any.0).0 any.2),
    ),
  ),
  λ h. c.is_any.ensures.1 (
    h.0,
    h.1,
    (c.next_of.ensures.each h.0).1
        ((c.graph-graph.ensures.next c.args.point h.0).1 h.2.1),
  ),
)
