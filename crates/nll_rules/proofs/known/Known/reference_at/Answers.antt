use Rattle.nll_rules.proofs.KnownLemmas.{reference_node, reference_row}
use Rattle.nll_rules.proofs.known.Known.reference_at.Goals as goal

pub returns-in-Some : goal.returns-in-Some
returns-in-Some c = rw (← c.self.view_is) (λ t h.
    let ns = c.self.inside.shapes in
    let node =
    reference_node ns c.args.row.shape c.in-Reference.target c.in-Reference.mutable _ h.within c.node.ensures.at
    c.node.ensures.over c.in-Reference.is in
    let last = rw c.self.invariant.4 at c.in-Some.ensures in
    reference_row ns _ _ t c.args.row _ c.in-Reference.mutable c.in-Reference.target _ h node.0 node.1 last.0 last.1
    last.2)
