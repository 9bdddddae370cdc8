use Rattle.std.proofs.Common.{◌≡◌, ◌+◌, Contains, inl, inr, refl, sym, ap, subst, ◌∙◌, arith}
use Rattle.std.proofs.lemmas.Bool.{false≢true}
use Rattle.std.proofs.lemmas.Result.{on_ok_weaker}
use Rattle.nll_body.specs.Effects.{targets}
use Rattle.nll_body.specs.Flat.{statement_in}
use Rattle.nll_body.specs.Edges.{LeadsToBlock}
use Rattle.nll_body.specs.Making.{AddsEdges}
use Rattle.nll_body.specs.Statements.{is_terminator}
use Rattle.nll_body.proofs.PointLemmas.{other_point, return_point, statement_edge, targets_listed, terminator_edges}
use Rattle.nll_body.proofs.edges.add_next.Goals as goal
use Rattle.nll_body.proofs.edges.add_next.Goals.{After-as_slice, In_ok-add_targets}

pub add_edge-requires-clause-to : goal.add_edge-requires-clause-to
add_edge-requires-clause-to c =
    c.requires.ends (c.args.point + 1) (inl (sym c.is_terminator.ensures ∙ c.if-not-is_terminator.true, refl))

pub add_edge-requires-clause-room : goal.add_edge-requires-clause-room
add_edge-requires-clause-room c = λ _.
    let room = rw (sym c.is_terminator.ensures ∙ c.if-not-is_terminator.true) at c.requires.room in
    omega (arith, room)

pub returns-then-not-is_terminator-clause-ok : goal.returns-then-not-is_terminator-clause-ok
returns-then-not-is_terminator-clause-ok c =
    let plain = sym c.is_terminator.ensures ∙ c.if-not-is_terminator.true in
    on_ok_weaker c.add_edge.result (λ adds.
    other_point c.args.starts.now c.args.point (statement_in c.args.points.now c.args.statement.now) c.args.graph.now
    c.add_edge.new.graph
    (statement_edge c.args.starts.now c.args.point (statement_in c.args.points.now c.args.statement.now)
    c.args.graph.now c.add_edge.new.graph plain adds c.add_edge.ensures.others)
    (λ h. false≢true (sym plain ∙ ap is_terminator h))) c.add_edge.ensures.ok

listed : (c : After-as_slice) → c.as_slice.result.now ≡ targets (statement_in c.args.points.now c.args.statement.now)
listed c =
    targets_listed (statement_in c.args.points.now c.args.statement.now) c.clear.new.self.items
    c.targets.new.blocks.items c.as_slice.result.now c.as_slice.ensures.value
    c.in_ok-targets.ensures.ok c.clear.ensures.items

pub add_targets-requires-clause-blocks : goal.add_targets-requires-clause-blocks
add_targets-requires-clause-blocks c =
    let d = (goal.at.add_targets-requires-clause-blocks c).After-as_slice in
    λ b h. c.requires.blocks b (subst (λ bs. Contains bs b) (listed d) h)

pub add_targets-requires-clause-starts : goal.add_targets-requires-clause-starts
add_targets-requires-clause-starts c =
    let d = (goal.at.add_targets-requires-clause-starts c).After-as_slice in
    λ q h. c.requires.ends q (inr (subst (λ bs. LeadsToBlock c.args.starts.now bs q) (listed d) h))

pub add_targets-requires-clause-room : goal.add_targets-requires-clause-room
add_targets-requires-clause-room c =
    let d = (goal.at.add_targets-requires-clause-room c).After-as_slice in
    rw (listed d) (rw (sym c.is_terminator.ensures ∙ c.if-not-is_terminator.false) at c.requires.room)

-- the edges that leave the terminator are there
added : (c : In_ok-add_targets) → AddsEdges c.args.starts.now c.args.point
    (statement_in c.args.points.now c.args.statement.now) c.args.graph.now c.add_targets.new.graph
added c =
    let i = statement_in c.args.points.now c.args.statement.now in
    terminator_edges c.args.starts.now c.args.point i c.args.graph.now c.add_targets.new.graph
    (sym c.is_terminator.ensures ∙ c.if-not-is_terminator.false)
    (rw (targets_listed i c.clear.new.self.items c.targets.new.blocks.items c.as_slice.result.now
    c.as_slice.ensures.value c.in_ok-targets.ensures.ok c.clear.ensures.items) at c.in_ok-add_targets.ensures.ok)

pub returns-then-not-is_return-clause-ok : goal.returns-then-not-is_return-clause-ok
returns-then-not-is_return-clause-ok c =
    let d = goal.at.returns-then-not-is_return-clause-ok c in
    other_point c.args.starts.now c.args.point
    (statement_in c.args.points.now c.args.statement.now) c.args.graph.now c.add_targets.new.graph
    (added d.In_ok-add_targets)
    (λ h. false≢true (sym c.if-not-is_return.true ∙ (c.is_return.ensures c.args.points.now).1 h))

pub returns-clause-ok : goal.returns-clause-ok
returns-clause-ok c =
    let d = goal.at.returns-clause-ok c in
    on_ok_weaker c.ret.result
    (λ adds. return_point c.args.starts.now c.args.point
    (statement_in c.args.points.now c.args.statement.now) c.args.graph.now c.add_targets.new.graph c.ret.new.self
    (added d.In_ok-add_targets) ((c.is_return.ensures c.args.points.now).0 c.if-not-is_return.false)
    adds c.ret.ensures.others) c.ret.ensures.ok
