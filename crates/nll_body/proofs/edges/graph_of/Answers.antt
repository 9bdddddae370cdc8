use Rattle.nll_body.proofs.edges.graph_of.Goals as goal

pub add_points-told-requires-clause-blocks : goal.add_points-told-requires-clause-blocks
add_points-told-requires-clause-blocks c = c.requires.blocks

pub add_points-told-requires-clause-ends : goal.add_points-told-requires-clause-ends
add_points-told-requires-clause-ends c = c.requires.ends

pub add_points-told-requires-clause-room : goal.add_points-told-requires-clause-room
add_points-told-requires-clause-room c = c.requires.room
