use Rattle.nll_body.proofs.PartLemmas.{parts_blocks, parts_ends, parts_room, parts_shown}
use Rattle.nll_body.proofs.body.Body.new.Goals as goal

pub graph_of-told-requires-clause-blocks : goal.graph_of-told-requires-clause-blocks
graph_of-told-requires-clause-blocks c =
    rw c.as_slice-starts.ensures.value (parts_blocks c.args.parts c.requires.sound)

pub graph_of-told-requires-clause-ends : goal.graph_of-told-requires-clause-ends
graph_of-told-requires-clause-ends c =
    rw c.as_slice-starts.ensures.value (parts_ends c.args.parts c.requires.sound)

pub graph_of-told-requires-clause-room : goal.graph_of-told-requires-clause-room
graph_of-told-requires-clause-room c = parts_room c.args.parts c.requires.sound

pub assembled-requires-clause-graph : goal.assembled-requires-clause-graph
assembled-requires-clause-graph c =
    parts_shown c.args.parts c.in-Ok.graph (rw c.as_slice-starts.ensures.value at c.in-Ok.ensures.ok)

pub assembled-requires-clause-sound : goal.assembled-requires-clause-sound
assembled-requires-clause-sound c = c.requires.sound

pub assembled-requires-clause-typed : goal.assembled-requires-clause-typed
assembled-requires-clause-typed c = c.requires.typed

pub returns-in-Ok-clause-ok : goal.returns-in-Ok-clause-ok
returns-in-Ok-clause-ok c = c.assembled.ensures
