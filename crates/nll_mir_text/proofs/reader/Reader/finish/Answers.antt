use Rattle.std.proofs.Common.{refl}
use Rattle.nll_mir_text.proofs.reader.Reader.finish.Goals as goal

pub returns-clause-body : goal.returns-clause-body
returns-clause-body c = rw (c.requires.outlives, c.requires.asserts) refl

pub returns-clause-typed : goal.returns-clause-typed
returns-clause-typed c = c.requires.ready.rows
