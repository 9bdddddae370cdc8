use Rattle.nll_body.proofs.KeptLemmas.{stands}
use Rattle.nll_body.proofs.body.Body.line_at.Goals as goal

pub returns : goal.returns
returns c =
    stands c.self.inside.outlives.items c.self.inside.asserts.items c.self.inside.types
    c.self.inside.variables.items c.self.inside.points c.self.inside.labels c.self.inside.graph c.args.self.now
    c.self.view_is c.args.point c.at.result.now c.at.ensures
