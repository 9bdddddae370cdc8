use Rattle.std.proofs.Common.{subst}
use Rattle.nll_body.specs.Sound.{IsSoundBody}
use Rattle.nll_body.proofs.KeptLemmas.{good_type, typed}
use Rattle.nll_body.proofs.body.Body.var_type.Goals as goal

pub returns-clause-value : goal.returns-clause-value
returns-clause-value c =
    typed c.self.inside.outlives.items c.self.inside.asserts.items c.self.inside.types
    c.self.inside.variables.items c.self.inside.points c.self.inside.labels c.self.inside.graph c.args.self.now
    c.self.view_is c.args.variable c.index-ty.result.now c.requires c.index-ty.ensures

pub returns-clause-well_formed : goal.returns-clause-well_formed
returns-clause-well_formed c =
    good_type c.args.self.now (subst IsSoundBody c.self.view_is c.self.invariant.0.sound) c.args.variable _
    (typed c.self.inside.outlives.items c.self.inside.asserts.items c.self.inside.types
    c.self.inside.variables.items c.self.inside.points c.self.inside.labels c.self.inside.graph c.args.self.now
    c.self.view_is c.args.variable c.index-ty.result.now c.requires c.index-ty.ensures)
