use Rattle.std.proofs.Common.{length, subst, sym}
use Rattle.std.proofs.lemmas.Result.{IfOk-weaker}
use Rattle.nll_types.specs.Structs.{IsWellFormed}
use Rattle.nll_body.specs.Bodies.{HasType}
use Rattle.nll_body.proofs.body.Body.variable_tree.Goals as goal

pub returns-clause-value : goal.returns-clause-value
returns-clause-value c = IfOk-weaker c.tree.result _ _
    (λ t is. subst (HasType c.args.self.now c.args.variable) (sym is) c.var_type.ensures.value) c.tree.ensures

pub returns-clause-well_formed : goal.returns-clause-well_formed
returns-clause-well_formed c = IfOk-weaker c.tree.result _ _
    (λ t is. subst (IsWellFormed c.args.self.now.structs (length c.args.self.now.names) 0) (sym is)
    c.var_type.ensures.well_formed) c.tree.ensures
