use Rattle.std.proofs.Common.{◌↔◌, ℕ, Contains, subst}
use Rattle.std.proofs.lemmas.Result.{IfOk-weaker}
use Rattle.nll_types.specs.Views.{tree}
use Rattle.nll_types.specs.DropRegions.{IsDropRegion}
use Rattle.nll_body.proofs.KeptLemmas.{one_type}
use Rattle.nll_body.proofs.body.Body.var_drop_regions.Goals as goal

pub returns-clause-each : goal.returns-clause-each
returns-clause-each c =
    IfOk-weaker c.drop_regions-found.result _ _
    (λ v each t h. subst (λ u. (r : ℕ) → Contains v.items r ↔ IsDropRegion c.args.self.now.structs u r)
    (one_type c.args.self.now c.args.variable (tree c.in_ok-ty.ty) t c.in_ok-ty.ensures.value h)
    (subst (λ ds. (r : ℕ) → Contains v.items r ↔ IsDropRegion ds (tree c.in_ok-ty.ty) r)
    c.structs.ensures each)) c.drop_regions-found.ensures.each
