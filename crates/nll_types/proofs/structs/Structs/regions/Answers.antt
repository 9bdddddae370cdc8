use Rattle.std.proofs.Common.{inl, ⊎_elim, refl}
use Rattle.std.proofs.lemmas.Bool.{false≢true}
use Rattle.std.proofs.lemmas.Result.{IfOk-weaker}
use Rattle.nll_types.proofs.structs.Structs.regions.Goals as goal

pub returns-clause-each : goal.returns-clause-each
returns-clause-each c = IfOk-weaker c.find.result _ _
    (λ v each. λ r. (
      λ h. ⊎_elim (λ w. w.1) (λ d. absurd (false≢true d.0)) ((each r).0 h),
      λ h. (each r).1 (inl (refl, h)),
    )) c.find.ensures.each

pub returns-clause-once : goal.returns-clause-once
returns-clause-once c = c.find.ensures.once
