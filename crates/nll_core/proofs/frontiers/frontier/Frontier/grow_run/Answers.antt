use Rattle.std.proofs.Common.{◌≡◌, ap, arith, true, false}
use Rattle.std.specs.Prelude.{Option, Result, Ok, Err, OnOk, is_some, is_err}
use Rattle.nll_core.proofs.FrontierLemmas.{grown_by_run}
use Rattle.nll_core.proofs.frontiers.frontier.Frontier.grow_run.Goals as goal
use Rattle.nll_core.proofs.frontiers.frontier.Frontier.grow_run.Goals.{then-is_err, else-is_err}

-- what follows of facts about an Ok, which is no error
on_ok : {T E P Q S R : Type 0} (r : Result T E) (o : Option E) → is_some o ≡ is_err r
    → (is_some o ≡ false → P → Q → S → R) → OnOk r P → OnOk r Q → OnOk r S → OnOk r R
on_ok (Ok x) o is f p q s = f is p q s
on_ok (Err e) o is f p q s = p

-- an error is no Ok
on_err : {T E : Type 0} (P : Type 0) (r : Result T E) → true ≡ is_err r → OnOk r P
on_err P (Ok x) is = (let e : true ≡ false = is in cc)
on_err P (Err e) is = tt

pub returns-clause-ok : goal.returns-clause-ok
returns-clause-ok c = elim c.if-is_err.branch [
  | then-is_err w ↦ on_err _ c.resume-told.result w.if-is_err.ensures.value
  | else-is_err w ↦
      let whole = ap is_some c.in_default.is in
      let may = rw (← c.self.view_is) at c.requires in
      let count = rw c.steps.view_is at c.elements.ensures.value in
      rw (w.found-is, ← c.self.view_is)
      (on_ok c.resume-told.result c.err-self-inside.result c.err-self-inside.ensures.variant
      (λ is width after found. grown_by_run c.args.steps.now c.args.seen.now c.args.run _ c.widen.new.self
      c.resume-told.new.reached _ c.resume-told.new.found.items whole is (may.sound whole) c.widen.ensures.same
      (let fits = may.fits whole in
      omega (arith, width, c.widen.ensures.width, count, fits))
      after found)
      c.resume-told.ensures.width c.resume-told.ensures.after c.resume-told.ensures.found)
]
