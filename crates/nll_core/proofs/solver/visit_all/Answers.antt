use Rattle.std.proofs.Common.{◌≡◌, ◌∙◌, ℕ, true, length, replicate, sym, subst, ap}
use Rattle.std.proofs.lemmas.List.{length-replicate}
use Rattle.nll_core.specs.Worklist.{IsTracked, AreRegions}
use Rattle.nll_core.proofs.WorklistLemmas.{tracked_first}
use Rattle.nll_core.proofs.solver.visit_all.Goals as goal
use Rattle.nll_core.proofs.solver.visit_all.Goals.{In_ok-marks}

-- at first each region is marked
all_marked : (c : In_ok-marks) → c.in_ok-marks.marks.items ≡ replicate c.args.problem.now.regions true
all_marked c = c.in_ok-marks.ensures.items_if_clones_equal (λ y e. e)
    ∙ ap (λ (n : ℕ). replicate n true) c.regions.ensures.value

pub sweep-told-requires-clause-way : goal.sweep-told-requires-clause-way
sweep-told-requires-clause-way c =
    let d = (goal.at.sweep-told-requires-clause-way c).In_ok-marks in
    record {
      shaped = c.requires;
      kept = λ r e h. h;
      below = λ assignment sat under. under;
      width = ap length (all_marked d) ∙ length-replicate c.args.problem.now.regions true;
      tracked =
          subst (IsTracked c.args.problem.now c.args.values.now) (sym (all_marked d))
          (tracked_first c.args.problem.now c.regions.ensures.sound c.args.values.now);
    }

pub sweep-told-requires-clause-walk : goal.sweep-told-requires-clause-walk
sweep-told-requires-clause-walk c =
    c.in_ok-walk.ensures ∙ c.elements.ensures

pub sweep-told-requires-clause-order : goal.sweep-told-requires-clause-order
sweep-told-requires-clause-order c =
    subst (AreRegions c.args.problem.now) (sym c.deref.ensures.value) c.in_ok-order.ensures
