use Rattle.std.proofs.Common.{Bool, List}
use Rattle.nll_problem.specs.Problem.{Problem}
use Rattle.nll_core.specs.Worklist.{IsOnTheWay, Turns}
use Rattle.nll_core.proofs.WorklistLemmas.{closed_clean}
use Rattle.nll_core.proofs.solver.sweep.Goals as goal

-- a sweep is a part of the way
goes_on : (q : Problem) (first now new : List (List Bool)) (marks after : List Bool) (changed : Bool)
    → IsOnTheWay q first now marks → Turns q now new after changed → IsOnTheWay q first new after
goes_on q first now new marks after changed way turns = record {
  shaped = turns.advances.shaped;
  kept = λ r e h. turns.advances.kept r e (way.kept r e h);
  below = λ assignment sat under. turns.advances.below assignment sat (way.below assignment sat under);
  width = turns.width;
  tracked = turns.tracked;
}

pub loop-preserved : goal.loop-preserved
loop-preserved c = record {
  way = goes_on _ _ _ _ _ _ _ c.loop.invariant.way c.in_ok-sweep_backwards.ensures.turns;
  walk = c.in_ok-sweep_backwards.ensures.walk;
}

pub loop-2-preserved : goal.loop-2-preserved
loop-2-preserved c = record {
  way = goes_on _ _ _ _ _ _ _ c.loop-2.invariant.way c.in_ok-sweep_all.ensures.turns;
  walk = c.in_ok-sweep_all.ensures.walk;
}

pub returns : goal.returns
returns c =
    let way = goes_on _ _ _ _ _ _ _ c.loop-2.invariant.way c.in_ok-sweep_all.ensures.turns in
    record {
      shaped = way.shaped;
      kept = way.kept;
      below = way.below;
      closed =
          closed_clean c.args.problem.now c.regions-regions.ensures.sound c.sweep_all.new.values
          c.sweep_all.new.marks.items c.in_ok-sweep_all.ensures.turns.tracked
          (c.in_ok-sweep_all.ensures.clean c.if-branch-2.false);
    }
