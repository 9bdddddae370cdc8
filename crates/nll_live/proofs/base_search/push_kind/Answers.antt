use Rattle.std.proofs.Common.{arith}
use Rattle.nll_live.specs.Kinds.{AsksFor}
use Rattle.nll_live.proofs.AskLemmas.{asked_to_first, asked_to_last, asked_to_step, declared}
use Rattle.nll_live.proofs.base_search.push_kind.Goals as goal

pub loop-variable-init : goal.loop-variable-init
loop-variable-init c = record {
  room = rw c.points.ensures.value at c.in_ok-room.ensures;
  asked = asked_to_first (AsksFor c.args.kind c.args.ways.now.body.now) c.args.base_runs.now.items;
}

pub loop-variable-preserved : goal.loop-variable-preserved
loop-variable-preserved c = record {
  room = c.in_ok-push_variable.ensures.room;
  asked = asked_to_step (AsksFor c.args.kind c.args.ways.now.body.now) c.args.base_runs.now.items
      c.loop-variable.variable c.loop-variable.base_runs.items c.push_variable.new.base_runs.items
      c.loop-variable.invariant.asked c.in_ok-push_variable.ensures.gains;
}

pub returns : goal.returns
returns c =
    asked_to_last (AsksFor c.args.kind c.args.ways.now.body.now) c.args.base_runs.now.items c.loop-variable.variable
    c.loop-variable.base_runs.items
    (λ x r p h. omega (
      arith,
      declared c.args.kind c.args.ways.now.body.now x r p h,
      c.variables-variable-end.ensures.value,
    ))
    c.loop-variable.invariant.asked
