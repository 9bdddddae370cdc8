use Rattle.std.proofs.Common.{◌<◌, ◌≤◌, length, ap, arith}
use Rattle.nll_model.specs.State.{Seat}
use Rattle.nll_model.specs.declared.seat.Item.TheVariants.{Owed}
use Rattle.nll_model.proofs.OweLemmas.{owes_more, owes_le, owes_seat}
use Rattle.nll_model.proofs.seat.Seat.owe.Goals as goal

pub overflow_add-count : goal.overflow_add-count
overflow_add-count c =
    let lanes = ap (λ (s : Seat). length s.lanes) c.self.view_is in
    let within : c.loop-to.to < length c.args.self.now.lanes =
    omega (arith, c.loop-to-test.true, c.len-to-end.ensures, lanes) in
    let le =
    owes_le c.args.self.now _ c.loop-to.count c.loop-to.to c.loop-to.invariant within c.index_mut.result.now
    c.index_mut.ensures.value in
    omega (arith, le, c.in_ok-count.ensures.count, c.requires)

pub loop-to-preserved : goal.loop-to-preserved
loop-to-preserved c =
    let lanes = ap (λ (s : Seat). length s.lanes) c.self.view_is in
    let within : c.loop-to.to < length c.loop-to.self-inside.lanes.items =
    omega (arith, c.loop-to-test.true, c.len-to-end.ensures, lanes, c.loop-to.invariant.lane_count) in
    owes_more c.args.self.now _ c.loop-to.count c.loop-to.to c.loop-to.invariant within c.index_mut.result.now
    c.owe.new.self c.in_ok-count.field-0 c.index_mut.ensures.value c.in_ok-count.ensures.lane
    c.in_ok-count.ensures.count

pub returns-clause-seat : goal.returns-clause-seat
returns-clause-seat c =
    let lanes = ap (λ (s : Seat). length s.lanes) c.self.view_is in
    let all : length c.loop-to.self-inside.lanes.items ≤ c.loop-to.to =
    omega (arith, c.loop-to-test.false, c.len-to-end.ensures, lanes, c.loop-to.invariant.lane_count) in
    owes_seat c.args.self.now _ c.loop-to.count c.loop-to.to c.loop-to.invariant all Owed
