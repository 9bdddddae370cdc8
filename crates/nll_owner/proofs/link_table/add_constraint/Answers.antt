use Rattle.std.proofs.Common.{◌-◌, ◌<◌, length, false, refl, sym, arith}
use Rattle.nll_owner.proofs.LinkingLemmas.{adds_link, adds_point, fills_at}
use Rattle.nll_owner.proofs.link_table.add_constraint.Goals as goal

pub add-requires : goal.add-requires
add-requires c x at =
    let within : c.len-count.result - 1 < length c.args.row.now.items =
    omega (arith, c.if-count-gt0.true, c.len-count.ensures) in
    let fills =
    fills_at c.args.row.now.items (c.len-count.result - 1) c.index.result.now c.index_mut.result.now c.args.k.sup
    within c.index.ensures c.index_mut.ensures.value c.if-eq.ensures in
    c.requires.later c.index_mut.result.now x (c.len-count.result - 1, within, sym c.index_mut.ensures.value) fills at

pub returns-in_ok-add : goal.returns-in_ok-add
returns-in_ok-add c =
    let within : c.len-count.result - 1 < length c.args.row.now.items =
    omega (arith, c.if-count-gt0.true, c.len-count.ensures) in
    let fills =
    fills_at c.args.row.now.items (c.len-count.result - 1) c.index.result.now c.index_mut.result.now c.args.k.sup
    within c.index.ensures c.index_mut.ensures.value c.if-eq.ensures in
    adds_point c.args.k c.args.row.now.items (c.len-count.result - 1) c.index_mut.result.now
    (record { sup = c.index_mut.result.now.sup; frontier = c.add.new.self; rests = c.index_mut.result.now.rests })
    within (sym c.index_mut.ensures.value) fills refl c.in_ok-add.ensures

pub returns-in_ok-reserve : goal.returns-in_ok-reserve
returns-in_ok-reserve c =
    rw (c.push_reserved.ensures.items, c.in_ok-reserve.ensures.items)
    (adds_link c.args.k c.args.row.now.items
    (record { sup = c.args.k.sup; rests = false; frontier = c.new.result }) refl c.new.ensures)
