use Rattle.std.proofs.Common.{◌+◌, ◌<◌, List, map, length, slice_set, Option, sym, subst, ap, ◌∙◌, arith, rules}
use Rattle.run.specs.Table.{AreEnds, AreNewEnds, IsPartRow}
use Rattle.run.proofs.PlaceLemmas.{list_read, map_set, map_size}
use Rattle.run.proofs.TableLemmas.{part_more}
use Rattle.run.proofs.mailboxes.make_row.Goals as goal
use Rattle.run.proofs.mailboxes.make_row.Goals.{then-from-to, else-from-to+in_ok-sender}

pub loop-to-preserved : goal.loop-to-preserved
loop-to-preserved g c =
    let m = g.M.Mail in let inv = c.loop-to.invariant.1 in let to = c.loop-to.to in
    let now = c.loop-to.columns.items in
    let lists = map (λ x. x.items) now in
    let inside : to < length now =
    omega (
      arith,
      c.loop-to-test.true,
      c.requires.columns,
      inv.column_count,
      map_size (λ x. x.items) now,
      map_size (λ x. x.items) c.args.columns.now.items,
    ) in
    let inside' : to < length lists = omega (arith, inside, map_size (λ x. x.items) now) in
    let s = c.if-from-to.ends.0 in let r = c.if-from-to.ends.1 in
    let p : AreEnds (AreNewEnds m) m.ends c.args.from to s r = elim c.if-from-to.branch [
      | then-from-to w ↦ subst (λ (y : Option _ × Option _). AreEnds (AreNewEnds m) m.ends c.args.from to y.0 y.1)
          (sym w.ends-is) w.if-from-to.true
      | else-from-to+in_ok-sender w ↦ let e = w.in_ok-sender.ensures in
          subst (λ (y : Option _ × Option _). AreEnds (AreNewEnds m) m.ends c.args.from to y.0 y.1)
          (sym w.ends-is) (w.if-from-to.false, (e.pair, e.sent, e.received), e.ends)
    ] in
    let more =
    part_more (AreEnds (AreNewEnds m) m.ends) to c.args.from c.loop-to.row.senders.items
    (map (λ x. x.items) c.args.columns.now.items) lists s r c.index_mut.result.now.items inv inside'
    (list_read (λ x. x.items) now to c.index_mut.result.now inside c.index_mut.ensures.value)
    p in
    let columns = map_set (λ x. x.items) now to c.push.new.self
    ∙ ap (λ l. slice_set lists to l) c.in_ok-push.ensures.items in (
      search rules,
      subst (λ (y : List _ × List (List _)). IsPartRow (AreEnds (AreNewEnds m) m.ends) (to + 1) c.args.from y.0
          (map (λ x. x.items) c.args.columns.now.items) y.1)
          (λ i. (sym c.push_reserved.ensures.items i, sym columns i)) more,
    )
