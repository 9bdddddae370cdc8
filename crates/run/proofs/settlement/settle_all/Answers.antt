use Rattle.std.proofs.Common.{◌≡◌, ◌+◌, [], drop, map, length, sym, subst, ap, ◌∙◌, arith, rules}
use Rattle.fixpoint.specs.Logs.{log_of}
use Rattle.worker.specs.Mailboxes.{through}
use Rattle.run.specs.Table.{AreEnds, list_at}
use Rattle.run.specs.Settling.{ArePostsOf, InRows, InRow, sent_at, got_by}
use Rattle.run.proofs.PlaceLemmas.{drop_front, read_place}
use Rattle.run.proofs.SettlingLemmas.{settled_as, rows_more, head_of, read_dropped, drop_drop}
use Rattle.run.proofs.settlement.settle_all.Goals as goal

pub settle_row-requires-clause-row : goal.settle_row-requires-clause-row
settle_row-requires-clause-row g c =
    let rows = map (λ x. x.items) c.args.rows.items in
    let front =
    drop_front rows c.loop-from.from c.in-Some.row.items (map (λ x. x.items) c.pop_front.new.self.items)
    (sym c.loop-from.invariant.rows ∙ ap (map (λ x. x.items)) c.in-Some.ensures.items) in
    let row = read_place rows c.loop-from.from c.in-Some.row.items [] front.0 in
    let size : length c.in-Some.row.items ≡ c.args.owners = ap length (sym row)
    ∙ c.requires.table.width c.loop-from.from c.loop-from-test.true in
    search rules

pub settle_row-requires-clause-heads : goal.settle_row-requires-clause-heads
settle_row-requires-clause-heads g c = λ j l.
    let m = g.M.Mail in
    let rows = map (λ x. x.items) c.args.rows.items in
    let front =
    drop_front rows c.loop-from.from c.in-Some.row.items (map (λ x. x.items) c.pop_front.new.self.items)
    (sym c.loop-from.invariant.rows ∙ ap (map (λ x. x.items)) c.in-Some.ensures.items) in
    head_of (AreEnds m.closes m.ends) c.args.owners c.loop-from.from j rows
    (map (λ x. x.items) c.args.columns.now.items) c.in-Some.row.items
    (list_at (map (λ x. x.items) c.loop-from.columns.items) j) c.requires.table c.loop-from-test.true l
    (sym (read_place rows c.loop-from.from c.in-Some.row.items [] front.0)) (c.loop-from.invariant.cut j l)

pub loop-from-preserved : goal.loop-from-preserved
loop-from-preserved g c =
    let m = g.M.Mail in let inv = c.loop-from.invariant in let from = c.loop-from.from in
    let rows = map (λ x. x.items) c.args.rows.items in
    let front =
    drop_front rows from c.in-Some.row.items (map (λ x. x.items) c.pop_front.new.self.items)
    (sym inv.rows ∙ ap (map (λ x. x.items)) c.in-Some.ensures.items) in
    let row = read_place rows from c.in-Some.row.items [] front.0 in
    let cut = c.in_ok-settle_row.ensures.columns in
    let added = c.in_ok-settle_row.ensures.posts in
    let columns = map (λ x. x.items) c.args.columns.now.items in
    record {
      rows = front.1;
      count = cut.0 ∙ inv.count;
      cut = λ j l. cut.1 j l ∙ (ap (drop 1) (inv.cut j l) ∙ drop_drop (list_at columns j) from);
      order = c.in_ok-settle_row.ensures.order;
      posts = subst (λ ps. ArePostsOf m (sent_at m.all_sent rows) (got_by m.received columns)
          (InRows (from + 1) c.args.owners) ps) (sym added.1)
          (rows_more m (sent_at m.all_sent rows)
          (got_by m.received columns) from c.args.owners c.loop-from.posts.items added.0 inv.posts
          (settled_as m _ _ (sent_at m.all_sent rows) (got_by m.received columns) (InRow from c.args.owners) added.0
          (λ i j d. ap (λ l. log_of (map (through m.all_sent) l) j) (sym row ∙ ap (list_at rows) (sym d.0)))
          (λ i j d. ap (λ l. log_of (map (through m.received) l) 0) (inv.cut j d.1)
          ∙ (read_dropped (through m.received) (list_at columns j) from
          ∙ ap (λ k. log_of (map (through m.received) (list_at columns j)) k) (sym d.0)))
          added.2));
    }

pub returns-clause-posts : goal.returns-clause-posts
returns-clause-posts g c =
    let m = g.M.Mail in
    let e : c.loop-from.from ≡ c.args.owners = omega (arith, c.loop-from-test.false, c.loop-from.auto.from-end) in
    subst (λ n. ArePostsOf m (sent_at m.all_sent (map (λ x. x.items) c.args.rows.items))
    (got_by m.received (map (λ x. x.items) c.args.columns.now.items))
    (InRows n c.args.owners) c.loop-from.posts.items) e c.loop-from.invariant.posts
