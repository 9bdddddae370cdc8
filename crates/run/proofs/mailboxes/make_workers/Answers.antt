use Rattle.std.proofs.Common.{◌≡◌, ◌+◌, ◌≤◌, [], length, refl, sym, ap, ◌∙◌, arith, vec_capacity}
use Rattle.run.proofs.PlaceLemmas.{front_moved, front_moved_as, each_pushed, push_size}
use Rattle.run.proofs.mailboxes.make_workers.Goals as goal

pub loop-me-preserved : goal.loop-me-preserved
loop-me-preserved g c =
    let inv = c.loop-me.invariant in
    let pushed = c.in_ok-push.ensures.items in
    let rows = c.in-Some.ensures.items in
    let columns = c.in-Some-pop_front.ensures.items in
    let shares = c.in-Some-pop_front-2.ensures.items in
    record {
      row_count = (let e = ap length rows in omega (arith, e, inv.row_count));
      column_count = (let e = ap length columns in omega (arith, e, inv.column_count));
      share_count = (let e = ap length shares in omega (arith, e, inv.share_count));
      count = ap length pushed ∙ (push_size c.loop-me.workers.items _ ∙ ap (λ n. n + 1) inv.count);
      rows = front_moved (λ w. w.outbox.senders.items)
          (λ o. o.senders.items) c.loop-me.workers.items c.push.new.self.items _ c.loop-me.rows.items
          c.pop_front.new.self.items c.in-Some.outbox _ pushed rows refl inv.rows;
      columns =
          front_moved (λ w. w.receivers.items)
          (λ x. x.items) c.loop-me.workers.items c.push.new.self.items _ c.loop-me.columns.items
          c.pop_front-in-loop-me.new.self.items c.in-Some-pop_front.receivers _ pushed columns refl inv.columns;
      shares =
          front_moved_as (λ w. w.share) c.loop-me.workers.items c.push.new.self.items _ c.loop-me.shares.items
          c.pop_front-in-loop-me-2.new.self.items c.in-Some-pop_front-2.share _ pushed shares refl inv.shares;
      each = each_pushed (λ k w. (w.me ≡ k) × (w.room.items ≡ []) × (c.args.owners ≤ vec_capacity w.room))
          c.loop-me.workers.items c.push.new.self.items _ pushed inv.each
          (sym inv.count, c.in_ok-room.ensures.items, omega (arith, c.in_ok-room.ensures.capacity));
    }
