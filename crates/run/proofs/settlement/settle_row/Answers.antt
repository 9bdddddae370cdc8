use Rattle.std.proofs.Common.{◌≡◌, ◌<◌, ◌+◌, [], ◌∷◌, Option, append-nil, drop, map, length, slice_set, refl, sym, subst, ap, ◌∙◌, ⊎_elim, arith, rules}
use Rattle.fixpoint.specs.Logs.{log_of}
use Rattle.worker.specs.Mailboxes.{through}
use Rattle.run.specs.Table.{AreEnds, list_at}
use Rattle.run.specs.Settling.{AddsPost, AddsPosts, InRow}
use Rattle.run.proofs.PlaceLemmas.{list_read, map_size, map_set, set_here, set_there, set_size}
use Rattle.run.proofs.SettlingLemmas.{settled_none, settle_cell, posts_more, order_more, cases_last, come_later, next_row}
use Rattle.run.proofs.settlement.settle_row.Goals as goal
use Rattle.run.proofs.settlement.settle_row.Goals.{In-Some, In-Some-pop_front}
use Rattle.run.proofs.settlement.settle_row.Goals.{in-Some-closed+in-Some-receiver+in_ok-push, in_default-closed+in-Some-1, in_default-closed+in-None-1}

pub loop-to-init : goal.loop-to-init
loop-to-init g c =
    let m = g.M.Mail in
    record {
      row = refl;
      count = refl;
      cut = λ j l. absurd (omega (arith, l));
      others = λ j l. refl;
      order = c.requires.order;
      posts = (
        [],
        sym (append-nil c.args.posts.now.items),
        settled_none m _ _ (InRow c.args.from 0) (λ i j d. absurd (omega (arith, d.1))),
      );
    }

inside : (g : _) (c : In-Some g) → c.loop-to.to < length c.loop-to.columns.items
inside g c =
    omega (
      arith,
      c.loop-to-test.true,
      c.requires.columns,
      c.loop-to.invariant.count,
      map_size (λ x. x.items) c.loop-to.columns.items,
      map_size (λ x. x.items) c.args.columns.now.items,
    )

-- the first entry of a column, and the two ends that belong together
column : (g : _) (c : In-Some-pop_front g) → c.loop-to.to < length c.loop-to.columns.items
    → list_at (map (λ x. x.items) c.args.columns.now.items) c.loop-to.to
    ≡ c.in-Some-pop_front.receiver ∷ c.pop_front-in-loop-to.new.self.items
column g c low = sym (c.loop-to.invariant.others c.loop-to.to (omega arith))
    ∙ (list_read (λ x. x.items) c.loop-to.columns.items c.loop-to.to c.index_mut.result.now low
    c.index_mut.ensures.value ∙ c.in-Some-pop_front.ensures.items)

ends : (g : _) (c : In-Some-pop_front g) → c.loop-to.to < length c.loop-to.columns.items
    → AreEnds g.M.Mail.closes g.M.Mail.ends c.args.from c.loop-to.to c.in-Some.closed c.in-Some-pop_front.receiver
ends g c low =
    let m = g.M.Mail in
    (settle_cell (AreEnds m.closes m.ends) c.args.from c.loop-to.to c.args.row.items c.pop_front.new.self.items
    (list_at (map (λ x. x.items) c.args.columns.now.items) c.loop-to.to) c.pop_front-in-loop-to.new.self.items
    c.in-Some.closed c.in-Some-pop_front.receiver (c.requires.heads c.loop-to.to c.loop-to-test.true)
    (sym c.loop-to.invariant.row ∙ c.in-Some.ensures.items) (column g c low)).1

pub unreachable-requires-in_default-pop_front : goal.unreachable-requires-in_default-pop_front
unreachable-requires-in_default-pop_front g c =
    let h = c.requires.heads c.loop-to.to c.loop-to-test.true in
    let column =
    sym (list_read (λ x. x.items) c.loop-to.columns.items c.loop-to.to c.index_mut.result.now
    (inside g (goal.at.unreachable-requires-in_default-pop_front g c).In-Some) c.index_mut.ensures.value)
    ∙ (c.loop-to.invariant.others c.loop-to.to (omega arith) ∙ h.4) in
    let none : length c.index_mut.result.now.items ≡ 0 = search rules in
    absurd (omega (arith, none, ap length column))

pub unreachable-requires-in_default-receiver : goal.unreachable-requires-in_default-receiver
unreachable-requires-in_default-receiver g c =
    subst (λ (y : Option _ × Option _). AreEnds g.M.Mail.closes g.M.Mail.ends c.args.from c.loop-to.to y.0 y.1)
    (λ i. (c.in-Some-closed.is i, c.in_default-receiver.is i))
    (let at = goal.at.unreachable-requires-in_default-receiver g c in
    ends g at.In-Some-pop_front (inside g at.In-Some))

pub settle-requires : goal.settle-requires
settle-requires g c =
    (subst (λ (y : Option _ × Option _). AreEnds g.M.Mail.closes g.M.Mail.ends c.args.from c.loop-to.to y.0 y.1)
    (λ i. (c.in-Some-closed.is i, c.in-Some-receiver.is i))
    (let at = goal.at.settle-requires g c in ends g at.In-Some-pop_front (inside g at.In-Some))).1

pub loop-to-preserved : goal.loop-to-preserved
loop-to-preserved g c =
    let m = g.M.Mail in let inv = c.loop-to.invariant in let to = c.loop-to.to in
    let h = c.requires.heads to c.loop-to-test.true in
    let now = c.loop-to.columns.items in let v = c.pop_front-in-loop-to.new.self in
    let lists = map (λ x. x.items) now in
    let at = goal.at.loop-to-preserved g c in
    let inside = inside g at.In-Some in
    let inside' : to < length lists = omega (arith, inside, map_size (λ x. x.items) now) in
    let column = column g at.In-Some-pop_front inside in
    let add : AddsPost m c.in-Some.closed c.in-Some-pop_front.receiver c.loop-to.posts.items
    c.match-closed.posts.items =
    elim c.match-closed.branch [
      | in-Some-closed+in-Some-receiver+in_ok-push w ↦
          subst (λ (y : Option _ × Option _). AddsPost m y.0 y.1 c.loop-to.posts.items c.match-closed.posts.items)
          (λ i. (sym w.in-Some-closed.is i, sym w.in-Some-receiver.is i)) (
            w.settle.result,
            ap (λ v. v.items) w.posts-is ∙ w.in_ok-push.ensures.items,
            w.settle.ensures.ends,
            w.settle.ensures.sent,
            w.settle.ensures.received,
            w.settle.ensures.rest,
          )
      | in_default-closed+in-Some-1 w ↦ subst (λ (y : Option _). AddsPost m y c.in-Some-pop_front.receiver
          c.loop-to.posts.items c.match-closed.posts.items)
          (sym w.in_default-closed.is) (ap (λ v. v.items) w.posts-is)
      | in_default-closed+in-None-1 w ↦ subst (λ (y : Option _). AddsPost m y c.in-Some-pop_front.receiver
          c.loop-to.posts.items c.match-closed.posts.items)
          (sym w.in_default-closed.is) (ap (λ v. v.items) w.posts-is)
    ] in
    let cell =
    settle_cell (AreEnds m.closes m.ends) c.args.from to c.args.row.items c.pop_front.new.self.items
    (list_at (map (λ x. x.items) c.args.columns.now.items) to) v.items
    c.in-Some.closed c.in-Some-pop_front.receiver h (sym inv.row ∙ c.in-Some.ensures.items) column in
    let set = map_set (λ x. x.items) now to v in
    record {
      row = cell.2;
      count = ap length set ∙ (set_size lists to v.items ∙ inv.count);
      cut = λ j l. ap (λ ls. list_at ls j) set ∙ ⊎_elim
          (λ (k : j < to). set_there lists to j v.items (λ e. absurd (omega (arith, k, e))) ∙ inv.cut j k)
          (λ (k : j ≡ to). subst (λ n. list_at (slice_set lists to v.items) n
          ≡ drop 1 (list_at (map (λ x. x.items) c.args.columns.now.items) n)) (sym k)
          (set_here lists to v.items inside' ∙ cell.3))
          (cases_last j to l);
      others = λ j l. ap (λ ls. list_at ls j) set
          ∙ (set_there lists to j v.items (λ e. absurd (omega (arith, l, e))) ∙ inv.others j (omega (arith, l)));
      order = order_more m c.args.from to c.in-Some.closed c.in-Some-pop_front.receiver c.loop-to.posts.items
          c.match-closed.posts.items cell.1 add inv.order;
      posts = posts_more m c.args.from to c.args.row.items (map (λ x. x.items) c.args.columns.now.items)
          c.in-Some.closed c.in-Some-pop_front.receiver v.items cell.0 column cell.1 c.args.posts.now.items
          c.loop-to.posts.items c.match-closed.posts.items add inv.posts;
    }

pub returns-clause-posts : goal.returns-clause-posts
returns-clause-posts g c =
    let m = g.M.Mail in
    let e : c.loop-to.to ≡ c.args.owners = omega (arith, c.loop-to-test.false, c.loop-to.auto.to-end) in
    subst (λ n. AddsPosts m (λ _ j. log_of (map (through m.all_sent) c.args.row.items) j)
    (λ _ j. log_of (map (through m.received) (list_at (map (λ x. x.items) c.args.columns.now.items) j)) 0)
    (InRow c.args.from n) c.args.posts.now.items c.loop-to.posts.items) e c.loop-to.invariant.posts

pub returns-clause-order : goal.returns-clause-order
returns-clause-order g c =
    let m = g.M.Mail in
    come_later m.post_ends c.loop-to.posts.items (c.args.from, c.loop-to.to) (c.args.from + 1, 0)
    (next_row c.args.from c.loop-to.to) c.loop-to.invariant.order
