use Rattle.std.proofs.Common.{◌≡◌, ◌+◌, suc, List, IfSome, slice_get, Some, vec_len, ap, ◌∙◌, subst, arith, rules}
use Rattle.ledger.proofs.ShareLemmas.{each_pushed}
use Rattle.nll_run_tests.proofs.many_owners.leave_all.Goals as goal

pub loop-share-init : goal.loop-share-init
loop-share-init g c =
    let none : vec_len c.new-lefts.result ≡ 0 = search rules in record {
      count = search rules;
      coming = λ k share at.
          let is =
          c.requires k share (subst (λ (xs : List _). slice_get xs k ≡ Some share) c.from-coming.ensures.0 at) in
          (is.0, omega (arith, is.1, none));
      lefts = λ k left at. absurd (let it = subst
          (λ (xs : List _). slice_get xs k ≡ Some left) c.new-lefts.ensures.items at in cc it);
    }

pub try_to_leave-left-requires-after_bounds : goal.try_to_leave-left-requires-after_bounds
try_to_leave-left-requires-after_bounds g c κs within =
    (c.loop-share.invariant.coming 0 c.in-Some.share (ap (λ (xs : List _). slice_get xs 0) c.in-Some.ensures.items)).0

pub loop-share-preserved : goal.loop-share-preserved
loop-share-preserved g c =
    let inv = c.loop-share.invariant in let share = c.in-Some.share in let left = c.in-Some-left.left in
    let here = inv.coming 0 share (ap (λ (xs : List _). slice_get xs 0) c.in-Some.ensures.items) in
    let more : vec_len c.push.new.self ≡ vec_len c.loop-share.lefts + 1 = search rules in
    let is =
    subst (λ o. IfSome o (λ l. g.L.Ledger.left_belongs c.args.book.now l
    × (g.L.Ledger.left_number l ≡ g.L.Ledger.number share))) c.in-Some-left.is c.try_to_leave-left.ensures.left in
    record {
      count = omega (arith, inv.count, more, c.in-Some.ensures.len);
      coming = λ k s at.
          let it = inv.coming (suc k) s (ap (λ (xs : List _). slice_get xs (suc k)) c.in-Some.ensures.items ∙ at) in
          (it.0, omega (arith, it.1, more));
      lefts = each_pushed (λ k l. g.L.Ledger.left_belongs c.args.book.now l × (g.L.Ledger.left_number l ≡ k))
          c.loop-share.lefts.items c.push.new.self.items left c.in_ok-push.ensures.items inv.lefts
          (is.0, omega (arith, is.1, here.1));
    }
