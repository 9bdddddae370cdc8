use Rattle.std.proofs.Common.{◌≡◌, ◌+◌, ◌<◌, [], ◌∷◌, length, length-append, sym, ap, ◌∙◌, subst, arith, rules}
use Rattle.crossbeam_queue.specs.Passes.{view, IsPassOf, Pass}
use Rattle.ledger.specs.LockShares.{IsNew}
use Rattle.ledger.specs.Shares.{parts_of_share}
use Rattle.ledger.specs.declared.figures.Figures.{Figures}
use Rattle.ledger.specs.declared.lock_rule.Known.{Known}
use Rattle.ledger.specs.declared.lock_rule.State.{State}
use Rattle.ledger.proofs.ShareLemmas.{each_pushed, parts_last}
use Rattle.ledger.proofs.LockLemmas.{cuts}
use Rattle.ledger.proofs.lock_ledger.deal.Goals as goal

pub another-other-requires-clause-rule : goal.another-other-requires-clause-rule
another-other-requires-clause-rule g c =
    let inv = c.loop-number.invariant in let pass = c.loop-number.pass in let book = c.args.book.now in
    let e = inv.rest in
    let p = ap (λ (y : Figures). y.parts) e in let o = ap (λ (y : Figures). y.owed) e in
    let more : c.loop-number.number + 1 < book.owners = omega (arith, c.loop-number-test.true) in
    cuts pass.id (view pass) inv.free (omega (arith, p, more, book.few.1)) (omega (arith, o, more))
    (omega (arith, o, book.few.1)) (ap (λ (y : Figures). y.cleared) e) (ap (λ (y : Figures). y.quiets) e)
    (ap (λ (y : Figures). y.calls) e) (ap (λ (y : Figures). y.finds) e)

pub loop-number-preserved : goal.loop-number-preserved
loop-number-preserved g c =
    let inv = c.loop-number.invariant in let book = c.args.book.now in let share = c.share_of.result in
    let new : IsNew book c.loop-number.number share = search rules in
    record {
      pass = search rules;
      free = search rules;
      rest = search rules;
      count = ap length c.push_reserved.ensures.items
          ∙ (length-append c.loop-number.shares.items (share ∷ []) ∙ ap (λ n. n + 1) inv.count);
      room = search rules;
      each = each_pushed (IsNew book) c.loop-number.shares.items c.push_reserved.new.self.items share
          c.push_reserved.ensures.items inv.each (subst (λ n. IsNew book n share) (sym inv.count) new);
    }

pub returns-clause-shares : goal.returns-clause-shares
returns-clause-shares g c =
    let inv = c.loop-number.invariant in let book = c.args.book.now in let share = c.share_of-2.result in
    let is = c.share_of-2.ensures.account in let pass = c.share_of-2.ensures.pass in
    let end : c.loop-number.number + 1 ≡ book.owners =
    omega (arith, c.loop-number-test.false, c.loop-number.auto.number-end, book.few.0) in
    let number : share.account.number ≡ c.loop-number.number = omega (arith, is.0, end) in
    let parts : (view share.pass).figures.parts ≡ parts_of_share book.owners share.account.number =
    ap (λ (p : Pass State Known). (view p).figures.parts) pass ∙ (ap (λ (y : Figures). y.parts) inv.rest
    ∙ (omega (arith, end, book.few.1) ∙ sym (parts_last book.owners share.account.number (omega (arith, number, end)))))
    in
    each_pushed (IsNew book) c.loop-number.shares.items c.push_reserved-2.new.self.items share
    c.push_reserved-2.ensures.items inv.each (
      (subst (λ (p : Pass State Known). IsPassOf book.lock p) (sym pass) inv.pass, parts),
      omega (arith, number, inv.count),
      is.1,
      is.2,
      is.3,
      is.4,
      ap (λ (p : Pass State Known). (view p).figures.steps) pass ∙ ap (λ (y : Figures). y.steps) inv.rest,
    )
