use Rattle.std.proofs.Common.{◌≡◌, ◌+◌, ◌<◌, [], ◌∷◌, length, length-append, sym, ap, ◌∙◌, subst, arith, rules}
use Rattle.atomic_table.specs.Table.{Me}
use Rattle.ledger.specs.Shares.{parts_of_share}
use Rattle.ledger.specs.WordShares.{IsNewShare}
use Rattle.ledger.specs.declared.figures.Figures.{Figures}
use Rattle.ledger.proofs.ShareLemmas.{each_pushed, parts_last}
use Rattle.ledger.proofs.WordLemmas.{cuts}
use Rattle.ledger.proofs.word_ledger.deal.Goals as goal

pub split_seat-other-requires : goal.split_seat-other-requires
split_seat-other-requires c =
    let inv = c.loop-number.invariant in let seat = c.loop-number.seat in let book = c.args.book.now in
    let e = ap (λ (m : Me (Unit {0}) Figures). m.0) inv.rest in
    let p = ap (λ (y : Figures). y.parts) e in let o = ap (λ (y : Figures). y.owed) e in
    let more : c.loop-number.number + 1 < book.owners = omega (arith, c.loop-number-test.true) in
    let cut =
    cuts seat.id seat.me.0 (omega (arith, p, more, book.few.1)) (omega (arith, o, more))
    (omega (arith, o, book.few.1)) (ap (λ (y : Figures). y.cleared) e) (ap (λ (y : Figures). y.quiets) e)
    (ap (λ (y : Figures). y.calls) e) (ap (λ (y : Figures). y.finds) e) in
    (inv.seat, omega (arith, book.two.0), cut)

pub loop-number-preserved : goal.loop-number-preserved
loop-number-preserved c =
    let inv = c.loop-number.invariant in let book = c.args.book.now in let share = c.share_of.result in
    let new : IsNewShare book c.loop-number.number share = search rules in
    record {
      seat = search rules;
      rest = search rules;
      count = ap length c.push_reserved.ensures.items
          ∙ (length-append c.loop-number.shares.items (share ∷ []) ∙ ap (λ n. n + 1) inv.count);
      room = search rules;
      each = each_pushed (IsNewShare book) c.loop-number.shares.items c.push_reserved.new.self.items share
          c.push_reserved.ensures.items inv.each (subst (λ n. IsNewShare book n share) (sym inv.count) new);
    }

pub returns-clause-shares : goal.returns-clause-shares
returns-clause-shares c =
    let inv = c.loop-number.invariant in let book = c.args.book.now in let share = c.share_of-2.result in
    let is = c.share_of-2.ensures.account in let seat = c.share_of-2.ensures.seat in
    let end : c.loop-number.number + 1 ≡ book.owners =
    omega (arith, c.loop-number-test.false, c.loop-number.auto.number-end, book.few.0) in
    let number : share.account.number ≡ c.loop-number.number = omega (arith, is.0, end) in
    let parts : share.seat.me.0.parts ≡ parts_of_share book.owners share.account.number =
    ap (λ p. p.me.0.parts) seat ∙ (ap (λ (m : Me (Unit {0}) Figures). m.0.parts) inv.rest
    ∙ (omega (arith, end, book.few.1) ∙ sym (parts_last book.owners share.account.number (omega (arith, number, end)))))
    in
    each_pushed (IsNewShare book) c.loop-number.shares.items c.push_reserved-2.new.self.items share
    c.push_reserved-2.ensures.items inv.each (
      (ap (λ p. p.table_id) seat ∙ inv.seat, parts),
      omega (arith, number, inv.count),
      is.1,
      is.2,
      is.3,
      is.4,
      ap (λ p. p.me.0.steps) seat ∙ ap (λ (m : Me (Unit {0}) Figures). m.0.steps) inv.rest,
    )
