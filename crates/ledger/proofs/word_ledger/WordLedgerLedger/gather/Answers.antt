use Rattle.std.proofs.Common.{◌≡◌, ◌+◌, ◌∷◌, [], List, length, vec_len, sym, ap, ◌∙◌, subst, arith, rules}
use Rattle.atomic_table.specs.Table.{Me}
use Rattle.ledger.specs.Shares.{Adding, parts_of_share}
use Rattle.ledger.specs.WordShares.{word_kind}
use Rattle.ledger.specs.declared.figures.Figures.{Figures}
use Rattle.ledger.specs.declared.word_book.WordLeft.{WordLeft}
use Rattle.ledger.proofs.ShareLemmas.{at_rest, split_more, split_size, next_part, last_parts, adding_first, adding_more, adding_fits, some_called}
use Rattle.ledger.proofs.WordLemmas.{joins, concludes}
use Rattle.ledger.proofs.word_ledger.WordLedgerLedger.gather.Goals as goal

pub loop-left-init : goal.loop-left-init
loop-left-init c =
    let all = c.args.lefts.items in let rest = c.pop.new.self.items in let last = c.in-Some.last in
    let popped = c.in-Some.ensures.items in
    let owners = c.args.book.owners in
    let size : length rest + 1 ≡ vec_len c.args.lefts =
    (let p = ap length popped in let q = split_size rest [] last in omega (arith, p, q)) in
    let own = c.requires.each (length rest) last (at_rest all rest [] last (sym popped)) in
    record {
      seat = own.0.0;
      split = (last ∷ [], sym popped);
      some = omega (arith, size);
      adding =
          adding_first word_kind last rest all popped
          (last_parts owners (length rest) last.seat.me.0.parts (own.0.1 ∙ ap (parts_of_share owners) own.1)
          (size ∙ c.requires.count) c.args.book.few.1);
      owed = sym (ap (λ (y : Figures). y.owed) last.knows);
      cleared = sym (ap (λ (y : Figures). y.cleared) last.knows);
    }

pub overflow_add-owed : goal.overflow_add-owed
overflow_add-owed c =
    let inv = c.loop-left.invariant in let rest = c.pop-in-loop-left.new.self.items in let left = c.in-Some-pop.left in
    let adding =
    subst (λ (xs : List WordLeft). Adding word_kind c.loop-left.seat.me.0 xs c.args.lefts.items)
    c.in-Some-pop.ensures.items inv.adding in
    omega (
      arith,
      inv.owed,
      (adding_fits word_kind c.loop-left.seat.me.0 left rest c.args.lefts.items adding
          (omega (arith, c.requires.count, c.args.book.few.1))).0,
    )

pub overflow_add-cleared : goal.overflow_add-cleared
overflow_add-cleared c =
    let inv = c.loop-left.invariant in let rest = c.pop-in-loop-left.new.self.items in let left = c.in-Some-pop.left in
    let adding =
    subst (λ (xs : List WordLeft). Adding word_kind c.loop-left.seat.me.0 xs c.args.lefts.items)
    c.in-Some-pop.ensures.items inv.adding in
    omega (
      arith,
      inv.cleared,
      (adding_fits word_kind c.loop-left.seat.me.0 left rest c.args.lefts.items adding
          (omega (arith, c.requires.count, c.args.book.few.1))).1,
    )

pub join_seat-requires : goal.join_seat-requires
join_seat-requires c =
    let inv = c.loop-left.invariant in let all = c.args.lefts.items in let rest = c.pop-in-loop-left.new.self.items in
    let left = c.in-Some-pop.left in
    let split = split_more rest inv.split.0 all c.loop-left.lefts.items left c.in-Some-pop.ensures.items inv.split.1 in
    let own = c.requires.each (length rest) left (at_rest all rest inv.split.0 left split) in (
      inv.seat,
      own.0.0,
      left.empty,
      omega (arith, c.args.book.two.0),
      joins c.loop-left.seat.id c.loop-left.seat.me.0 left.seat.id left.seat.me.0,
    )

pub loop-left-preserved : goal.loop-left-preserved
loop-left-preserved c =
    let inv = c.loop-left.invariant in let all = c.args.lefts.items in let rest = c.pop-in-loop-left.new.self.items in
    let left = c.in-Some-pop.left in let popped = c.in-Some-pop.ensures.items in
    let owners = c.args.book.owners in
    let split = split_more rest inv.split.0 all c.loop-left.lefts.items left popped inv.split.1 in
    let size : vec_len c.loop-left.lefts ≡ length rest + 1 =
    (let p = ap length popped in let q = split_size rest [] left in omega (arith, p, q)) in
    let own = c.requires.each (length rest) left (at_rest all rest inv.split.0 left split) in
    let part =
    next_part owners (length rest) left.seat.me.0.parts (own.0.1 ∙ ap (parts_of_share owners) own.1)
    (omega (arith, size, inv.some, c.requires.count)) in
    let adding = subst (λ (xs : List WordLeft). Adding word_kind c.loop-left.seat.me.0 xs all) popped inv.adding in
    let now = ap (λ (m : Me (Unit {0}) Figures). m.0) c.join_seat.ensures.2 in record {
      seat = c.join_seat.ensures.0 ∙ inv.seat;
      split = (left ∷ inv.split.0, split);
      some = omega (arith, size);
      adding =
          subst (λ (y : Figures). Adding word_kind y rest all) (sym now)
          (adding_more word_kind c.loop-left.seat.me.0 left rest inv.split.0 all split part adding);
      owed = (let a = ap (λ (y : Figures). y.owed) now in let b = ap (λ (y : Figures). y.owed) left.knows in
          omega (arith, a, b, inv.owed));
      cleared =
          (let a = ap (λ (y : Figures). y.cleared) now in let b = ap (λ (y : Figures). y.cleared) left.knows in
          omega (arith, a, b, inv.cleared));
    }

pub load-requires : goal.load-requires
load-requires c =
    let none : length c.loop-left.lefts.items ≡ 0 = search rules in let seat = c.loop-left.seat in (
      c.loop-left.invariant.seat,
      omega (arith, c.args.book.two.0),
      concludes c.args.book.table.shared.table_id.slots seat.id seat.me.0 seat.me.1
          (omega (arith, c.loop-left.invariant.adding.parts, none)),
    )

pub returns-clause-stopped : goal.returns-clause-stopped
returns-clause-stopped c =
    let all = c.args.lefts.items in
    let none : c.loop-left.lefts.items ≡ [] = search rules in
    let adding =
    subst (λ (xs : List WordLeft). Adding word_kind c.loop-left.seat.me.0 xs all) none c.loop-left.invariant.adding
    in
    some_called word_kind c.loop-left.seat.me.0 all adding c.load.ensures.2.2
