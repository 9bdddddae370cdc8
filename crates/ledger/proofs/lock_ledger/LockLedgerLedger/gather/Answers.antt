use Rattle.std.proofs.Common.{◌≡◌, ◌+◌, ◌∷◌, [], List, length, vec_len, sym, ap, ◌∙◌, subst, arith, rules}
use Rattle.crossbeam_queue.specs.Passes.{view}
use Rattle.ledger.specs.LockShares.{lock_kind}
use Rattle.ledger.specs.Shares.{Adding, parts_of_share}
use Rattle.ledger.specs.declared.figures.Figures.{Figures}
use Rattle.ledger.specs.declared.lock_book.LockLeft.{LockLeft}
use Rattle.ledger.specs.declared.lock_rule.Known.{Known}
use Rattle.ledger.proofs.LockLemmas.{joins, concludes}
use Rattle.ledger.proofs.ShareLemmas.{at_rest, split_more, split_size, next_part, last_parts, adding_first, adding_more, adding_fits, some_called}
use Rattle.ledger.proofs.lock_ledger.LockLedgerLedger.gather.Goals as goal

pub loop-left-init : goal.loop-left-init
loop-left-init g c =
    let all = c.args.lefts.items in let rest = c.pop.new.self.items in let last = c.in-Some.last in
    let popped = c.in-Some.ensures.items in
    let owners = c.args.book.owners in
    let size : length rest + 1 ≡ vec_len c.args.lefts =
    (let p = ap length popped in let q = split_size rest [] last in omega (arith, p, q)) in
    let own = c.requires.each (length rest) last (at_rest all rest [] last (sym popped)) in
    record {
      pass = own.0.0;
      free = last.free;
      split = (last ∷ [], sym popped);
      some = omega (arith, size);
      adding =
          adding_first lock_kind last rest all popped
          (last_parts owners (length rest) (view last.pass).figures.parts (own.0.1 ∙ ap (parts_of_share owners) own.1)
          (size ∙ c.requires.count) c.args.book.few.1);
      owed = sym (ap (λ (y : Figures). y.owed) last.knows);
      cleared = sym (ap (λ (y : Figures). y.cleared) last.knows);
    }

pub overflow_add-owed : goal.overflow_add-owed
overflow_add-owed g c =
    let inv = c.loop-left.invariant in let rest = c.pop-in-loop-left.new.self.items in let left = c.in-Some-pop.left in
    let adding =
    subst (λ (xs : List LockLeft). Adding lock_kind (view c.loop-left.pass).figures xs c.args.lefts.items)
    c.in-Some-pop.ensures.items inv.adding in
    omega (
      arith,
      inv.owed,
      (adding_fits lock_kind (view c.loop-left.pass).figures left rest c.args.lefts.items adding
          (omega (arith, c.requires.count, c.args.book.few.1))).0,
    )

pub overflow_add-cleared : goal.overflow_add-cleared
overflow_add-cleared g c =
    let inv = c.loop-left.invariant in let rest = c.pop-in-loop-left.new.self.items in let left = c.in-Some-pop.left in
    let adding =
    subst (λ (xs : List LockLeft). Adding lock_kind (view c.loop-left.pass).figures xs c.args.lefts.items)
    c.in-Some-pop.ensures.items inv.adding in
    omega (
      arith,
      inv.cleared,
      (adding_fits lock_kind
          (view c.loop-left.pass).figures left rest c.args.lefts.items adding
          (omega (arith, c.requires.count, c.args.book.few.1))).1,
    )

pub absorb-requires-clause-queue : goal.absorb-requires-clause-queue
absorb-requires-clause-queue g c =
    let inv = c.loop-left.invariant in let all = c.args.lefts.items in let rest = c.pop-in-loop-left.new.self.items in
    let left = c.in-Some-pop.left in
    let split = split_more rest inv.split.0 all c.loop-left.lefts.items left c.in-Some-pop.ensures.items inv.split.1 in
    (inv.pass, (c.requires.each (length rest) left (at_rest all rest inv.split.0 left split)).0.0)

pub absorb-requires-clause-rule : goal.absorb-requires-clause-rule
absorb-requires-clause-rule g c =
    joins c.loop-left.pass.id (view c.loop-left.pass) c.in-Some-pop.left.pass.id
    (view c.in-Some-pop.left.pass) c.loop-left.invariant.free c.in-Some-pop.left.free

pub loop-left-preserved : goal.loop-left-preserved
loop-left-preserved g c =
    let inv = c.loop-left.invariant in let all = c.args.lefts.items in let rest = c.pop-in-loop-left.new.self.items in
    let left = c.in-Some-pop.left in let popped = c.in-Some-pop.ensures.items in
    let owners = c.args.book.owners in
    let split = split_more rest inv.split.0 all c.loop-left.lefts.items left popped inv.split.1 in
    let size : vec_len c.loop-left.lefts ≡ length rest + 1 =
    (let p = ap length popped in let q = split_size rest [] left in omega (arith, p, q)) in
    let own = c.requires.each (length rest) left (at_rest all rest inv.split.0 left split) in
    let part =
    next_part owners (length rest) (view left.pass).figures.parts (own.0.1 ∙ ap (parts_of_share owners) own.1)
    (omega (arith, size, inv.some, c.requires.count)) in
    let adding =
    subst (λ (xs : List LockLeft). Adding lock_kind (view c.loop-left.pass).figures xs all) popped inv.adding in
    let queue = c.absorb.ensures.queue in let now = ap (λ (y : Known). y.figures) c.absorb.ensures.rule in record {
      pass = (queue.0 ∙ inv.pass.0, queue.2 ∙ inv.pass.1);
      free = ap (λ (y : Known). y.holds) c.absorb.ensures.rule;
      split = (left ∷ inv.split.0, split);
      some = omega (arith, size);
      adding =
          subst (λ (y : Figures). Adding lock_kind y rest all) (sym now)
          (adding_more lock_kind (view c.loop-left.pass).figures left rest inv.split.0 all split part adding);
      owed = (let a = ap (λ (y : Figures). y.owed) now in let b = ap (λ (y : Figures). y.owed) left.knows in
          omega (arith, a, b, inv.owed));
      cleared =
          (let a = ap (λ (y : Figures). y.cleared) now in let b = ap (λ (y : Figures). y.cleared) left.knows in
          omega (arith, a, b, inv.cleared));
    }

pub learn_as-requires-clause-rule : goal.learn_as-requires-clause-rule
learn_as-requires-clause-rule g c =
    let none : length c.loop-left.lefts.items ≡ 0 = search rules in
    concludes c.loop-left.pass.id (view c.loop-left.pass) (omega (arith, c.loop-left.invariant.adding.parts, none))

pub returns-clause-stopped : goal.returns-clause-stopped
returns-clause-stopped g c =
    let all = c.args.lefts.items in
    let none : c.loop-left.lefts.items ≡ [] = search rules in
    let adding =
    subst (λ (xs : List LockLeft). Adding lock_kind (view c.loop-left.pass).figures xs all) none
    c.loop-left.invariant.adding in
    some_called lock_kind (view c.loop-left.pass).figures all adding c.learn_as.ensures.rule.1.1
