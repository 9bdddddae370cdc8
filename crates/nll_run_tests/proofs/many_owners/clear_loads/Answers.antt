use Rattle.std.proofs.Common.{◌≡◌, ◌+◌, ◌<◌, ◌≤◌, length, ◌∙◌, arith, rules}
use Rattle.nll_run_tests.proofs.ListLemmas.{stands_at, each_set}
use Rattle.nll_run_tests.proofs.many_owners.clear_loads.Goals as goal

pub loop-place-init : goal.loop-place-init
loop-place-init g c = record {
  count = omega arith;
  each = λ k share at. let is = c.requires.shares k share at in (is.0, is.1, omega (arith, is.2));
}

pub clear-requires-clause-book : goal.clear-requires-clause-book
clear-requires-clause-book g c =
    let xs = c.loop-place.shares.items in let share = c.index_mut.result.now in
    let within : c.loop-place.place < length xs = search rules in
    (c.loop-place.invariant.each c.loop-place.place share
    (stands_at xs c.loop-place.place share within c.index_mut.ensures.value)).0

pub clear-requires-clause-few : goal.clear-requires-clause-few
clear-requires-clause-few g c =
    let xs = c.loop-place.shares.items in let share = c.index_mut.result.now in
    let within : c.loop-place.place < length xs = search rules in
    let is =
    c.loop-place.invariant.each c.loop-place.place share
    (stands_at xs c.loop-place.place share within c.index_mut.ensures.value) in
    (omega arith, omega (arith, is.2, within, c.loop-place.invariant.count, c.requires.few))

pub loop-place-preserved : goal.loop-place-preserved
loop-place-preserved g c =
    let xs = c.loop-place.shares.items in let share = c.index_mut.result.now in let place = c.loop-place.place in
    let within : place < length xs = search rules in
    let is = c.loop-place.invariant.each place share (stands_at xs place share within c.index_mut.ensures.value) in
    record {
      count = c.loop-place.invariant.count;
      each = each_set (λ k s. g.L.Ledger.belongs c.args.book.now s × (g.L.Ledger.number s ≡ k)
          × (g.L.Ledger.cleared s ≤ place + 1)) xs place c.clear.new.share
          (c.clear.ensures.book.0, c.clear.ensures.book.1 ∙ is.1, omega (arith, c.clear.ensures.cleared, is.2))
          (λ k s at. let other = c.loop-place.invariant.each k s at in (other.0, other.1, omega (arith, other.2)));
    }

pub returns-clause-shares : goal.returns-clause-shares
returns-clause-shares g c = λ place share at. let is = c.loop-place.invariant.each place share at in (is.0, is.1)
