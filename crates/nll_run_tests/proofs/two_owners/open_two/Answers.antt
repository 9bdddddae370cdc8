use Rattle.std.proofs.Common.{◌≡◌, ◌∷◌, [], List, length, slice_get, Some, sym, subst, arith}
use Rattle.nll_run_tests.proofs.ListLemmas.{last_at, get_front}
use Rattle.nll_run_tests.proofs.two_owners.open_two.Goals as goal

pub returns-clause-first : goal.returns-clause-first
returns-clause-first g c =
    let all = c.in_ok-book.shares.items in let rest = c.pop.new.self.items in let front = c.pop-2.new.self.items in
    let size : length rest ≡ 1 = omega (arith, c.in_ok-book.ensures.count, c.in-Some.ensures.len) in
    let at =
    get_front rest (c.in-Some.second ∷ []) 0 c.in-Some-pop.first
    (last_at rest front c.in-Some-pop.first 0 c.in-Some-pop.ensures.items size) in
    let is =
    c.in_ok-book.ensures.shares 0 c.in-Some-pop.first
    (subst (λ (xs : List _). slice_get xs 0 ≡ Some c.in-Some-pop.first) (sym c.in-Some.ensures.items) at) in
    (is.0, is.1, is.2, is.3)

pub returns-clause-second : goal.returns-clause-second
returns-clause-second g c =
    let all = c.in_ok-book.shares.items in
    let is =
    c.in_ok-book.ensures.shares 1 c.in-Some.second
    (last_at all c.pop.new.self.items c.in-Some.second 1 c.in-Some.ensures.items
    (omega (arith, c.in_ok-book.ensures.count))) in
    (is.0, is.1, is.2, is.3)
