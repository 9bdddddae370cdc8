use Rattle.std.proofs.Common.{◌≡◌, ◌+◌, ◌≤◌, ℕ, get_or, slice_set, ap, ◌∙◌, arith}
use Rattle.nll_model.specs.State.{Seat, WorldState}
use Rattle.nll_model.specs.Events.{owed_seat, fresh_count}
use Rattle.nll_model.proofs.StateLemmas.{seat_is, owe_small}
use Rattle.nll_problem.specs.Problem.{Problem}
use Rattle.nll_cut.specs.Partition.{Cut}
use Rattle.nll_owner.proofs.ReceiptLemmas.{on_err_always}
use Rattle.nll_model.specs.Soundness.{IsOrderly}
use Rattle.nll_model.proofs.OrderlyLemmas.{orderly_after, stays}
use Rattle.nll_model.proofs.state.State.owe.Goals as goal
use Rattle.nll_model.proofs.state.State.owe.Goals.{After-index_mut}

is : (c : After-index_mut) → c.index_mut.result.now ≡ c.requires.possible.0
is c = seat_is c.args.self.now c.args.i c.requires.possible.0 c.index_mut.result.now c.requires.possible.1
    (c.index_mut.ensures.value ∙ ap (λ (w : WorldState). get_or w.seats c.args.i c.index_mut.result.now) c.self.view_is)

small : (c : After-index_mut) → c.args.self.now.balance + fresh_count c.requires.possible.0 ≤ 2251799813685248
small c =
    owe_small c.requires.sound.0 c.requires.sound.1 c.args.self.now c.requires.sound.2 c.args.i c.requires.possible.0
    c.requires.possible.1 c.requires.possible.2

pub owe-requires : goal.owe-requires
owe-requires c =
    let d = (goal.at.owe-requires c).After-index_mut in
    let e = ap fresh_count (is d) in omega (arith, e, small d)

pub overflow_add-self : goal.overflow_add-self
overflow_add-self c =
    let d = (goal.at.overflow_add-self c).After-index_mut in
    let e = ap fresh_count (is d) in let n = ap (λ (w : WorldState). w.balance) c.self.view_is in
    omega (arith, e, n, small d, c.in_ok-count.ensures.count)

pub returns-clause-does : goal.returns-clause-does
returns-clause-does c =
    let d = (goal.at.returns-clause-does c).After-index_mut in
    let s = c.requires.possible.0 in
    let owed = c.in_ok-count.ensures.seat ∙ ap owed_seat (is d) in
    let count = c.in_ok-count.ensures.count ∙ ap fresh_count (is d) in (
      s,
      c.requires.possible.1,
      c.requires.possible.2,
      ap (λ (w : WorldState). record {
        seats = slice_set w.seats c.args.i c.owe.new.self;
        balance = w.balance + c.in_ok-count.count;
      }) c.self.view_is
          ∙ (ap (λ (x : Seat). record {
            seats = slice_set c.args.self.now.seats c.args.i x;
            balance = c.args.self.now.balance + c.in_ok-count.count;
          }) owed
          ∙ ap (λ (k : ℕ). record {
            seats = slice_set c.args.self.now.seats c.args.i (owed_seat s);
            balance = c.args.self.now.balance + k;
          }) count),
    )

pub returns-in_err-count-clause-orderly : goal.returns-in_err-count-clause-orderly
returns-in_err-count-clause-orderly c =
    let d = (goal.at.returns-in_err-count-clause-orderly c).After-index_mut in
    let old = c.requires.sound.2.seats c.args.i c.requires.possible.0 c.requires.possible.1 in
    let on = stays _ _ (c.owe.ensures.owner ∙ ap (λ (s : Seat). s.owner) (is d)) old.sound in
    let all : (q : Problem) (e : Cut) → IsOrderly q e c.args.self.now
    → IsOrderly q e (record {
      seats = slice_set c.self.inside.seats.items c.args.i c.owe.new.self;
      balance = c.self.inside.balance;
    }) = λ q e orderly.
    orderly_after q e c.args.self.now (record
    { seats = c.self.inside.seats.items; balance = c.self.inside.balance }) c.args.i c.requires.possible.0
    c.owe.new.self c.self.inside.balance c.self.view_is c.requires.possible.1 on orderly in
    on_err_always _ all
