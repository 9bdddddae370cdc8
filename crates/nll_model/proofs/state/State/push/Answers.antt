use Rattle.std.proofs.Common.{◌≡◌, get_or, slice_set, ap, ◌∙◌}
use Rattle.nll_model.specs.State.{Seat, WorldState}
use Rattle.nll_model.proofs.StateLemmas.{seat_is}
use Rattle.nll_problem.specs.Problem.{Problem}
use Rattle.nll_cut.specs.Partition.{Cut}
use Rattle.nll_owner.proofs.ReceiptLemmas.{on_err_always}
use Rattle.nll_model.specs.Soundness.{IsOrderly}
use Rattle.nll_model.proofs.OrderlyLemmas.{orderly_after, stays}
use Rattle.nll_model.proofs.state.State.push.Goals as goal
use Rattle.nll_model.proofs.state.State.push.Goals.{After-index_mut}

is : (c : After-index_mut) → c.index_mut.result.now ≡ c.requires.possible.0
is c = seat_is c.args.self.now c.args.i c.requires.possible.0 c.index_mut.result.now c.requires.possible.2
    (c.index_mut.ensures.value ∙ ap (λ (w : WorldState). get_or w.seats c.args.i c.index_mut.result.now) c.self.view_is)

pub returns-in_err-push-clause-orderly : goal.returns-in_err-push-clause-orderly
returns-in_err-push-clause-orderly c =
    let d = (goal.at.returns-in_err-push-clause-orderly c).After-index_mut in
    let old = c.requires.sound.2.seats c.args.i c.requires.possible.0 c.requires.possible.2 in
    let on = stays _ _ (c.push.ensures.owner ∙ ap (λ (s : Seat). s.owner) (is d)) old.sound in
    let all : (q : Problem) (e : Cut) → IsOrderly q e c.args.self.now
    → IsOrderly q e (record {
      seats = slice_set c.self.inside.seats.items c.args.i c.push.new.self;
      balance = c.self.inside.balance;
    }) = λ q e orderly.
    orderly_after q e c.args.self.now (record
    { seats = c.self.inside.seats.items; balance = c.self.inside.balance }) c.args.i c.requires.possible.0
    c.push.new.self c.self.inside.balance c.self.view_is c.requires.possible.2 on orderly in
    on_err_always _ all
