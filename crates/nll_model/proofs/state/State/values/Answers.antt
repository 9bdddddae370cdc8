use Rattle.std.proofs.Common.{◌≡◌, ◌↔◌, ◌<◌, ◌+◌, ◌++◌, [], ◌∷◌, get_or, sym, ap, ◌∙◌, subst, arith}
use Rattle.nll_problem.specs.Graph.{element_count}
use Rattle.nll_problem.specs.Problem.{Problem}
use Rattle.nll_core.specs.Search.{IsIn}
use Rattle.nll_cut.specs.Partition.{Cut, owner_of}
use Rattle.nll_owner.specs.Logs.{IsTold}
use Rattle.nll_owner.specs.Owner.{Owner}
use Rattle.nll_owner.proofs.OwnerLemmas.{get_at}
use Rattle.nll_model.specs.State.{WorldState, IsAt}
use Rattle.nll_model.specs.Soundness.{IsSoundSeat}
use Rattle.nll_model.proofs.SaysLemmas.{AreSaid, said_more, said_all}
use Rattle.nll_model.proofs.state.State.values.Goals as goal
use Rattle.nll_model.proofs.state.State.values.Goals.{After-owner-owner}

low : (c : After-owner-owner) → c.loop-number.number < c.args.problem.now.regions
low c = omega (arith, c.loop-number-test.true, c.regions-number-end.ensures.value)

at : (c : After-owner-owner) → IsAt c.args.self.now (owner_of c.args.cut.now c.loop-number.number) c.index.result.now
at c =
    let owned = c.requires.cut.cut.owned c.loop-number.number (omega (arith, low c, c.requires.cut.regions)) in
    let o = c.owner_of.ensures.value in
    subst (λ i. IsAt c.args.self.now i c.index.result.now) o
    (get_at c.args.self.now.seats c.owner_of.result c.index.result.now
    (omega (arith, o, owned, c.requires.sound.count))
    (sym (c.index.ensures ∙ ap (λ (w : WorldState). get_or w.seats c.owner_of.result c.index.result.now)
    c.self.view_is)))

seat : (c : After-owner-owner)
    → IsSoundSeat c.args.problem.now c.args.cut.now (owner_of c.args.cut.now c.loop-number.number) c.index.result.now
seat c = c.requires.sound.seats (owner_of c.args.cut.now c.loop-number.number) c.index.result.now (at c)

pub set-requires-clause-region : goal.set-requires-clause-region
set-requires-clause-region c =
    let d = (goal.at.set-requires-clause-region c).After-owner-owner in
    omega (
      arith,
      low d,
      ap (λ (o : Owner). o.problem.regions) c.owner-owner.ensures,
      ap (λ (q : Problem). q.regions) (seat d).problem,
    )

pub set-requires-clause-own : goal.set-requires-clause-own
set-requires-clause-own c =
    let d = (goal.at.set-requires-clause-own c).After-owner-owner in
    subst (λ (o : Owner). owner_of o.cut c.loop-number.number ≡ o.me) (sym c.owner-owner.ensures)
    (ap (λ (x : Cut). owner_of x c.loop-number.number) (seat d).cut ∙ sym (seat d).me)

pub loop-number-preserved : goal.loop-number-preserved
loop-number-preserved c =
    let d = (goal.at.loop-number-preserved c).After-owner-owner in
    subst (AreSaid c.args.problem.now c.args.cut.now c.args.self.now (c.loop-number.number + 1))
    (sym (c.in_ok-push.ensures.items ∙ ap (λ x. c.loop-number.sets.items ++ x ∷ []) c.in_ok-copy.ensures))
    (said_more c.args.problem.now c.args.cut.now c.args.self.now c.loop-number.number c.loop-number.sets.items
    c.loop-number.invariant c.index.result.now (at d) c.set.result.now
    (c.set.ensures.width ∙ (ap (λ (o : Owner). element_count o.problem.graph) c.owner-owner.ensures
    ∙ ap (λ (q : Problem). element_count q.graph) (seat d).problem))
    (λ e. subst (λ (o : Owner). IsIn c.set.result.now e ↔ IsTold o.log c.loop-number.number e) c.owner-owner.ensures
    (c.set.ensures.told e)))

pub returns-clause-held : goal.returns-clause-held
returns-clause-held c =
    let is : c.loop-number.number ≡ c.args.problem.now.regions =
    omega (
      arith,
      c.loop-number-test.false,
      c.loop-number.auto.number-end,
      c.regions-number-end.ensures.value,
    ) in
    said_all c.args.problem.now c.args.cut.now c.requires.cut c.args.self.now c.requires.sound
    c.of_sets.result
    (subst (AreSaid c.args.problem.now c.args.cut.now c.args.self.now c.args.problem.now.regions)
    (sym c.of_sets.ensures)
    (subst (λ n. AreSaid c.args.problem.now c.args.cut.now c.args.self.now n c.loop-number.sets.items) is
    c.loop-number.invariant))
