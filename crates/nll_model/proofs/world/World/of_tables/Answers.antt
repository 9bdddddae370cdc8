use Rattle.std.proofs.Common.{◌≡◌, ℕ, [], ◌∷◌, List, length, sym, ap, ◌∙◌, subst, arith, length-append}
use Rattle.nll_problem.specs.Problem.{Problem, IsSound}
use Rattle.nll_cut.specs.Partition.{Cut}
use Rattle.nll_owner.specs.Owner.{first_owner}
use Rattle.nll_owner.specs.Logs.{IsCutOf}
use Rattle.nll_model.specs.State.{Seat, first_seat}
use Rattle.nll_model.specs.Soundness.{IsLawful}
use Rattle.nll_model.proofs.StepsLemmas.{first_sound_state}
use Rattle.nll_model.proofs.OrderlyLemmas.{sound_is_orderly}
use Rattle.nll_model.proofs.LawfulLemmas.{lawful}
use Rattle.nll_model.proofs.ReplayLemmas.{AreFirst, first_push, is_first}
use Rattle.nll_model.proofs.world.World.of_tables.Goals as goal
use Rattle.nll_model.proofs.world.World.of_tables.Goals.{in-Some+in_ok-owner-in-Some, in-None+in_ok-owner-in-None}

pub loop-me-preserved : goal.loop-me-preserved
loop-me-preserved c =
    let q = c.args.problem.now in let d = c.args.cut.now in
    let inv = c.loop-me.invariant in let s = c.in_ok-seat.seat in
    let owner : c.match-tables.owner ≡ first_owner q d c.loop-me.me =
    elim c.match-tables.branch [
      | in-Some+in_ok-owner-in-Some w ↦ w.owner-is ∙ w.in_ok-owner-in-Some.ensures
      | in-None+in_ok-owner-in-None w ↦ w.owner-is ∙ w.in_ok-owner-in-None.ensures
    ] in
    let first =
    is_first q d c.loop-me.me s c.match-tables.owner c.owners-owners.result c.in_ok-seat.ensures owner
    c.owners-owners.ensures.value in
    let n = ap (λ (xs : List Seat). length xs) c.in_ok-push.ensures.items in (
      omega (arith, n, inv.0, length-append c.loop-me.seats.items (s ∷ [])),
      subst (AreFirst q d) (sym c.in_ok-push.ensures.items)
          (first_push q d c.loop-me.seats.items s inv.1 (first ∙ ap (first_seat q d) (sym inv.0))),
    )

-- the state of the seats that were made is lawful
lawful_first : (q : Problem) (d : Cut) → IsSound q → IsCutOf q d → (n : ℕ) → n ≡ d.owners → (seats : List Seat)
    → length seats ≡ d.owners → AreFirst q d seats → IsLawful q d (record { seats = seats; balance = n })
lawful_first q d problem cut n value seats count each =
    lawful q d _ (first_sound_state q d _ problem cut (record { count = count; each = each; balance = value })) problem
    cut

pub invariant_of-result : goal.invariant_of-result
invariant_of-result c =
    let first =
    lawful_first c.args.problem.now c.args.cut.now c.regions-regions.ensures.sound
    (record { cut = c.owners-owners.ensures.sound; regions = c.requires.cut }) c.owners-owners.result
    c.owners-owners.ensures.value c.loop-me.seats.items (omega (
      arith,
      c.loop-me.invariant.0,
      c.loop-me-test.false,
      c.loop-me.auto.me-end,
      c.owners-owners.ensures.value,
    )) c.loop-me.invariant.1 in
    (sound_is_orderly c.args.problem.now c.args.cut.now _ first.sound, λ _. first)

pub returns-clause-lawful : goal.returns-clause-lawful
returns-clause-lawful c =
    lawful_first c.args.problem.now c.args.cut.now c.regions-regions.ensures.sound
    (record { cut = c.owners-owners.ensures.sound; regions = c.requires.cut }) c.owners-owners.result
    c.owners-owners.ensures.value c.loop-me.seats.items (omega (
      arith,
      c.loop-me.invariant.0,
      c.loop-me-test.false,
      c.loop-me.auto.me-end,
      c.owners-owners.ensures.value,
    )) c.loop-me.invariant.1
