-- Where an event is possible.
use Rattle.std.proofs.Common.{◌≡◌, ◌≢◌, ◌↔◌, ℕ, ◌<◌, Bool, true, false, not, List, [], ◌∷◌, length, refl, sym, ap, ◌∙◌, arith}
use Rattle.std.specs.Prelude.{IsTrue}
use Rattle.std.proofs.lemmas.Bool.{false≢true}
use Rattle.std.proofs.lemmas.Option.{slice_get_within}
use Rattle.nll_problem.specs.Problem.{Problem}
use Rattle.nll_cut.specs.Partition.{Cut}
use Rattle.nll_model.specs.declared.event.Event.TheVariants.{Take, Push}
use Rattle.nll_model.specs.State.{Seat, WorldState, IsAt, lane_to}
use Rattle.nll_model.specs.Events.{IsFreeOwner, IsPossible}
use Rattle.nll_model.specs.Soundness.{IsSoundState}
use Rattle.nll_model.proofs.LaneLemmas.{same_at}
use Rattle.nll_model.proofs.StateLemmas.{lanes_is}

-- a list without an element is the empty one
pub no_items : {X : Type 0} (xs : List X) → length xs ≡ 0 → xs ≡ []
no_items [] h = refl
no_items (x ∷ xs) h = absurd (omega (arith, h))

-- numbers of no two owners
pub no_push : (q : Problem) (c : Cut) (w : WorldState) → IsSoundState q c w → (i j : ℕ) (b : Bool)
    → (IsTrue b ↔ ((i ≢ j) × (i < length w.seats) × (j < length w.seats))) → b ≡ false
    → IsTrue false ↔ IsPossible w (Push i j)
no_push q c w sound i j b two is = (
  (λ h. absurd (false≢true h)),
  (λ p.
      let within = slice_get_within w.seats i p.0 p.2 in
      absurd (false≢true (sym is ∙ two.1 (p.1, within, omega (arith, p.3, lanes_is q c w sound i p.0 p.2))))),
)

pub may_push : (w : WorldState) (i j : ℕ) (s : Seat) → i ≢ j → IsAt w i s → j < length s.lanes → (b : Bool)
    → (IsTrue b ↔ ((lane_to s j).out ≡ [])) → IsTrue (not b) ↔ IsPossible w (Push i j)
may_push w i j s differ at within true empty = (
  (λ h. absurd (false≢true h)),
  (λ p. absurd (p.4 (ap (λ (x : Seat). (lane_to x j).out) (same_at w.seats i p.0 s p.2 at) ∙ empty.0 refl))),
)
may_push w i j s differ at within false empty =
    ((λ h. (s, differ, at, within, λ e. false≢true (empty.1 e))), (λ p. refl))

pub may_take : (w : WorldState) (i j : ℕ) (s u : Seat) → i ≢ j → IsAt w i s → IsFreeOwner s → IsAt w j u → (b : Bool)
    → (IsTrue b ↔ ((lane_to u i).box ≡ [])) → IsTrue (not b) ↔ IsPossible w (Take i j)
may_take w i j s u differ at free at_u true empty = (
  (λ h. absurd (false≢true h)),
  (λ p. absurd (p.6 (ap (λ (x : Seat). (lane_to x i).box) (same_at w.seats j p.1 u p.5 at_u) ∙ empty.0 refl))),
)
may_take w i j s u differ at free at_u false empty =
    ((λ h. (s, u, differ, at, free, at_u, λ e. false≢true (empty.1 e))), (λ p. refl))
