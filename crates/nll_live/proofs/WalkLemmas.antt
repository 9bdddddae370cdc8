-- Walks to the uses or drops of a variable.
use Rattle.std.proofs.Common.{ℕ, ◌<◌, List, [], ◌∷◌, length, refl, sym, subst}
use Rattle.std.specs.Prelude.{⊤}
use Rattle.std.proofs.lemmas.Option.{slice_get_within}
use Rattle.nll_problem.specs.Walks.{IsWalk}
use Rattle.nll_body.specs.Bodies.{BodyText}
use Rattle.nll_live.specs.Live.{GoesOnUndefined, IsLive}

module _ (body : BodyText) (ends : ℕ → Type 0) (x : ℕ) where
  -- at a use the variable is live
  pub live_end : (p : ℕ) → ends p → IsLive body ends x p
  live_end p h = (p, h, [], (tt, refl))

  -- what goes on to a point where it is live, and doesn't define it, is one too
  pub live_before : (p q : ℕ) → GoesOnUndefined body x p q → IsLive body ends x q → IsLive body ends x p
  live_before p q step l = (l.0, l.1, q ∷ l.2, (tt, step, l.3))

  -- a set that has the uses, and what goes on to a point of it without defining the variable, has
  -- each point where it is live
  pub live_inside : (in_set : ℕ → Type 0) → ((p : ℕ) → ends p → in_set p)
      → ((p q : ℕ) → in_set q → GoesOnUndefined body x p q → in_set p) → (p : ℕ) → IsLive body ends x p → in_set p
  live_inside in_set first closed p l = along p l.2 l.3
    where
      along : (p : ℕ) (way : List ℕ) → IsWalk (GoesOnUndefined body x) (λ _. ⊤) p way l.0 → in_set p
      along p [] w = subst in_set (sym w.1) (first l.0 l.1)
      along p (q ∷ way) w = closed p q (along q way w.2) w.1

  -- it is live at points alone
  pub live_within : ((p : ℕ) → ends p → p < length body.points) → (p : ℕ) → IsLive body ends x p
      → p < length body.points
  live_within first p l =
      live_inside (λ q. q < length body.points) first
      (λ q r h step. slice_get_within body.points q step.1.0 step.1.1) p l

-- other ends, where there are as many, change nothing
pub live_same : (body : BodyText) (ends other : ℕ → Type 0) (x p : ℕ) → ((q : ℕ) → ends q → other q)
    → IsLive body ends x p → IsLive body other x p
live_same body ends other x p h l = (l.0, h l.0 l.1, l.2, l.3)
