-- Where constraints hold: all points, and points.
use Rattle.std.proofs.Common.{◌≡◌, ◌↔◌, ℕ, ◌<◌, List, [], ◌∷◌, ◌++◌, Contains, refl, sym, ap, subst, arith, zero, suc}
use Rattle.nll_problem.specs.At.{at_rank}
use Rattle.nll_problem.specs.declared.at.At.{At}
use Rattle.nll_problem.specs.declared.at.At.TheVariants.{All, Point}
use Rattle.nll_core.specs.Frontiers.{as_places, behind_place, Ascend, IsAscending}
use Rattle.nll_core.proofs.StartLemmas.{ascending_push}

-- a place is one of the points just where its number is
from_places : (points : List ℕ) (p : ℕ) → Contains (as_places points) (Point p) → Contains points p
from_places [] p h = absurd (omega (arith, h.1))
from_places (q ∷ points) p (zero, within, is) = (zero, omega arith, omega (arith, ap at_rank is))
from_places (q ∷ points) p (suc k, within, is) =
    let w = from_places points p (k, omega (arith, within), is) in
    (suc w.0, omega (arith, w.1), w.2)

to_places : (points : List ℕ) (p : ℕ) → Contains points p → Contains (as_places points) (Point p)
to_places [] p h = absurd (omega (arith, h.1))
to_places (q ∷ points) p (zero, within, is) = (zero, omega arith, ap (λ r. Point r) is)
to_places (q ∷ points) p (suc k, within, is) =
    let w = to_places points p (k, omega (arith, within), is) in
    (suc w.0, omega (arith, w.1), w.2)

pub point_in : (points : List ℕ) (p : ℕ) → Contains (as_places points) (Point p) ↔ Contains points p
point_in points p = (from_places points p, to_places points p)

-- all points aren't among points
pub no_all : (points : List ℕ) → Contains (as_places points) All → ⊥
no_all [] h = omega (arith, h.1)
no_all (q ∷ points) (zero, within, is) = omega (arith, ap at_rank is)
no_all (q ∷ points) (suc k, within, is) = no_all points (k, omega (arith, within), is)

-- they are among places where they are the first one
pub all_first : (place : At) (points : List ℕ) → place ≡ All → Contains (behind_place place points) All
all_first place points is = (0, omega arith, is)

-- and aren't where that is a point
pub all_nowhere : (place : At) (points : List ℕ) (p : ℕ) → place ≡ Point p → Contains (behind_place place points) All
    → ⊥
all_nowhere place points p is h = no_all (p ∷ points) (subst (λ (x : At). Contains (behind_place x points) All) is h)

-- all points come behind no place
pub none_before_all : (place : At) (points : List ℕ) → ((x : At) → Contains (behind_place place points) x
    → at_rank x < 0) → ⊥
none_before_all place points before = let less = before place (0, omega arith, refl) in omega (arith, less)

pub ascend_pushed : (place : At) (old new : List ℕ) (p : ℕ) → new ≡ old ++ p ∷ [] → Ascend place old
    → ((x : At) → Contains (behind_place place old) x → at_rank x < at_rank (Point p)) → Ascend place new
ascend_pushed place old new p is up before = λ f first. subst (λ xs. IsAscending (f ∷ xs)) (sym is)
    (ascending_push p (f ∷ old) (up f first)
    (λ x h. let less = before (Point x)
    (subst (λ (y : At). Contains (behind_place y old) (Point x)) (sym first) (to_places (f ∷ old) x h)) in
    omega (arith, less)))
