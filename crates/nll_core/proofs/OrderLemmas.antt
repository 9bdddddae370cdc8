-- Lists of regions that grow and shrink at their end.
use Rattle.std.proofs.Common.{ℕ, ◌<◌, List, [], ◌∷◌, ◌++◌, length, sym, subst, ⊎_elim, arith, length-append, ◌∙◌}
use Rattle.std.proofs.lemmas.Bool.{cases_lt}
use Rattle.std.proofs.lemmas.List.{get_or_append_left, get_or_at}
use Rattle.nll_core.specs.Order.{AreBelowCount}

pub below_more : (count : ℕ) (xs : List ℕ) (y : ℕ) → y < count → AreBelowCount count xs
    → AreBelowCount count (xs ++ y ∷ [])
below_more count xs y within all x (k, l, is) = ⊎_elim
    (λ front. all x (k, front, sym (get_or_append_left xs (y ∷ []) x k front) ∙ is))
    (λ last. subst (λ z. z < count) (sym (get_or_at xs y [] x k (omega (arith, l, last, length-append xs (y ∷ []))))
    ∙ is) within)
    (cases_lt k (length xs))

pub below_fewer : (count : ℕ) (xs : List ℕ) (y : ℕ) → AreBelowCount count (xs ++ y ∷ []) → AreBelowCount count xs
below_fewer count xs y all x (k, l, is) =
    all x (k, omega (arith, l, length-append xs (y ∷ [])), get_or_append_left xs (y ∷ []) x k l ∙ is)

pub below_last : (count : ℕ) (xs : List ℕ) (y : ℕ) → AreBelowCount count (xs ++ y ∷ []) → y < count
below_last count xs y all =
    all y (length xs, omega (arith, length-append xs (y ∷ [])), get_or_at xs y [] y (length xs) (omega arith))
