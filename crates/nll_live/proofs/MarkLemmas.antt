-- Marks, heights, and the list of the points that are marked.
use Rattle.std.proofs.Common.{◌≡◌, ◌↔◌, ℕ, ◌<◌, List, length, ◌∙◌, subst, arith, ⊎_elim, Contains, inl, inr}
use Rattle.std.specs.Prelude.{slice_index}
use Rattle.std.proofs.lemmas.Bool.{cases_lt}
use Rattle.std.proofs.lemmas.List.{get_or_default, get_or_past}
use Rattle.std.specs.List.Sorted.{IsPermutation}
use Rattle.std.proofs.lemmas.List.Sorted.{Contains-permutation, IsPermutation-sym}
use Rattle.nll_live.specs.Marks.{IsMarked, IsUnderMark, IsUnderNewMark, ReachesMore}

-- some points, and then some more
pub reaches_append : (kind : ℕ → ℕ → Type 0) (turn : ℕ) (a f xs b g ys c h zs : List ℕ)
    → ReachesMore kind turn a f xs b g ys → ReachesMore kind turn b g ys c h zs → ReachesMore kind turn a f xs c h zs
reaches_append kind turn a f xs b g ys c h zs p q = record {
  width = q.width ∙ p.width;
  tall = q.tall ∙ p.tall;
  kept = λ x e. q.kept x (p.kept x e);
  others =
      λ x. ⊎_elim inl (λ same. ⊎_elim (λ e. inl (q.kept x e)) (λ first. inr (same ∙ first)) (p.others x)) (q.others x);
  longer = omega (arith, p.longer, q.longer);
  front = λ k e. q.front k (omega (arith, p.longer)) ∙ p.front k e;
  count = omega (arith, p.count, q.count);
  higher = λ k e. omega (arith, p.higher k e, q.higher k (p.kept k e));
  cause = λ k e. ⊎_elim
      (λ same. ⊎_elim (λ first. inl (first.0, same.1 ∙ first.1)) (λ one. inr (one.0, one.1, same.1 ∙ one.2))
      (p.cause k same.0))
      inr
      (q.cause k e);
}

-- what is of a kind is of any larger kind
pub reaches_weaker : (kind other : ℕ → ℕ → Type 0) (turn : ℕ) (m h l n g k : List ℕ)
    → ((low p : ℕ) → kind low p → other low p) → ReachesMore kind turn m h l n g k → ReachesMore other turn m h l n g k
reaches_weaker kind other turn m h l n g k f p = record {
  width = p.width;
  tall = p.tall;
  kept = p.kept;
  others = p.others;
  longer = p.longer;
  front = p.front;
  count = p.count;
  higher = p.higher;
  cause = λ low e. ⊎_elim inl (λ one. inr (one.0, f low one.0 one.1, one.2)) (p.cause low e);
}

-- what was reached stays so
pub reached_kept : (kind : ℕ → ℕ → Type 0) (turn : ℕ) (m h l n g k : List ℕ) → ReachesMore kind turn m h l n g k
    → (p : ℕ) → IsUnderNewMark m h turn p → IsUnderNewMark n g turn p
reached_kept kind turn m h l n g k f p r = (r.0, f.kept r.0 r.1, r.2, omega (arith, r.3, f.higher r.0 r.1))

-- a point that is marked is in range
pub marked_within : (marks : List ℕ) (turn p : ℕ) → 0 < turn → IsMarked marks turn p → p < length marks
marked_within marks turn p some h =
    ⊎_elim (λ l. l) (λ l. (let e : slice_index marks p ≡ 0 = get_or_past marks p 0 l in absurd (omega arith)))
    (cases_lt p (length marks))

-- what holds at each place holds of each element
pub at_each : (P : ℕ → Type 0) (xs : List ℕ) → ((k : ℕ) → k < length xs → P (slice_index xs k)) → (p : ℕ)
    → Contains xs p → P p
at_each P xs each p c = subst P (get_or_default xs c.0 0 p c.1 ∙ c.2) (each c.0 c.1)

pub contains_at : (xs : List ℕ) (p : ℕ) → (k : ℕ) × (k < length xs) × (slice_index xs k ≡ p) → Contains xs p
contains_at xs p k = (k.0, k.1, get_or_default xs k.0 p 0 k.1 ∙ k.2)

-- what a list contains, another order of it does
pub contains_moved : (xs ys : List ℕ) → IsPermutation xs ys → (p : ℕ) → Contains ys p ↔ Contains xs p
contains_moved xs ys moved p =
    (Contains-permutation ys xs p (IsPermutation-sym xs ys moved), Contains-permutation xs ys p moved)

-- and it covers the same
pub covered_moved : (heights xs ys : List ℕ) → IsPermutation xs ys → (p : ℕ)
    → IsUnderMark heights ys p ↔ IsUnderMark heights xs p
covered_moved heights xs ys moved p = (
  λ c. (c.0, (contains_moved xs ys moved c.0).0 c.1, c.2, c.3),
  λ c. (c.0, (contains_moved xs ys moved c.0).1 c.1, c.2, c.3),
)
