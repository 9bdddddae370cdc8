-- Chains, and how far a walk backwards goes by itself.
use Rattle.std.proofs.Common.{◌≡◌, ◌↔◌, ℕ, zero, suc, ◌+◌, ◌-◌, ◌<◌, ◌≤◌, List, [], ◌∷◌, ◌++◌, length, get_or, Contains, refl, sym, ap, ◌∙◌, subst, arith, ⊎_elim, length-append}
use Rattle.std.specs.Prelude.{slice_index}
use Rattle.std.proofs.lemmas.Bool.{cases_lt}
use Rattle.std.proofs.lemmas.List.{get_or_append_left, get_or_default, get_or_push}
use Rattle.std.proofs.lemmas.List.Elements.{Contains-get_or}
use Rattle.nll_problem.specs.Graph.{Graph, IsNext}
use Rattle.nll_body.specs.Bodies.{BodyText, IsFollowedBy, IsGraphOf}
use Rattle.nll_live.specs.Live.{DefinesAt, IsLive}
use Rattle.nll_live.specs.Chains.{FollowsAlone, IsChain, HaveStarts}
use Rattle.nll_live.specs.Lows.{AreDefinitions, IsLow}
use Rattle.nll_live.proofs.WalkLemmas.{live_before}

-- ---- starts

module _ (goes_on : ℕ → ℕ → Type 0) where
  pub starts_step : (n : ℕ) (starts : List ℕ) (start : ℕ) → HaveStarts goes_on n starts → start ≤ n
      → IsChain goes_on start n → HaveStarts goes_on (n + 1) (starts ++ start ∷ [])
  starts_step n starts start are low chain = record {
    counted = length-append starts (start ∷ []) ∙ ap (λ k. k + 1) are.counted;
    before = λ p h. ⊎_elim
        (λ less. omega (arith, old p less, are.before p less))
        (λ last. omega (arith, now p h last, low, last))
        (cases_lt p n);
    chain = λ p h. ⊎_elim
        (λ less. subst (λ s. IsChain goes_on s p) (sym (old p less)) (are.chain p less))
        (λ last. subst (λ s. IsChain goes_on s p) (sym (now p h last))
        (subst (IsChain goes_on start) (omega (arith, h, last)) chain))
        (cases_lt p n);
  }
    where
      old : (p : ℕ) → p < n → slice_index (starts ++ start ∷ []) p ≡ slice_index starts p
      old p less = get_or_append_left starts (start ∷ []) 0 p (omega (arith, less, are.counted))

      now : (p : ℕ) → p < n + 1 → n ≤ p → slice_index (starts ++ start ∷ []) p ≡ start
      now p h last = get_or_push starts start 0 p (omega (arith, h, last, are.counted))

  -- a chain goes on
  pub chain_step : (first n p : ℕ) → n + 1 ≡ p → IsChain goes_on first n → FollowsAlone goes_on p
      → IsChain goes_on first p
  chain_step first n p next chain alone q above upto = ⊎_elim
      (λ less. chain q above (omega (arith, less, next)))
      (λ last. subst (FollowsAlone goes_on) (omega (arith, upto, last)) alone)
      (cases_lt q p)

-- one point alone goes on to q, and it is the one before it
pub alone_before : (goes_on : ℕ → ℕ → Type 0) (points : List ℕ) (q : ℕ) → ((p : ℕ) → Contains points p ↔ goes_on p q)
    → length points ≡ 1 → 0 < q → slice_index points 0 ≡ q - 1 → FollowsAlone goes_on q
alone_before goes_on points q each one some is p = (
  λ step. let c = (each p).1 step in
      let first : c.0 ≡ 0 = omega (arith, c.1, one) in
      let at : get_or points c.0 0 ≡ p = get_or_default points c.0 0 p c.1 ∙ c.2 in
      let read : slice_index points 0 ≡ p = subst (λ k. get_or points k 0 ≡ p) first at in
      omega (arith, read, is, some),
  λ next. (each p).0 (subst (Contains points) (is ∙ omega (arith, next, some))
      (Contains-get_or points 0 0 (omega (arith, one)))),
)

-- the starts of a graph are those of its body
pub starts_of_body : (body : BodyText) (graph : Graph) (starts : List ℕ) → IsGraphOf body graph
    → HaveStarts (IsNext graph) (length body.points) starts → HaveStarts (IsFollowedBy body) (length body.points) starts
starts_of_body body graph starts shown are = record {
  counted = are.counted;
  before = are.before;
  chain = λ p h q above upto r. (
    λ step. (are.chain p h q above upto r).0 ((shown.next r q).1 step),
    λ next. (shown.next r q).0 ((are.chain p h q above upto r).1 next),
  );
}

-- ---- liveness along a chain

module _ (body : BodyText) (ends : ℕ → Type 0) (x : ℕ) (starts definitions : List ℕ)
    (are : HaveStarts (IsFollowedBy body) (length body.points) starts) (defined : AreDefinitions body x definitions)
    (p low : ℕ) (within : p < length body.points) (is : IsLow (slice_index starts p) definitions p low) where
  -- a point behind the low one follows the one before it alone
  pub follows : (q : ℕ) → low < q → q ≤ p → FollowsAlone (IsFollowedBy body) q
  follows q above upto = are.chain p within q (omega (arith, is.above, above)) upto

  -- no point from the low one up to p defines the variable
  none_defines : (q : ℕ) → low ≤ q → q < p → DefinesAt body x q → ⊥
  none_defines q from upto h = absurd (omega (arith, from, is.none q ((defined.each q).1 h) upto))

  -- where it is live at p, it is from the low one up to p
  pub live_along : IsLive body ends x p → (q : ℕ) → low ≤ q → q ≤ p → IsLive body ends x q
  live_along live q from upto = down (p - q) q from (omega (arith, upto))
    where
      down : (d q : ℕ) → low ≤ q → q + d ≡ p → IsLive body ends x q
      down zero q from at = subst (IsLive body ends x) (omega (arith, sym at)) live
      down (suc d) q from at =
          live_before body ends x q (q + 1) (
            none_defines q from (omega (arith, at)),
            (follows (q + 1) (omega (arith, from)) (omega (arith, at)) q).1 refl,
          )
          (down d (q + 1) (omega (arith, from)) (omega (arith, at)))
