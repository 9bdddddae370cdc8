-- What stands at points asks constraints, one point after another.
use Rattle.std.proofs.Common.{◌≡◌, ◌⊎◌, ◌↔◌, ℕ, ◌+◌, ◌≤◌, List, [], Contains, length, Some, inl, inr, refl, sym, ◌∙◌, subst, ⊎_elim, arith}
use Rattle.std.proofs.lemmas.Bool.{cases_lt}
use Rattle.std.proofs.lemmas.Option.{slice_get_within}
use Rattle.nll_problem.specs.Problem.{Problem, SameSet}
use Rattle.nll_problem.specs.declared.constraint.Constraint.{Constraint}
use Rattle.nll_problem.specs.declared.error.BuildError.{BuildError}
use Rattle.nll_types.specs.Types.{TypeTree}
use Rattle.nll_types.specs.Structs.{Struct}
use Rattle.nll_body.specs.Statements.{Statement}
use Rattle.nll_body.specs.Bodies.{BodyText, StandsAt, IsFollowedBy}
use Rattle.nll_rules.specs.Asking.{AsksInAll}
use Rattle.nll_rules.specs.Pairs.{AddsPairs}
use Rattle.nll_rules.specs.BodyProblem.{IsAskedAt, IsAskedSomewhere, IsAsserted, IsConstraint}
use Rattle.nll_rules.specs.Adding.{AddsConstraints, AreAskedAt, IsRoomRefused, IsOfPairs, IsAskedBefore}
use Rattle.nll_rules.proofs.AddingLemmas.{only_new, adds_none, adds_same, adds_both, refused_after, refused_same}

some_same : (i j : Statement ℕ TypeTree) → Some i ≡ Some j → i ≡ j
some_same i j e = cc

-- the pairs that came to an empty list are what the statement asks, in the words of the body
pub only_asked : (body : BodyText) (i : Statement ℕ TypeTree) (structs : List Struct) (variables : List TypeTree)
    (old new seen : List (ℕ × ℕ)) → structs ≡ body.structs → variables ≡ body.variables
    → old ≡ [] → seen ≡ new → AddsPairs (AsksInAll structs variables i) old new → (x : ℕ × ℕ)
    → Contains seen x ↔ AsksInAll body.structs body.variables i x
only_asked body i structs variables old new seen same_structs same_variables none same h x =
    let each = only_new old new (AsksInAll structs variables i) none h.each x in (
      λ there. subst (λ (vs : List TypeTree). AsksInAll body.structs vs i x) same_variables
          (subst (λ (ss : List Struct). AsksInAll ss variables i x) same_structs
          (each.0 (subst (λ (xs : List (ℕ × ℕ)). Contains xs x) same there))),
      λ asks. subst (λ (xs : List (ℕ × ℕ)). Contains xs x) (sym same) (each.1
          (subst (λ (ss : List Struct). AsksInAll ss variables i x) (sym same_structs)
          (subst (λ (vs : List TypeTree). AsksInAll body.structs vs i x) (sym same_variables) asks))),
    )

-- and so are those of which each is kept once
pub kept_asked : (body : BodyText) (i : Statement ℕ TypeTree) (structs : List Struct) (variables : List TypeTree)
    (old new once seen : List (ℕ × ℕ)) → structs ≡ body.structs → variables ≡ body.variables
    → old ≡ [] → AddsPairs (AsksInAll structs variables i) old new → SameSet new once → seen ≡ once → (x : ℕ × ℕ)
    → Contains seen x ↔ AsksInAll body.structs body.variables i x
kept_asked body i structs variables old new once seen same_structs same_variables none h kept same x =
    let asks = only_asked body i structs variables old new new same_structs same_variables none refl h x in (
      λ there. asks.0 ((kept x).1 (subst (λ (xs : List (ℕ × ℕ)). Contains xs x) same there)),
      λ a. subst (λ (xs : List (ℕ × ℕ)). Contains xs x) (sym same) ((kept x).0 (asks.1 a)),
    )

module _ (body : BodyText) where
  pub before_none : (q : Problem) → AddsConstraints (IsAskedBefore body 0) q q
  before_none q = adds_none (IsAskedBefore body 0) q (λ c h. absurd (omega (arith, h.1)))

  -- what the first n points and the next one ask
  one_more : (n : ℕ) (c : Constraint) → IsAskedBefore body (n + 1) c ↔ (IsAskedBefore body n c ⊎ IsAskedAt body n c)
  one_more n c = (
    λ h. ⊎_elim
        (λ low. inl (h.0, low, h.2))
        (λ high. (let same : h.0 ≡ n = omega (arith, high, h.1) in
        inr (subst (λ (p : ℕ). IsAskedAt body p c) same h.2)))
        (cases_lt h.0 n),
    ⊎_elim (λ h. (h.0, omega (arith, h.1), h.2)) (λ h. (n, omega arith, h)),
  )

  pub before_more : (n : ℕ) (old mid new : Problem) → AddsConstraints (IsAskedBefore body n) old mid
      → AddsConstraints (IsAskedAt body n) mid new → AddsConstraints (IsAskedBefore body (n + 1)) old new
  before_more n old mid new =
      adds_both (IsAskedBefore body n) (IsAskedAt body n) (IsAskedBefore body (n + 1)) old mid new (one_more n)

  pub before_all : (n : ℕ) (old new : Problem) → length body.points ≤ n → AddsConstraints (IsAskedBefore body n) old new
      → AddsConstraints (IsAskedSomewhere body) old new
  before_all n old new past = adds_same (IsAskedBefore body n) (IsAskedSomewhere body) old new (λ c. (
    λ h. (h.0, h.2),
    λ h. (h.0, omega (arith, slice_get_within body.points h.0 h.1.0 h.1.1, past), h.1),
  ))

  pub before_refused : (n : ℕ) (old mid : Problem) (e : BuildError) → AddsConstraints (IsAskedBefore body n) old mid
      → IsRoomRefused (IsAskedAt body n) mid e → IsRoomRefused (IsAskedSomewhere body) old e
  before_refused n old mid e before =
      refused_after (IsAskedBefore body n) (IsAskedAt body n) (IsAskedSomewhere body) old mid e before
      (λ c h. (h.0, h.2)) (λ c h. (n, h))

  -- ---- what is asked, and what is asserted

  pub asserted_asked : (old mid new : Problem) → AddsConstraints (IsAsserted body) old mid
      → AddsConstraints (IsAskedSomewhere body) mid new → AddsConstraints (IsConstraint body) old new
  asserted_asked old mid new =
      adds_both (IsAsserted body) (IsAskedSomewhere body) (IsConstraint body) old mid new
      (λ c. (⊎_elim inr inl, ⊎_elim inr inl))

  pub asserted_refused : (q : Problem) (e : BuildError) → IsRoomRefused (IsAsserted body) q e
      → IsRoomRefused (IsConstraint body) q e
  asserted_refused q e = refused_same (IsAsserted body) (IsConstraint body) q e (λ c h. inr h)

  pub asked_refused : (old mid : Problem) (e : BuildError) → AddsConstraints (IsAsserted body) old mid
      → IsRoomRefused (IsAskedSomewhere body) mid e → IsRoomRefused (IsConstraint body) old e
  asked_refused old mid e before =
      refused_after (IsAsserted body) (IsAskedSomewhere body) (IsConstraint body) old mid e before (λ c h. inr h)
      (λ c h. inl h)

-- ---- pairs that are known of a point

-- what one statement at the point asks is what stands there asks
pub asked_pairs : (body : BodyText) (p : ℕ) (i : Statement ℕ TypeTree) (pairs : List (ℕ × ℕ)) → StandsAt body p i
    → ((x : ℕ × ℕ) → Contains pairs x ↔ AsksInAll body.structs body.variables i x) → AreAskedAt body p pairs
asked_pairs body p i pairs at asks x = (
  λ h. (i, at, (asks x).0 h),
  λ h. (asks x).1 (subst (λ (j : Statement ℕ TypeTree). AsksInAll body.structs body.variables j x)
      (some_same h.0 i (sym h.1 ∙ at)) h.2),
)

-- at the points that may come after it they are what it asks
pub known_here : (body : BodyText) (p : ℕ) (next : List ℕ) (pairs : List (ℕ × ℕ))
    → ((q : ℕ) → Contains next q ↔ IsFollowedBy body p q) → AreAskedAt body p pairs
    → (c : Constraint) → IsOfPairs next pairs c ↔ IsAskedAt body p c
known_here body p next pairs goes asked c = (
  λ h. let a = (asked (c.sup, c.sub)).0 h.0 in (a.0, a.1, (h.1.0, (goes h.1.0).0 h.1.1, h.1.2), a.2),
  λ h. ((asked (c.sup, c.sub)).1 (h.0, h.1, h.3), (h.2.0, (goes h.2.0).1 h.2.1, h.2.2)),
)
