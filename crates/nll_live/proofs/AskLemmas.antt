-- What variables ask for.
use Rattle.std.proofs.Common.{◌≡◌, ◌⊎◌, ◌↔◌, ℕ, ◌+◌, ◌<◌, ◌≤◌, List, Contains, length, Some, None, slice_get, get_or, inl, inr, subst, sym, ⊎_elim, arith}
use Rattle.std.specs.Prelude.{[]}
use Rattle.std.proofs.lemmas.Bool.{cases_lt}
use Rattle.std.proofs.lemmas.Option.{slice_get_cases, slice_get_within}
use Rattle.nll_types.specs.Types.{TypeTree}
use Rattle.nll_body.specs.Bodies.{BodyText, HasType}
use Rattle.nll_body.specs.Sound.{IsSoundBody}
use Rattle.nll_body.proofs.KeptLemmas.{good_type}
use Rattle.nll_body.proofs.RangeLemmas.{region_within, drop_region_within}
use Rattle.nll_problem.specs.Rows.{row_at}
use Rattle.nll_live.specs.Gathering.{AreListed}
use Rattle.nll_live.proofs.WalkLemmas.{live_within}
use Rattle.nll_live.specs.Live.{UsesAt, DropsAt, AsksForUse, AsksForDrop, IsBaseOf}
use Rattle.nll_live.specs.Kinds.{AsksFor, KeepsAt}
use Rattle.nll_live.specs.declared.kind.Kind.{Kind}
use Rattle.nll_live.specs.declared.kind.Kind.TheVariants.{Use, Drop}
use Rattle.nll_problem.specs.BaseRuns.{IsInBaseRuns}
use Rattle.nll_live.specs.BaseRuns.{GainsRuns}
use Rattle.nll_problem.specs.declared.base_run.BaseRun.{BaseRun}
use Rattle.nll_live.proofs.BaseRunLemmas.{gains_none, gains_append, gains_as}
use Rattle.nll_live.proofs.GatheringLemmas.{contains_none}

-- each variable has a type
pub some_type : (body : BodyText) (x : ℕ) → x < length body.variables → (t : TypeTree) × HasType body x t
some_type body x within = by (slice_get_cases body.variables x).1
  where
    by : ((t : TypeTree) × (x < length body.variables) × (slice_get body.variables x ≡ Some t)
        × (get_or body.variables x t ≡ t)) ⊎ ((length body.variables ≤ x) × (slice_get body.variables x ≡ None))
        → (t : TypeTree) × HasType body x t
    by (inl h) = (h.0, h.2)
    by (inr h) = absurd (omega (arith, h.0))

-- a variable asks for its regions at the points of these walks, which are those where it is live
pub asked_of : (body : BodyText) (x : ℕ) (regions : List ℕ) (wants : TypeTree → ℕ → Type 0) (walks live : ℕ → Type 0)
    (old new : List BaseRun) → x < length body.variables
    → ((t : TypeTree) → HasType body x t → (r : ℕ) → Contains regions r ↔ wants t r) → ((p : ℕ) → walks p ↔ live p)
    → GainsRuns (λ r p. Contains regions r × walks p) old new
    → GainsRuns (λ r p. (t : TypeTree) × HasType body x t × live p × wants t r) old new
asked_of body x regions wants walks live old new within each same =
    gains_as (λ r p. Contains regions r × walks p)
    (λ r p. (t : TypeTree) × HasType body x t × live p × wants t r) old new (λ r p. (
      λ h. let t = some_type body x within in (t.0, t.1, (same p).0 h.1, ((each t.0 t.1) r).0 h.0),
      λ h. (((each h.0 h.1) r).1 h.3, (same p).1 h.2),
    ))

-- ---- ranges

-- base elements are points, and of regions of the body
pub base_within : (body : BodyText) → IsSoundBody body → (r p : ℕ) → IsBaseOf body r p
    → (r < length body.names) × (p < length body.points)
base_within body sound r p h = by h.0 h.1
  where
    by : (x : ℕ) → AsksForUse body x r p ⊎ AsksForDrop body x r p → (r < length body.names) × (p < length body.points)
    by x (inl a) = (
      region_within body.structs (length body.names) a.0 (good_type body sound x a.0 a.1) r a.3,
      live_within body (UsesAt body x) x (λ q u. slice_get_within body.points q u.0 u.1) p a.2,
    )
    by x (inr a) = (
      drop_region_within body.structs sound.in_order (length body.names)
          (omega (arith, sound.some_universal, sound.all_universals)) a.0 (good_type body sound x a.0 a.1) r a.3,
      live_within body (DropsAt body x) x (λ q d. slice_get_within body.points q d.0 d.1) p a.2,
    )

-- ---- a loop over the variables, of one kind

module _ (asks : ℕ → ℕ → ℕ → Type 0) (first : List BaseRun) where
  -- the runs got those that the first variables ask for
  abbrev pub AreAskedTo : ℕ → List BaseRun → Type 0
  AreAskedTo n now = GainsRuns (λ r p. (x : ℕ) × (x < n) × asks x r p) first now

  pub asked_to_first : AreAskedTo 0 first
  asked_to_first = gains_none (λ r p. (x : ℕ) × (x < 0) × asks x r p) first (λ r p h. absurd (omega (arith, h.1)))

  pub asked_to_step : (n : ℕ) (mid new : List BaseRun) → AreAskedTo n mid → GainsRuns (asks n) mid new
      → AreAskedTo (n + 1) new
  asked_to_step n mid new before more =
      gains_as (λ r p. ((x : ℕ) × (x < n) × asks x r p) ⊎ asks n r p)
      (λ r p. (x : ℕ) × (x < n + 1) × asks x r p) first new (λ r p. (
        ⊎_elim (λ h. (h.0, omega (arith, h.1), h.2)) (λ h. (n, omega arith, h)),
        λ h. ⊎_elim
            (λ low. inl (h.0, low, h.2))
            (λ high. inr (subst (λ x. asks x r p) (omega (arith, high, h.1)) h.2))
            (cases_lt h.0 n),
      ))
      (gains_append (λ r p. (x : ℕ) × (x < n) × asks x r p) (asks n) first mid new before more)

  pub asked_to_last : (n : ℕ) (now : List BaseRun) → ((x r p : ℕ) → asks x r p → x < n) → AreAskedTo n now
      → GainsRuns (λ r p. (x : ℕ) × asks x r p) first now
  asked_to_last n now all =
      gains_as (λ r p. (x : ℕ) × (x < n) × asks x r p) (λ r p. (x : ℕ) × asks x r p) first now (λ r p. (
        λ h. (h.0, h.2),
        λ h. (h.0, all h.0 r p h.1, h.1),
      ))

-- only variables of the body ask
pub declared : (kind : Kind) (body : BodyText) (x r p : ℕ) → AsksFor kind body x r p → x < length body.variables
declared kind body x r p h = slice_get_within body.variables x h.0 h.1

-- what keeps a variable live is at a point of the body
pub kept_within : (kind : Kind) (body : BodyText) (x p : ℕ) → KeepsAt kind body x p → p < length body.points
kept_within Use body x p h = slice_get_within body.points p h.0 h.1
kept_within Drop body x p h = slice_get_within body.points p h.0 h.1

-- a list of all that keeps a variable live has just that
pub ends_are : (body : BodyText) (keeps : ℕ → ℕ → Type 0) (lists : List (List ℕ)) (x : ℕ) (list : List ℕ)
    → x < length body.variables → ((p : ℕ) → keeps x p → p < length body.points)
    → AreListed (length body.variables) keeps (length body.points) lists → list ≡ row_at lists x → (p : ℕ)
    → Contains list p ↔ keeps x p
ends_are body keeps lists x list low within listed is p = (
  λ h. ((listed.each x p low).0 (subst (λ xs. Contains xs p) is h)).0,
  λ h. subst (λ xs. Contains xs p) (sym is) ((listed.each x p low).1 (h, within p h)),
)

-- what uses and drops ask for together are the base elements
pub both_asked : (body : BodyText) (mid new : List BaseRun) → GainsRuns (λ r p. (x : ℕ) × AsksFor Use body x r p) [] mid
    → GainsRuns (λ r p. (x : ℕ) × AsksFor Drop body x r p) mid new → (r p : ℕ)
    → IsInBaseRuns new r p ↔ IsBaseOf body r p
both_asked body mid new uses drops r p = (
  λ h. ⊎_elim
      (λ before. ⊎_elim
      (λ none. absurd (contains_none none.0 none.1))
      (λ u. (u.0, inl u.1))
      ((uses r p).0 before))
      (λ d. (d.0, inr d.1))
      ((drops r p).0 h),
  λ h. ⊎_elim
      (λ u. (drops r p).1 (inl ((uses r p).1 (inr (h.0, u)))))
      (λ d. (drops r p).1 (inr (h.0, d)))
      h.1,
)
