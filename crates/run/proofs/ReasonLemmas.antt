-- Why a run is refused.
use Rattle.std.proofs.Common.{◌≡◌, ◌+◌, ◌<◌, ◌≤◌, ℕ, List, length, slice_get, Some, refl, subst, ⊎_elim, arith}
use Rattle.std.specs.Prelude.{Option, None}
use Rattle.std.proofs.lemmas.Bool.{cases_lt}
use Rattle.worker.specs.Finishing.{WasStarted}
use Rattle.fixpoint.specs.declared.ending.Ending.{Ending}
use Rattle.fixpoint.specs.declared.ending.Ending.TheVariants as endings
use Rattle.run.specs.Refusing.{IsCalm, IsOutOfMemory, IsReason}
use Rattle.run.specs.declared.error.RunError.{RunError}
use Rattle.run.specs.declared.error.RunError.TheVariants as errors
use Rattle.run.proofs.PlaceLemmas.{within}

pub calm_started : (e : Ending) → IsCalm e → WasStarted e
calm_started endings.Quiet t = tt
calm_started endings.Stopped t = tt
calm_started endings.Stray t = tt
calm_started endings.Memory t = absurd t
calm_started endings.NoOwner t = absurd t
calm_started endings.Forbidden t = absurd t
calm_started endings.Unstarted t = absurd t

calm_not_out : (e : Ending) → IsCalm e → IsOutOfMemory e → ⊥
calm_not_out endings.Quiet t m = m
calm_not_out endings.Stopped t m = m
calm_not_out endings.Stray t m = m
calm_not_out endings.Memory t m = t
calm_not_out endings.NoOwner t m = t
calm_not_out endings.Forbidden t m = t
calm_not_out endings.Unstarted t m = t

out_started : (e : Ending) → IsOutOfMemory e → WasStarted e
out_started endings.Memory t = tt
out_started endings.NoOwner t = tt
out_started endings.Quiet t = absurd t
out_started endings.Stopped t = absurd t
out_started endings.Stray t = absurd t
out_started endings.Forbidden t = absurd t
out_started endings.Unstarted t = absurd t

-- there is one reason at most
pub one_reason : (all : List Ending) (x y : RunError) → IsReason all (Some x) → IsReason all (Some y) → x ≡ y
one_reason all errors.Thread errors.Thread a b = refl
one_reason all errors.Memory errors.Memory a b = refl
one_reason all errors.Thread errors.Memory a b = absurd (a.3 (b.0 a.0 a.1 a.2))
one_reason all errors.Memory errors.Thread a b = absurd (b.3 (a.0 b.0 b.1 b.2))

pub none_or : (all : List Ending) (x : RunError) → IsReason all None → IsReason all (Some x) → ⊥
none_or all errors.Thread a b = b.3 (calm_started b.1 (a b.0 b.1 b.2))
none_or all errors.Memory a b = calm_not_out b.1.1 (a b.1.0 b.1.1 b.1.2) b.1.3

-- the reason that the first endings give
abbrev pub IsReasonSoFar : List Ending → ℕ → Option RunError → Type 0
IsReasonSoFar all n None = (k : ℕ) (e : Ending) → k < n → slice_get all k ≡ Some e → IsCalm e
IsReasonSoFar all n (Some errors.Thread) = ⊥
IsReasonSoFar all n (Some errors.Memory) =
    ((k : ℕ) (e : Ending) → k < n → slice_get all k ≡ Some e → WasStarted e)
    × ((k : ℕ) × (e : Ending) × (slice_get all k ≡ Some e) × IsOutOfMemory e)

-- what holds of all below n and of the one at n holds of all up to it
up_to : (P : Ending → Type 0) (all : List Ending) (n : ℕ) (e : Ending) → slice_get all n ≡ Some e
    → ((k : ℕ) (d : Ending) → k < n → slice_get all k ≡ Some d → P d) → P e
    → (k : ℕ) (d : Ending) → k < n + 1 → slice_get all k ≡ Some d → P d
up_to P all n e at below here k d l is = ⊎_elim
    (λ (h : k < n). below k d h is)
    (λ (h : n ≤ k).
    let same : k ≡ n = omega (arith, h, l) in
    let other : slice_get all n ≡ Some d = subst (λ i. slice_get all i ≡ Some d) same is in
    let one : e ≡ d = one_item e d at other in
    subst P one here)
    (cases_lt k n)
  where
    one_item : {o : _} (x y : Ending) → o ≡ Some x → o ≡ Some y → x ≡ y
    one_item x y p q = cc

pub calm_step : (all : List Ending) (n : ℕ) (e : Ending) (r : Option RunError) → slice_get all n ≡ Some e → IsCalm e
    → IsReasonSoFar all n r → IsReasonSoFar all (n + 1) r
calm_step all n e None at calm so_far = up_to IsCalm all n e at so_far calm
calm_step all n e (Some errors.Thread) at calm so_far = so_far
calm_step all n e (Some errors.Memory) at calm so_far =
    (up_to WasStarted all n e at so_far.0 (calm_started e calm), so_far.1)

started_so_far : (all : List Ending) (n : ℕ) (r : Option RunError) → IsReasonSoFar all n r → (k : ℕ) (e : Ending)
    → k < n → slice_get all k ≡ Some e → WasStarted e
started_so_far all n None so_far k e l is = calm_started e (so_far k e l is)
started_so_far all n (Some errors.Thread) so_far k e l is = absurd so_far
started_so_far all n (Some errors.Memory) so_far k e l is = so_far.0 k e l is

pub memory_step : (all : List Ending) (n : ℕ) (e : Ending) (r : Option RunError) → slice_get all n ≡ Some e
    → IsOutOfMemory e → IsReasonSoFar all n r
    → IsReasonSoFar all (n + 1) (Some errors.Memory)
memory_step all n e r at out so_far =
    (up_to WasStarted all n e at (started_so_far all n r so_far) (out_started e out), (n, e, at, out))

pub whole_reason : (all : List Ending) (n : ℕ) (r : Option RunError) → length all ≤ n → IsReasonSoFar all n r
    → IsReason all r
whole_reason all n None l so_far = λ k e is. so_far k e (let w = within all k e is in omega (arith, w, l)) is
whole_reason all n (Some errors.Thread) l so_far = absurd so_far
whole_reason all n (Some errors.Memory) l so_far =
    ((λ k e is. so_far.0 k e (let w = within all k e is in omega (arith, w, l)) is), so_far.1)
