-- Lists of jobs, and what comes of each.
use Rattle.std.proofs.Common.{◌≡◌, ℕ, zero, suc, ◌+◌, List, [], ◌∷◌, inl, inr, length, slice_get, Some, refl, ap, sym, subst, arith}
use Rattle.std.specs.Prelude.{Bool, true, Result, Ok, Err, IfOk}
use Rattle.worker.specs.Jobs.{AlikeFrom, Becomes, Each}
use Rattle.worker.specs.declared.job.Start.TheVariants.{Made}
use Rattle.worker.specs.Finishing.{EndsAs, IsAnswered}
use Rattle.fixpoint.specs.declared.ending.Ending.{Ending}
use Rattle.fixpoint.specs.declared.ending.Ending.TheVariants as endings

pub alike_none : {J D : Type 0} (n : ℕ) (P : ℕ → J → D → Type 0) (js : List J) (ds : List D) → length js ≡ 0
    → ds ≡ [] → AlikeFrom n P js ds
alike_none n P [] ds e none = subst (λ l. AlikeFrom n P [] l) (sym none) tt
alike_none n P (j ∷ js) ds e none = absurd (omega (arith, e))

-- ---- what comes of the workers, whatever became of their starts

from_size : {J D : Type 0} (n : ℕ) (P : ℕ → J → D → Type 0) (js : List J) (ds : List D) → AlikeFrom n P js ds
    → length ds ≡ length js
from_size n P [] [] a = refl
from_size n P (j ∷ js) (d ∷ ds) a = ap suc (from_size (n + 1) P js ds a.1)
from_size n P [] (d ∷ ds) a = absurd a
from_size n P (j ∷ js) [] a = absurd a

from_at : {J D : Type 0} (n : ℕ) (P : ℕ → J → D → Type 0) (js : List J) (ds : List D) → AlikeFrom n P js ds
    → (k m : ℕ) (j : J) (d : D) → m ≡ n + k → slice_get js k ≡ Some j → slice_get ds k ≡ Some d → P m j d
from_at n P [] ds a k m j d e ej ed = absurd (cc)
from_at n P (x ∷ xs) [] a k m j d e ej ed = absurd a
from_at {J} {D} n P (x ∷ xs) (y ∷ ys) a zero m j d e ej ed =
    let q : x ≡ j = cc in let r : y ≡ d = cc in let s : n ≡ m = omega (arith, e) in
    subst (λ (p : ℕ × J × D). P p.0 p.1 p.2) (λ i. (s i, q i, r i)) a.0
from_at n P (x ∷ xs) (y ∷ ys) a (suc k) m j d e ej ed =
    from_at (n + 1) P xs ys a.1 k m j d (omega (arith, e)) ej ed

pub each_from : {J D : Type 0} (P R : ℕ → J → D → Type 0) → ((k : ℕ) (j : J) (d : D) → P k j d → R k j d)
    → (js : List J) (ds : List D) → AlikeFrom 0 P js ds → Each js ds R
each_from P R f js ds a = grind (arith, from_size, from_at)

-- whatever became of the start
pub ended : {D : Type 0} (Ends : D → Type 0) (ending : D → Ending) (permits : Bool → Type 0) (d : D)
    → Becomes (λ start x. Ends x × EndsAs start (ending x)) permits d → Ends d
ended Ends ending permits d (inl (p, inl made)) = made.0
ended Ends ending permits d (inl (p, inr failed)) = failed.0
ended Ends ending permits d (inr (p, refused)) = refused.0

started_answered : (permits : Bool → Type 0) (e : Ending) → permits true → EndsAs Made e → IsAnswered permits e
started_answered permits endings.Quiet p s = p
started_answered permits endings.Stopped p s = p
started_answered permits endings.Memory p s = p
started_answered permits endings.NoOwner p s = p
started_answered permits endings.Stray p s = p
started_answered permits endings.Forbidden p s = absurd s
started_answered permits endings.Unstarted p s = absurd s

pub answered : {D : Type 0} (Ends : D → Type 0) (ending : D → Ending) (permits : Bool → Type 0) (d : D)
    → Becomes (λ start x. Ends x × EndsAs start (ending x)) permits d → IsAnswered permits (ending d)
answered Ends ending permits d (inl (p, inl made)) = started_answered permits (ending d) p made.1
answered Ends ending permits d (inl (p, inr failed)) = subst (IsAnswered permits) (sym failed.1) p
answered Ends ending permits d (inr (p, refused)) = subst (IsAnswered permits) (sym refused.1) p

pub if_ok_map : {T E : Type 0} (r : Result T E) (P Q : T → Type 0) → ((v : T) → P v → Q v) → IfOk r P → IfOk r Q
if_ok_map (Ok v) P Q f h = f v h
if_ok_map (Err e) P Q f h = tt
