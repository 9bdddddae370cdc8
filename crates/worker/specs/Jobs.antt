-- What comes of jobs. Source: project's choice.
use Rattle.std.specs.Prelude.{◌≡◌, ℕ, ◌+◌, Bool, true, false, List, [], ◌∷◌, ◌⊎◌, length}
use Rattle.std.specs.Prelude.{slice_get, Some}
use Rattle.worker.specs.declared.job.Start.{Start}
use Rattle.worker.specs.declared.job.Start.TheVariants.{Made, Failed, Refused}

-- P holds of each
abbrev pub AllOf : {J : Type 0} → (J → Type 0) → List J → Type 0
AllOf P [] = Unit {0}
AllOf P (j ∷ js) = P j × AllOf P js

-- P holds of two lists, index by index, and of the index, which is n for the first
abbrev pub AlikeFrom : {J D : Type 0} → ℕ → (ℕ → J → D → Type 0) → List J → List D → Type 0
AlikeFrom n P [] [] = Unit {0}
AlikeFrom n P (j ∷ js) (d ∷ ds) = P n j d × AlikeFrom (n + 1) P js ds
AlikeFrom n P _ _ = ⊥

-- The lists are of one length, and P holds of each index and the two items there.
pub record Each {J D : Type 0} (js : List J) (ds : List D) (P : ℕ → J → D → Type 0) : Type 0 where
  pub len : length ds ≡ length js
  pub at :
      (k : ℕ) (j : J) (d : D) → slice_get js k ≡ Some j → slice_get ds k ≡ Some d → P k j d

-- what a job returned whose thread was to be started: by what the permit answered, and whether the
-- thread could be started
abbrev pub Becomes : {D : Type 0} → (Start → D → Type 0) → (Bool → Type 0) → D → Type 0
Becomes comes permits d =
    (permits true × (comes Made d ⊎ comes Failed d)) ⊎ (permits false × comes Refused d)
