-- What runs of base elements cover.
use Rattle.std.proofs.Common.{◌≡◌, ◌⊎◌, ◌↔◌, ℕ, ◌+◌, ◌<◌, ◌≤◌, List, [], ◌∷◌, ◌++◌, Contains, length, get_or, take, inl, inr, sym, ap, ◌∙◌, subst, ⊎_elim, arith}
use Rattle.std.proofs.lemmas.Bool.{cases_lt}
use Rattle.std.proofs.lemmas.List.{take_more}
use Rattle.std.proofs.lemmas.List.Elements.{Contains-push, Contains-push_cases, Contains-append_left}
use Rattle.nll_sets.specs.Runs.{first_of, last_of}
use Rattle.nll_sets.specs.declared.run.Run.{Run}
use Rattle.nll_problem.specs.BaseRuns.{IsInBaseRun}
use Rattle.nll_live.specs.BaseRuns.{GainsRuns}
use Rattle.nll_problem.specs.declared.base_run.BaseRun.{BaseRun}

-- ---- what runs cover

pub gains_none : (kind : ℕ → ℕ → Type 0) (old : List BaseRun) → ((r p : ℕ) → kind r p → ⊥) → GainsRuns kind old old
gains_none kind old empty r p = (inl, ⊎_elim (λ h. h) (λ h. absurd (empty r p h)))

pub gains_append : (a b : ℕ → ℕ → Type 0) (old mid new : List BaseRun) → GainsRuns a old mid → GainsRuns b mid new
    → GainsRuns (λ r p. a r p ⊎ b r p) old new
gains_append a b old mid new f g r p = (
  λ h. ⊎_elim (λ before. ⊎_elim inl (λ x. inr (inl x)) ((f r p).0 before)) (λ x. inr (inr x)) ((g r p).0 h),
  ⊎_elim
      (λ before. (g r p).1 (inl ((f r p).1 (inl before))))
      (⊎_elim (λ x. (g r p).1 (inl ((f r p).1 (inr x)))) (λ x. (g r p).1 (inr x))),
)

pub gains_as : (a b : ℕ → ℕ → Type 0) (old new : List BaseRun) → ((r p : ℕ) → a r p ↔ b r p) → GainsRuns a old new
    → GainsRuns b old new
gains_as a b old new same f r p = (
  λ h. ⊎_elim inl (λ x. inr ((same r p).0 x)) ((f r p).0 h),
  λ h. (f r p).1 (⊎_elim inl (λ x. inr ((same r p).1 x)) h),
)

-- one run more
pub gains_one : (s : BaseRun) (old : List BaseRun) → GainsRuns (IsInBaseRun s) old (old ++ s ∷ [])
gains_one s old r p = (
  λ h. ⊎_elim
      (λ there. inl (h.0, there, h.2))
      (λ is. inr (subst (λ t. IsInBaseRun t r p) (sym is) h.2))
      (Contains-push_cases old s h.0 h.1),
  ⊎_elim
      (λ h. (h.0, Contains-append_left old (s ∷ []) h.0 h.1, h.2))
      (λ h. (s, Contains-push old s, h)),
)

-- p is in one of the first runs
abbrev pub IsInFirst : List Run → ℕ → ℕ → Type 0
IsInFirst runs n p = (k : ℕ) × (k < n) × (first_of runs k ≤ p) × (p ≤ last_of runs k)

-- the run of one run more
pub runs_step : (region : ℕ) (runs : List Run) (n : ℕ) (old mid : List BaseRun) (s : BaseRun) → s.region ≡ region
    → s.first ≡ first_of runs n → s.end ≡ last_of runs n + 1
    → GainsRuns (λ r p. (region ≡ r) × IsInFirst runs n p) old mid
    → GainsRuns (λ r p. (region ≡ r) × IsInFirst runs (n + 1) p) old (mid ++ s ∷ [])
runs_step region runs n old mid s of begins ends f =
    gains_as (λ r p. ((region ≡ r) × IsInFirst runs n p) ⊎ IsInBaseRun s r p)
    (λ r p. (region ≡ r) × IsInFirst runs (n + 1) p) old (mid ++ s ∷ [])
    (λ r p. (
      ⊎_elim
          (λ h. (h.0, (h.1.0, omega (arith, h.1.1), h.1.2, h.1.3)))
          (λ h. (sym of ∙ h.0, (n, omega arith, omega (arith, h.1, begins), omega (arith, h.2, ends)))),
      λ h. ⊎_elim
          (λ low. inl (h.0, (h.1.0, low, h.1.2, h.1.3)))
          (λ high.
          let same : h.1.0 ≡ n = omega (arith, high, h.1.1) in
          let is = subst (λ k. (first_of runs k ≤ p) × (p ≤ last_of runs k)) same (h.1.2, h.1.3) in
          inr (of ∙ h.0, omega (arith, is.0, begins), omega (arith, is.1, ends)))
          (cases_lt h.1.0 n),
    ))
    (gains_append (λ r p. (region ≡ r) × IsInFirst runs n p) (IsInBaseRun s) old mid (mid ++ s ∷ []) f
    (gains_one s mid))

pub regions_step : (regions : List ℕ) (kind : ℕ → Type 0) (n e : ℕ) (old mid new : List BaseRun) → n < length regions
    → e ≡ get_or regions n e → GainsRuns (λ r p. Contains (take n regions) r × kind p) old mid
    → GainsRuns (λ r p. (e ≡ r) × kind p) mid new → GainsRuns (λ r p. Contains (take (n + 1) regions) r
    × kind p) old new
regions_step regions kind n e old mid new within is f g =
    let more : take (n + 1) regions ≡ take n regions ++ e ∷ [] = take_more regions n e within
    ∙ ap (λ x. take n regions ++ x ∷ []) (sym is) in
    gains_as (λ r p. (Contains (take n regions) r × kind p) ⊎ ((e ≡ r) × kind p))
    (λ r p. Contains (take (n + 1) regions) r × kind p) old new
    (λ r p. (
      ⊎_elim
          (λ h. (subst (λ xs. Contains xs r) (sym more) (Contains-append_left (take n regions) (e ∷ []) r h.0), h.1))
          (λ h. (
            subst (λ xs. Contains xs r) (sym more)
                (subst (Contains (take n regions ++ e ∷ [])) h.0 (Contains-push (take n regions) e)),
            h.1,
          )),
      λ h. ⊎_elim (λ there. inl (there, h.1)) (λ same. inr (same, h.1))
          (Contains-push_cases (take n regions) e r (subst (λ xs. Contains xs r) more h.0)),
    ))
    (gains_append (λ r p. Contains (take n regions) r × kind p) (λ r p. (e ≡ r) × kind p) old mid new f g)
