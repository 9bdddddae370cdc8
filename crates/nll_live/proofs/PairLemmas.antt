-- The pairs of a region and a point that runs of base elements stand for.
use Rattle.std.proofs.Common.{◌≡◌, ◌↔◌, ℕ, ◌+◌, ◌-◌, ◌<◌, ◌≤◌, List, [], ◌∷◌, ◌++◌, map, Contains, length, get_or, take, sym, ap, ◌∙◌, subst, arith}
use Rattle.std.specs.List.{dedup, range_with_len}
use Rattle.std.specs.List.Sorted.{IsPermutation}
use Rattle.std.proofs.lemmas.List.{append-nil, append_assoc, take_more}
use Rattle.std.proofs.lemmas.List.FromFn.{map-range_with_len_more}
use Rattle.std.proofs.lemmas.Grind.{flat_map-append}
use Rattle.nll_problem.specs.Building.{same_pair}
use Rattle.nll_problem.specs.BaseRuns.{IsInBaseRuns, facts_of, facts_of_runs}
use Rattle.nll_problem.specs.declared.base_run.BaseRun.{BaseRun}
use Rattle.nll_problem.proofs.BaseLemmas.{distinct_same, finished_same}
use Rattle.nll_problem.proofs.BaseRunLemmas.{facts_have}

-- one point more
pub fact_more : (region first point : ℕ) (old now : List (ℕ × ℕ)) → first ≤ point
    → now ≡ old ++ map (λ p. (region, p)) (range_with_len first (point - first))
    → now ++ (region, point) ∷ [] ≡ old ++ map (λ p. (region, p)) (range_with_len first (point + 1 - first))
fact_more region first point old now begun is =
    let pair : ℕ → ℕ × ℕ = λ p. (region, p) in
    let more : point - first + 1 ≡ point + 1 - first = omega (arith, begun) in
    ap (λ xs. xs ++ (region, point) ∷ []) is
    ∙ append_assoc old (map pair (range_with_len first (point - first))) ((region, point) ∷ [])
    ∙ ap (λ xs. old ++ xs) (sym (map-range_with_len_more pair first (point - first) point (omega (arith, begun)))
    ∙ ap (λ n. map pair (range_with_len first n)) more)

-- one run more
pub facts_more : (runs : List BaseRun) (n : ℕ) (run : BaseRun) (pairs : List (ℕ × ℕ)) → n < length runs
    → run ≡ get_or runs n run → pairs ≡ facts_of_runs (take n runs)
    → pairs ++ facts_of run ≡ facts_of_runs (take (n + 1) runs)
facts_more runs n run pairs within is are =
    let more : take (n + 1) runs ≡ take n runs ++ run ∷ [] = take_more runs n run within
    ∙ ap (λ t. take n runs ++ t ∷ []) (sym is) in
    ap (λ xs. xs ++ facts_of run) are
    ∙ sym (ap facts_of_runs more ∙ flat_map-append facts_of (take n runs) (run ∷ [])
    ∙ ap (λ xs. facts_of_runs (take n runs) ++ xs) (append-nil (facts_of run)))

-- sorted, each once, they are those of the runs
pub pairs_same : (runs : List BaseRun) (xs ys : List (ℕ × ℕ)) → xs ≡ facts_of_runs runs → IsPermutation xs ys
    → (r p : ℕ) → Contains (dedup same_pair ys) (r, p) ↔ IsInBaseRuns runs r p
pairs_same runs xs ys are moved r p =
    let kept = distinct_same xs (r, p) in
    let sorted = finished_same xs ys moved (r, p) in
    let have = facts_have runs r p in (
      λ h. have.0 (subst (λ zs. Contains zs (r, p)) are (kept.1 (sorted.1 h))),
      λ h. sorted.0 (kept.0 (subst (λ zs. Contains zs (r, p)) (sym are) (have.1 h))),
    )
