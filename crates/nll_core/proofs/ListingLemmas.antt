-- Lists of the runs of what a set newly has.
use Rattle.std.proofs.Common.{◌≡◌, ℕ, Bool, true, false, List, [], length, refl, sym, ◌∙◌, ⊎_elim, arith}
use Rattle.std.proofs.lemmas.Bool.{cases_lt, false≢true}
use Rattle.nll_sets.specs.ElementSet.{flag}
use Rattle.nll_sets.specs.Runs.{IsInRunsFrom, ListsGaps, Fills}
use Rattle.nll_sets.specs.declared.run.Run.{Run}
use Rattle.nll_problem.specs.Graph.{Graph}
use Rattle.nll_core.specs.Search.{IsIn}
use Rattle.nll_core.specs.Walking.{GrowsByRuns}
use Rattle.nll_core.specs.Frontiers.{ListsNew}

-- nothing is new
pub lists_none : (flags : List Bool) (runs : List Run) → ListsNew flags flags runs runs
lists_none flags runs = grind (arith, false≢true)

-- the gaps of a run are what is new once the run is put in
pub lists_gaps : (old new : List Bool) (run : Run) (before after : List Run) → ListsGaps old run before after
    → Fills old new run → ListsNew old new before after
lists_gaps old new run before after l f = grind (arith, false≢true)

-- what a walk lists in an empty list is what is new
pub lists_grown : (g : Graph) (sub : List Bool) (kind : ℕ → Type 0) (old new : List Bool) (after : List Run)
    → GrowsByRuns g sub kind old new [] after → ListsNew old new [] after
lists_grown g sub kind old new after p = grind (arith, false≢true)

-- what came first and what came then is what is new
module _ (old middle new : List Bool) (xs ys zs : List Run) (first : (x : ℕ) → IsIn old x → IsIn middle x)
    (then : (x : ℕ) → IsIn middle x → IsIn new x) (p : ListsNew old middle xs ys) (q : ListsNew middle new ys zs) where
  not_before : (x : ℕ) → flag middle x ≡ false → flag old x ≡ false
  not_before x h = by (flag old x) refl
    where
      by : (b : Bool) → flag old x ≡ b → flag old x ≡ false
      by false is = is
      by true is = absurd (false≢true (sym h ∙ first x is))

  each : (x : ℕ) → IsInRunsFrom (length xs) zs x → IsIn new x × (flag old x ≡ false)
  each x (k, from, l, a, b) = grind (arith, not_before, cases_lt)

  back : (x : ℕ) → IsIn new x → flag old x ≡ false → IsInRunsFrom (length xs) zs x
  back x h fresh = by (flag middle x) refl
    where
      by : (b : Bool) → flag middle x ≡ b → IsInRunsFrom (length xs) zs x
      by true is =
          (let i = (p.listed x).1 (is, fresh) in let at = q.front i.0 i.2 in
          (i.0, i.1, omega (arith, i.2, q.longer), omega (arith, i.3, at.0), omega (arith, i.4, at.1)))
      by false is = (let i = (q.listed x).1 (h, is) in (i.0, omega (arith, i.1, p.longer), i.2, i.3, i.4))

  pub lists_append : ListsNew old new xs zs
  lists_append = record {
    longer = omega (arith, p.longer, q.longer);
    front = λ k l. let a = p.front k l in let b = q.front k (omega (arith, l, p.longer)) in (b.0 ∙ a.0, b.1 ∙ a.1);
    proper = grind (arith, cases_lt);
    listed = λ x. (each x, λ h. back x h.0 h.1);
    apart = λ j k x from less l a b. ⊎_elim
        (λ mid. let at = q.front j mid in ⊎_elim
        (λ both. let on = q.front k both in
        p.apart j k x from less both (omega (arith, a.0, at.0), omega (arith, a.1, at.1))
        (omega (arith, b.0, on.0), omega (arith, b.1, on.1)))
        (λ past. false≢true (sym ((q.listed x).0 (k, past, l, b.0, b.1)).1
        ∙ ((p.listed x).0 (j, from, mid, omega (arith, a.0, at.0), omega (arith, a.1, at.1))).0))
        (cases_lt k (length ys)))
        (λ past. q.apart j k x past less l a b)
        (cases_lt j (length ys));
  }
