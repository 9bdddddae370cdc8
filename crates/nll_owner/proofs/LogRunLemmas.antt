-- Runs of elements in a log: how one is read, and which growths it stands for.
use Rattle.std.proofs.Common.{◌≡◌, ℕ, zero, suc, ◌+◌, ◌-◌, ◌<◌, ◌≤◌, List, [], ◌∷◌, length, get_or, Contains, refl, arith}
use Rattle.std.proofs.lemmas.Bool.{cases_eq}
use Rattle.std.proofs.lemmas.List.{get_or_default}
use Rattle.nll_sets.specs.Runs.{IsWithin}
use Rattle.nll_sets.specs.declared.run.Run.{Run}
use Rattle.nll_mail.specs.declared.growth.Growth.{Growth}
use Rattle.nll_owner.specs.Logs.{IsRunOfLog, IsTold}

-- ---- it is read growth by growth

pub run_first : (log : List Growth) (place e : ℕ) (a b : Growth) → place < length log → (get_or log place b).element ≡ e
    → IsRunOfLog log place (place + 1) (get_or log place a).region (record { first = e; last = e })
run_first log place e a b within is = grind (arith, get_or, get_or_default)

pub run_more : (log : List Growth) (place end r first last : ℕ) (g : Growth)
    → IsRunOfLog log place end r (record { first = first; last = last }) → end < length log → g ≡ get_or log end g
    → (g.region ≡ r) × (g.element ≡ last + 1)
    → IsRunOfLog log place (end + 1) r (record { first = first; last = last + 1 })
run_more log place end r first last g w within is next = grind (arith, get_or, get_or_default, cases_eq)

-- ---- its growths

-- what stands at a place
pub at_place : {X : Type 0} (xs : List X) (k : ℕ) → k < length xs → (x : X) × (get_or xs k x ≡ x)
at_place [] k l = absurd (omega arith)
at_place (x ∷ xs) zero l = (x, refl)
at_place (x ∷ xs) (suc k) l = at_place xs k (omega arith)

module _ (log : List Growth) (from to r : ℕ) (run : Run) (are : IsRunOfLog log from to r run) where
  -- the growth by an element of the run
  pub growth_of : (x : ℕ) → IsWithin run x → (g : Growth) × Contains log g × (g.region ≡ r) × (g.element ≡ x)
  growth_of x own =
      let k = from + (x - run.first) in
      let before : k < to = omega (arith, own.0, own.1, are.ends) in
      let within : k < length log = omega (arith, before, are.within) in
      let g = at_place log k within in
      let t = are.each k g.0 (omega arith) before g.1 in
      (g.0, (k, within, g.1), t.0, omega (arith, t.1, own.0))

  pub run_proper : run.first ≤ run.last
  run_proper = omega (arith, are.more, are.ends)

  pub run_told : (x : ℕ) → IsWithin run x → IsTold log r x
  run_told x own = growth_of x own

  -- the element of a growth of the run
  pub run_has : (k : ℕ) (g : Growth) → from ≤ k → k < to → get_or log k g ≡ g → (g.region ≡ r) × IsWithin run g.element
  run_has k g low high at =
      let t = are.each k g low high at in
      (t.0, (omega (arith, t.1, low), omega (arith, t.1, high, are.ends)))
