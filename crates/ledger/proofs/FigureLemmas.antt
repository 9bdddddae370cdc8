-- Each step keeps the figures.
use Rattle.std.proofs.Common.{◌≡◌, ℕ, zero, suc, ◌+◌, ◌-◌, ◌*◌, ◌^◌, ◌<◌, ◌≤◌, Bool, true, List, [], ◌∷◌, ◌++◌, slice_set, refl, sym, ap, subst, arith}
use mathlib.Core.Option.{some, some-injective, some-ne-none}
use lib.ListN.{get_elem?}
use Rattle.ledger.specs.declared.figures.Figures.{Figures}
use Rattle.ledger.specs.declared.step.LedgerStep.{LedgerStep}
use Rattle.ledger.specs.Amounts.{total_bound}
use Rattle.ledger.specs.Figures.{figures, noting, owing, clearing, quieting, setting, finding, fewer, fresh, together, total, IsSoundFigure, AreAllSound, AreBalanced}

-- the total after a change of one view
total_set : (f : Figures → ℕ) (views : List Figures) (id : ℕ) (v w : Figures) → get_elem? views id ≡ some v
    → total f (slice_set views id w) + f v ≡ total f views + f w
total_set f [] id v w e = absurd (some-ne-none v (sym e))
total_set f (x ∷ xs) zero v w e = let p : f x ≡ f v = ap f (some-injective x v e) in omega arith
total_set f (x ∷ xs) (suc id) v w e = let r = total_set f xs id v w e in omega arith

sound_at : (views : List Figures) (id : ℕ) (v : Figures) → AreAllSound views → get_elem? views id ≡ some v
    → IsSoundFigure v
sound_at [] id v s e = absurd (some-ne-none v (sym e))
sound_at (x ∷ xs) zero v s e = subst IsSoundFigure (some-injective x v e) s.0
sound_at (x ∷ xs) (suc id) v s e = sound_at xs id v s.1 e

sound_set : (views : List Figures) (id : ℕ) (w : Figures) → AreAllSound views → IsSoundFigure w
    → AreAllSound (slice_set views id w)
sound_set [] id w s t = tt
sound_set (x ∷ xs) zero w s t = (t, s.1)
sound_set (x ∷ xs) (suc id) w s t = (s.0, sound_set xs id w s.1 t)

-- the totals are within what all parts allow
pub bounds : (views : List Figures) → AreAllSound views
    → (total (λ v. v.owed) views ≤ total (λ v. v.parts) views * total_bound)
    × (total (λ v. v.cleared) views ≤ total (λ v. v.parts) views * total_bound)
    × (total (λ v. v.quiets) views ≤ total (λ v. v.parts) views)
bounds [] s = (omega arith, omega arith, omega arith)
bounds (x ∷ xs) s = let r = bounds xs s.1 in let a = s.0.owed in let b = s.0.cleared in let c = s.0.quiets in
    (omega arith, omega arith, omega arith)

-- where one view is not quiet, not all are
not_quiet : (views : List Figures) (id : ℕ) (v : Figures) → AreAllSound views → get_elem? views id ≡ some v
    → v.quiets < v.parts → total (λ v. v.quiets) views < total (λ v. v.parts) views
not_quiet [] id v s e lt = absurd (some-ne-none v (sym e))
not_quiet (x ∷ xs) zero v s e lt = let p : x ≡ v = some-injective x v e in
    let q : x.quiets ≡ v.quiets = ap (λ (y : Figures). y.quiets) p in
    let r : x.parts ≡ v.parts = ap (λ (y : Figures). y.parts) p in let b = bounds xs s.1 in omega arith
not_quiet (x ∷ xs) (suc id) v s e lt = let r = not_quiet xs id v s.1 e lt in let c = s.0.quiets in omega arith

get_set : (views : List Figures) (id : ℕ) (v w : Figures) → get_elem? views id ≡ some v
    → get_elem? (slice_set views id w) id ≡ some w
get_set [] id v w e = absurd (some-ne-none v (sym e))
get_set (x ∷ xs) zero v w e = refl
get_set (x ∷ xs) (suc id) v w e = get_set xs id v w e

set_own : (views : List Figures) (id : ℕ) (v : Figures) → get_elem? views id ≡ some v → slice_set views id v ≡ views
set_own [] id v e = refl
set_own (x ∷ xs) zero v e = ap (λ y. y ∷ xs) (sym (some-injective x v e))
set_own (x ∷ xs) (suc id) v e = ap (λ l. x ∷ l) (set_own xs id v e)

-- the seat that stands for all shares, all of them quiet, knows that owed and cleared are equal
alone : (f : Figures → ℕ) → ((v : Figures) → IsSoundFigure v → v.parts ≡ 0 → f v ≡ 0)
    → (views : List Figures) (id : ℕ) (v : Figures) → AreAllSound views → get_elem? views id ≡ some v
    → total (λ u. u.parts) views ≡ v.parts → total f views ≡ f v
alone f idle [] id v s at e = absurd (some-ne-none v (sym at))
alone f idle (x ∷ xs) zero v s at e =
    let p : x ≡ v = some-injective x v at in let a : x.parts ≡ v.parts = ap (λ (y : Figures). y.parts) p in
    let b : f x ≡ f v = ap f p in
    let z = none f idle xs s.1 (omega arith) in omega arith
  where
    none : (f : Figures → ℕ) → ((v : Figures) → IsSoundFigure v → v.parts ≡ 0 → f v ≡ 0) → (views : List Figures)
        → AreAllSound views → total (λ u. u.parts) views ≡ 0 → total f views ≡ 0
    none f idle [] s e = refl
    none f idle (y ∷ ys) s e = let a = idle y s.0 (omega arith) in let b = none f idle ys s.1 (omega arith) in
        omega arith
alone f idle (x ∷ xs) (suc id) v s at e =
    let le = part_le xs id v at in let a = idle x s.0 (omega arith) in
    let b = alone f idle xs id v s.1 at (omega arith) in omega arith
  where
    part_le : (views : List Figures) (id : ℕ) (v : Figures) → get_elem? views id ≡ some v
        → v.parts ≤ total (λ u. u.parts) views
    part_le [] id v at = absurd (some-ne-none v (sym at))
    part_le (y ∷ ys) zero v at = let p : y.parts ≡ v.parts = ap (λ (z : Figures). z.parts) (some-injective y v at) in
        omega arith
    part_le (y ∷ ys) (suc id) v at = let r = part_le ys id v at in omega arith

total_snoc : (f : Figures → ℕ) (views : List Figures) (w : Figures) → total f (views ++ w ∷ []) ≡ total f views + f w
total_snoc f [] w = omega arith
total_snoc f (x ∷ xs) w = let r = total_snoc f xs w in omega arith

sound_snoc : (views : List Figures) (w : Figures) → AreAllSound views → IsSoundFigure w → AreAllSound (views ++ w ∷ [])
sound_snoc [] w s t = (t, tt)
sound_snoc (x ∷ xs) w s t = (s.0, sound_snoc xs w s.1 t)

get_other : (views : List Figures) (id other : ℕ) (w x : Figures) → ¬ (other ≡ id)
    → get_elem? (slice_set views id w) other ≡ some x → get_elem? views other ≡ some x
get_other [] id other w x ne e = e
get_other (y ∷ ys) zero zero w x ne e = absurd (ne refl)
get_other (y ∷ ys) zero (suc other) w x ne e = e
get_other (y ∷ ys) (suc id) zero w x ne e = e
get_other (y ∷ ys) (suc id) (suc other) w x ne e = get_other ys id other w x (λ p. ne (ap suc p)) e

at_least : (views : List Figures) (id : ℕ) (v : Figures) → get_elem? views id ≡ some v
    → v.calls ≤ total (λ u. u.calls) views
at_least [] id v at = absurd (some-ne-none v (sym at))
at_least (y ∷ ys) zero v at = let p : y.calls ≡ v.calls = ap (λ (z : Figures). z.calls) (some-injective y v at) in
    omega arith
at_least (y ∷ ys) (suc id) v at = let r = at_least ys id v at in omega arith

-- what one seat knows of the flag, all know
pub finds_le : (views : List Figures) (id : ℕ) (v : Figures) → get_elem? views id ≡ some v
    → v.finds ≤ total (λ u. u.finds) views
finds_le [] id v at = absurd (some-ne-none v (sym at))
finds_le (y ∷ ys) zero v at = let p : y.finds ≡ v.finds = ap (λ (z : Figures). z.finds) (some-injective y v at) in
    omega arith
finds_le (y ∷ ys) (suc id) v at = let r = finds_le ys id v at in omega arith

module _ (a : ℕ) (b : Bool) (id : ℕ) (v : Figures) (views : List Figures) (kept : AreBalanced a b views)
    (at : get_elem? views id ≡ some v) where
  old : IsSoundFigure v
  old = sound_at views id v kept.sound at

  -- what one share owes more, the balance has more
  pub figures_owe : (k : ℕ) (steps : List LedgerStep) → 0 < v.parts → v.quiets ≡ 0 → v.owed + k ≤ total_bound
      → (a + k < 2 ^ 64) × AreBalanced (a + k) b (slice_set views id (noting (owing v k) steps))
  figures_owe k steps part live few =
      let w = noting (owing v k) steps in
      let d = total_set (λ u. u.owed) views id v w at in
      let e = total_set (λ u. u.cleared) views id v w at in
      let f = total_set (λ u. u.parts) views id v w at in
      let p = total_set (λ u. u.quiets) views id v w at in
      let h = total_set (λ u. u.calls) views id v w at in
      let i = total_set (λ u. u.finds) views id v w at in
      let all =
      sound_set views id w kept.sound (record {
        owed = (let o = old.owed in omega (arith, part, few));
        cleared = old.cleared;
        quiets = old.quiets;
        calls = old.calls;
        finds = old.finds;
      }) in
      let bounded = bounds views kept.sound in
      let nq = not_quiet (slice_set views id w) id w all (get_set views id v w at) (omega (arith, part, live)) in
      let sums = kept.sums in let parts = kept.parts in (
        omega arith,
        record {
          sums = omega arith;
          parts = omega arith;
          sound = all;
          quiet = λ q. absurd (omega arith);
          set_by = λ z. let y = kept.set_by z in omega arith;
          sets = λ z. kept.sets (omega arith);
          found = λ z. kept.found (omega arith);
        },
      )

  -- what one share clears, the balance has less
  pub figures_clear : (k : ℕ) → 0 < v.parts → v.quiets ≡ 0 → v.cleared + k ≤ total_bound
      → (k ≤ a) × AreBalanced (a - k) b (slice_set views id (clearing v k))
  figures_clear k part live few = grind (arith, total_set, sound_set, old, bounds, slice_set, not_quiet, get_set)

  -- one share leaves where the balance is 0
  pub figures_quiet : (steps : List LedgerStep) → a ≡ 2 ^ 62
      → AreBalanced a b (slice_set views id (noting (quieting v) steps))
  figures_quiet steps null = grind (arith, total_set, sound_set, old)

  -- one share makes a step that changes nothing
  pub figures_noted : (steps : List LedgerStep) → AreBalanced a b (slice_set views id (noting v steps))
  figures_noted steps = grind (arith, total_set, sound_set, old)

  -- one share sets the flag
  pub figures_stop : 0 < v.parts → AreBalanced a true (slice_set views id (setting v))
  figures_stop part = grind (arith, total_set, at_least, slice_set, get_set, sound_set, old)

  -- one share finds the flag set
  pub figures_find : 0 < v.parts → b ≡ true → AreBalanced a b (slice_set views id (finding v))
  figures_find part set = grind (arith, total_set, sound_set, old)

  pub figures_kept : AreBalanced a b (slice_set views id v)
  figures_kept = subst (AreBalanced a b) (sym (set_own views id v at)) kept

  -- a share is cut off
  pub figures_fork : 1 < v.parts → 0 < v.owed → v.owed ≤ 64 → v.cleared ≡ 0 → v.quiets ≡ 0 → v.calls ≡ 0 → v.finds ≡ 0
      → AreBalanced a b (slice_set views id (fewer v) ++ fresh ∷ [])
  figures_fork part owes few cleared quiets calls finds =
      grind (arith, slice_set, total_set, total_snoc, sound_snoc, sound_set)

  -- two entries are put together
  pub figures_merge : (other : ℕ) (w : Figures) → ¬ (other ≡ id)
      → get_elem? (slice_set views id (together v w)) other ≡ some w
      → AreBalanced a b (slice_set (slice_set views id (together v w)) other (figures 0 0 0 0 0 0 []))
  figures_merge other w apart there = grind (arith, slice_set, total_set, sound_at, get_other, old, sound_set)

  -- who has all parts, all of them quiet, knows that owed and cleared are equal
  pub settled : v.parts ≡ 64 → v.quiets ≡ v.parts → v.owed ≡ v.cleared
  settled whole quiet = grind (arith, alone)

  pub called : v.parts ≡ 64 → 0 < v.finds → 0 < v.calls
  called whole found = grind (arith, alone)
