-- Each hold of the lock keeps its rule.
use Rattle.std.proofs.Common.{◌≡◌, ℕ, zero, suc, ◌+◌, ◌-◌, ◌^◌, ◌<◌, ◌≤◌, ⊎_elim, inl, inr, Bool, true, false, List, [], ◌∷◌, ◌++◌, map, slice_set, refl, sym, ap, ◌∙◌, subst, arith}
use mathlib.Core.Option.{some, some-injective, some-ne-none}
use lib.ListN.{get_elem?}
use Rattle.crossbeam_queue.specs.Fifo.{Pushes, Pops, Forks, Merges, Learns}
use Rattle.ledger.specs.declared.figures.Figures.{Figures}
use Rattle.ledger.specs.declared.lock_rule.State.{State}
use Rattle.ledger.specs.declared.lock_rule.Known.{Known}
use Rattle.ledger.specs.declared.step.LedgerStep.{LedgerStep}
use Rattle.ledger.specs.declared.step.LedgerStep.TheVariants.{Owed, FlagSeen, BalanceSeen}
use Rattle.ledger.specs.Amounts.{total_bound}
use Rattle.ledger.specs.Figures.{noting, owing, clearing, quieting, staying, setting, finding, finding_none, fewer, fresh, none, together, bit, AreBalanced}
use Rattle.ledger.specs.Lock.{first, new_state, spent, knowing, holding, released, holders, HoldIt, IsHeldByOne}
use Rattle.ledger.proofs.FigureLemmas.{bounds, finds_le, figures_owe, figures_clear, figures_quiet, figures_stop, figures_find, figures_kept, figures_noted, figures_fork, figures_merge, settled, called}

entry_at : (views : List Known) (id : ℕ) (v : Known) → get_elem? views id ≡ some v
    → get_elem? (map (λ u. u.figures) views) id ≡ some v.figures
entry_at [] id v e = absurd (some-ne-none v (sym e))
entry_at (x ∷ xs) zero v e = ap (λ (y : Known). some y.figures) (some-injective x v e)
entry_at (x ∷ xs) (suc id) v e = entry_at xs id v e

entry_set : (views : List Known) (id : ℕ) (w : Known)
    → map (λ u. u.figures) (slice_set views id w) ≡ slice_set (map (λ u. u.figures) views) id w.figures
entry_set [] id w = refl
entry_set (x ∷ xs) zero w = refl
entry_set (x ∷ xs) (suc id) w = ap (λ l. x.figures ∷ l) (entry_set xs id w)

entry_snoc : (views : List Known) (w : Known)
    → map (λ u. u.figures) (views ++ w ∷ []) ≡ map (λ u. u.figures) views ++ w.figures ∷ []
entry_snoc [] w = refl
entry_snoc (x ∷ xs) w = ap (λ l. x.figures ∷ l) (entry_snoc xs w)

holders_set : (views : List Known) (id : ℕ) (v w : Known) → get_elem? views id ≡ some v
    → holders (slice_set views id w) + bit v.holds ≡ holders views + bit w.holds
holders_set [] id v w e = absurd (some-ne-none v (sym e))
holders_set (x ∷ xs) zero v w e = let p : bit x.holds ≡ bit v.holds =
    ap (λ (y : Known). bit y.holds) (some-injective x v e) in omega arith
holders_set (x ∷ xs) (suc id) v w e = let r = holders_set xs id v w e in omega arith

holders_snoc : (views : List Known) (w : Known) → holders (views ++ w ∷ []) ≡ holders views + bit w.holds
holders_snoc [] w = omega arith
holders_snoc (x ∷ xs) w = let r = holders_snoc xs w in omega arith

held_set : (x : State) (views : List Known) (id : ℕ) (w : Known) → HoldIt x views → (w.holds ≡ true → w.held ≡ x)
    → HoldIt x (slice_set views id w)
held_set x [] id w s f = tt
held_set x (y ∷ ys) zero w s f = (f, s.1)
held_set x (y ∷ ys) (suc id) w s f = (s.0, held_set x ys id w s.1 f)

held_snoc : (x : State) (views : List Known) (w : Known) → HoldIt x views → (w.holds ≡ true → w.held ≡ x)
    → HoldIt x (views ++ w ∷ [])
held_snoc x [] w s f = (f, tt)
held_snoc x (y ∷ ys) w s f = (s.0, held_snoc x ys w s.1 f)

held_at : (x : State) (views : List Known) (id : ℕ) (v : Known) → HoldIt x views → get_elem? views id ≡ some v
    → v.holds ≡ true → v.held ≡ x
held_at x [] id v s e = absurd (some-ne-none v (sym e))
held_at x (y ∷ ys) zero v s e = subst (λ (u : Known). u.holds ≡ true → u.held ≡ x) (some-injective y v e) s.0
held_at x (y ∷ ys) (suc id) v s e = held_at x ys id v s.1 e

-- where nobody holds, every state is held by all that hold
none_held : (x : State) (views : List Known) → holders views ≡ 0 → HoldIt x views
none_held x [] e = tt
none_held x (y ∷ ys) e =
    ((λ h. absurd (let p : bit y.holds ≡ 1 = ap (λ b. bit b) h in omega arith)), none_held x ys (omega arith))

not_true : (b : Bool) → b ≡ false → b ≡ true → ⊥
not_true b e f = cc

-- a hold begins
pub grabs : (port : ℕ) (v : Known) → v.holds ≡ false
    → Pops IsHeldByOne port v (λ x w. (w ≡ holding v x) × (2 ^ 61 < x.balance) × (x.balance < 2 ^ 63)
    × (0 < v.figures.finds → x.flag ≡ true))
grabs port v free x items views h at =
    let w = holding v x in
    let here : (x ≡ h.state) × (items ≡ []) × (holders views ≡ 0) =
    ⊎_elim (λ (p : (x ∷ items ≡ h.state ∷ []) × (holders views ≡ 0)).
    ((let q = p.0 in cc), (let q = p.0 in cc), p.1))
    (λ (p : (x ∷ items ≡ []) × (holders views ≡ 1)). absurd (let q = p.0 in cc)) h.place in
    let hs = holders_set views port v w at in let fz : bit v.holds ≡ 0 = ap (λ b. bit b) free in
    let es = map (λ u. u.figures) views in
    let bounded = bounds es h.balanced.sound in let sums = h.balanced.sums in let parts = h.balanced.parts in
    let same : x.balance ≡ h.state.balance = ap (λ (y : State). y.balance) here.0 in
    let low : 2 ^ 61 < x.balance = omega arith in let high : x.balance < 2 ^ 63 = omega arith in
    let most = finds_le es port v.figures (entry_at views port v at) in
    let nobody = here.2 in (
      w,
      record {
        state = h.state;
        place = inr (here.1, omega arith);
        held = held_set h.state views port w h.held (λ t. here.0);
        balanced =
            subst (AreBalanced h.state.balance h.state.flag) (sym (entry_set views port w))
            (figures_kept h.state.balance h.state.flag port v.figures es h.balanced (entry_at views port v at));
      },
      (
        refl,
        low,
        high,
        λ z. ap (λ (y : State). y.flag) here.0 ∙ h.balanced.found (omega (arith, most, z)),
      ),
    )

-- a hold ends with a state x and figures e, where this keeps the figures
pub gives : (n port : ℕ) (v : Known) (x : State) (e : Figures) → v.holds ≡ true
    → ((es : List Figures) → AreBalanced v.held.balance v.held.flag es → get_elem? es port ≡ some v.figures
    → AreBalanced x.balance x.flag (slice_set es port e)) → Pushes IsHeldByOne n port v x (λ w. w ≡ released v e)
gives n port v x e holds change items views room h at =
    let w = released v e in
    let is = held_at h.state views port v h.held at holds in
    let hs = holders_set views port v w at in let vh : bit v.holds ≡ 1 = ap (λ b. bit b) holds in
    let gone : (items ≡ []) × (holders (slice_set views port w) ≡ 0) =
    ⊎_elim (λ (p : (items ≡ h.state ∷ []) × (holders views ≡ 0)). absurd (let z = p.1 in omega arith))
    (λ (p : (items ≡ []) × (holders views ≡ 1)). (p.0, (let z = p.1 in omega arith))) h.place in
    let es = map (λ u. u.figures) views in (
      w,
      record {
        state = x;
        place = inl (ap (λ l. l ++ x ∷ []) gone.0, gone.1);
        held = none_held x (slice_set views port w) gone.1;
        balanced = grind (arith, entry_set, entry_at);
      },
      refl,
    )

pub gives_raised : (n port k : ℕ) (v : Known) (x : State) (steps : List LedgerStep) → v.holds ≡ true
    → x.balance ≡ v.held.balance + k → x.flag ≡ v.held.flag → 0 < v.figures.parts → v.figures.quiets ≡ 0
    → v.figures.owed + k ≤ total_bound → Pushes IsHeldByOne n port v x
    (λ w. w ≡ released v (noting (owing v.figures (x.balance - v.held.balance)) steps))
gives_raised n port k v x steps holds b f part live few =
    let kk : k ≡ x.balance - v.held.balance = omega arith in
    gives n port v x (noting (owing v.figures (x.balance - v.held.balance)) steps) holds (λ es g at.
    subst (λ (y : ℕ × (Bool × ℕ)). AreBalanced y.0 y.1.0 (slice_set es port (noting (owing v.figures y.1.1) steps)))
    (λ i. (sym b i, (sym f i, kk i))) (figures_owe v.held.balance v.held.flag port v.figures es g at k steps part live
    few).1)

pub gives_lowered : (n port k : ℕ) (v : Known) (x : State) → v.holds ≡ true → x.balance ≡ v.held.balance - k
    → k ≤ v.held.balance → x.flag ≡ v.held.flag → 0 < v.figures.parts → v.figures.quiets ≡ 0
    → v.figures.cleared + k ≤ total_bound
    → Pushes IsHeldByOne n port v x (λ w. w ≡ released v (clearing v.figures (v.held.balance - x.balance)))
gives_lowered n port k v x holds b le f part live few =
    let kk : k ≡ v.held.balance - x.balance = omega arith in
    gives n port v x (clearing v.figures (v.held.balance - x.balance)) holds (λ es g at.
    subst (λ (y : ℕ × (Bool × ℕ)). AreBalanced y.0 y.1.0 (slice_set es port (clearing v.figures y.1.1)))
    (λ i. (sym b i, (sym f i, kk i))) (figures_clear v.held.balance v.held.flag port v.figures es g at k part live
    few).1)

pub gives_set : (n port : ℕ) (v : Known) (x : State) → v.holds ≡ true → x.balance ≡ v.held.balance → x.flag ≡ true
    → 0 < v.figures.parts → Pushes IsHeldByOne n port v x (λ w. w ≡ released v (setting v.figures))
gives_set n port v x holds b set part = gives n port v x (setting v.figures) holds (λ es g at.
    subst (λ (y : ℕ × Bool). AreBalanced y.0 y.1 (slice_set es port (setting v.figures))) (λ i. (sym b i, sym set i))
    (figures_stop v.held.balance v.held.flag port v.figures es g at part))

pub gives_found : (n port : ℕ) (v : Known) (x : State) → v.holds ≡ true → x ≡ v.held → x.flag ≡ true
    → 0 < v.figures.parts → Pushes IsHeldByOne n port v x (λ w. w ≡ released v (finding v.figures))
gives_found n port v x holds is set part = gives n port v x (finding v.figures) holds (λ es g at.
    subst (λ (y : State). AreBalanced y.balance y.flag (slice_set es port (finding v.figures))) (sym is)
    (figures_find v.held.balance v.held.flag port v.figures es g at part
    (subst (λ (y : State). y.flag ≡ true) is set)))

pub gives_quiet : (n port : ℕ) (v : Known) (x : State) → v.holds ≡ true → x ≡ v.held → x.balance ≡ 2 ^ 62
    → Pushes IsHeldByOne n port v x (λ w. w ≡ released v (quieting (finding_none v.figures)))
gives_quiet n port v x holds is null = gives n port v x (quieting (finding_none v.figures)) holds (λ es g at.
    subst (λ (y : State). AreBalanced y.balance y.flag (slice_set es port (quieting (finding_none v.figures)))) (sym is)
    (figures_quiet v.held.balance v.held.flag port v.figures es g at
    (BalanceSeen true ∷ FlagSeen false ∷ v.figures.steps)
    (subst (λ (y : State). y.balance ≡ 2 ^ 62) is null)))

pub gives_back : (n port : ℕ) (v : Known) (x : State) (steps : List LedgerStep) → v.holds ≡ true → x ≡ v.held
    → Pushes IsHeldByOne n port v x (λ w. w ≡ released v (noting v.figures steps))
gives_back n port v x steps holds is = gives n port v x (noting v.figures steps) holds (λ es g at.
    subst (λ (y : State). AreBalanced y.balance y.flag (slice_set es port (noting v.figures steps))) (sym is)
    (figures_noted v.held.balance v.held.flag port v.figures es g at steps))

-- the lock before it is opened: the first pass holds it
pub begins : IsHeldByOne [] (first ∷ [])
begins = record {
  state = new_state;
  place = inr (refl, refl);
  held = ((λ t. refl), tt);
  balanced = grind arith;
}

-- a share is cut off
pub cuts : (port : ℕ) (v : Known) → v.holds ≡ false → 1 < v.figures.parts → 0 < v.figures.owed → v.figures.owed ≤ 64
    → v.figures.cleared ≡ 0 → v.figures.quiets ≡ 0 → v.figures.calls ≡ 0 → v.figures.finds ≡ 0
    → Forks IsHeldByOne port v (knowing (fewer v.figures) v.holds v.held) (knowing fresh false v.held)
cuts port v free part owes few cleared quiets calls finds items views h at =
    let w = knowing (fewer v.figures) v.holds v.held in let u = knowing fresh false v.held in
    let es = map (λ y. y.figures) views in
    let hs = holders_set views port v w at in let ho = holders_snoc (slice_set views port w) u in record {
      state = h.state;
      place = ⊎_elim (λ (p : (items ≡ h.state ∷ []) × (holders views ≡ 0)). inl (p.0, (let z = p.1 in omega arith)))
          (λ (p : (items ≡ []) × (holders views ≡ 1)). inr (p.0, (let z = p.1 in omega arith))) h.place;
      held = grind (arith, held_snoc, slice_set, held_set, not_true);
      balanced =
          subst (AreBalanced h.state.balance h.state.flag)
          (sym (entry_snoc (slice_set views port w) u ∙ ap (λ l. l ++ fresh ∷ []) (entry_set views port w)))
          (figures_fork h.state.balance h.state.flag port v.figures es h.balanced
          (entry_at views port v at) part owes few cleared quiets calls finds);
    }

-- two are put together
pub joins : (port : ℕ) (v : Known) (other : ℕ) (w : Known) → v.holds ≡ false → w.holds ≡ false
    → Merges IsHeldByOne port v other w (knowing (together v.figures w.figures) false v.held) (spent)
joins port v other w free free' items views h at apart there =
    let t = knowing (together v.figures w.figures) false v.held in let z = spent in
    let vs = slice_set views port t in let es = map (λ y. y.figures) views in
    let h1 = holders_set views port v t at in let h2 = holders_set vs other w z there in
    let f1 : bit v.holds ≡ 0 = ap (λ b. bit b) free in let f2 : bit w.holds ≡ 0 = ap (λ b. bit b) free' in record {
      state = h.state;
      place = ⊎_elim (λ (p : (items ≡ h.state ∷ []) × (holders views ≡ 0)). inl (p.0, (let y = p.1 in omega arith)))
          (λ (p : (items ≡ []) × (holders views ≡ 1)). inr (p.0, (let y = p.1 in omega arith))) h.place;
      held = held_set h.state vs other z (held_set h.state views port t h.held (λ y. absurd (not_true false refl y)))
          (λ y. absurd (not_true false refl y));
      balanced =
          subst (AreBalanced h.state.balance h.state.flag)
          (sym (entry_set vs other z ∙ ap (λ l. slice_set l other none) (entry_set views port t)))
          (figures_merge h.state.balance h.state.flag port v.figures es h.balanced
          (entry_at views port v at) other w.figures apart
          (subst (λ l. get_elem? l other ≡ some w.figures) (entry_set views port t) (entry_at vs other w there)));
    }

-- who has all parts knows the whole
pub concludes : (port : ℕ) (v : Known) → v.figures.parts ≡ 64
    → Learns IsHeldByOne port v (λ items. (v.figures.quiets ≡ v.figures.parts → v.figures.owed ≡ v.figures.cleared)
    × (0 < v.figures.finds → 0 < v.figures.calls))
concludes port v whole items views h at = (
  (λ q. settled h.state.balance h.state.flag port v.figures (map (λ y. y.figures) views) h.balanced
      (entry_at views port v at) whole q),
  λ z. called h.state.balance h.state.flag port v.figures (map (λ y. y.figures) views) h.balanced
      (entry_at views port v at) whole z,
)

-- ---- the same, of a view that was seen before the hold

module _ (n port : ℕ) (u v : Known) (r : State) (e : v ≡ holding u r) where
  held_is : r ≡ v.held
  held_is = sym (ap (λ (y : Known). y.held) e)

  holds_is : v.holds ≡ true
  holds_is = ap (λ (y : Known). y.holds) e

  entry_is : v.figures ≡ u.figures
  entry_is = ap (λ (y : Known). y.figures) e

  some_is : 0 < u.figures.parts → 0 < v.figures.parts
  some_is h = subst (λ (y : Figures). 0 < y.parts) (sym entry_is) h

  live_is : u.figures.quiets ≡ 0 → v.figures.quiets ≡ 0
  live_is h = ap (λ (y : Figures). y.quiets) entry_is ∙ h

  pub raised_after : (k : ℕ) (x : State) → x.balance ≡ r.balance + k → x.flag ≡ r.flag → 0 < u.figures.parts
      → u.figures.quiets ≡ 0 → u.figures.owed + k ≤ total_bound
      → Pushes IsHeldByOne n port v x (λ w. w ≡ released v (owing v.figures (x.balance - v.held.balance)))
  raised_after k x b f part live few =
      gives_raised n port k v x (Owed (x.balance - v.held.balance) ∷ v.figures.steps) holds_is
      (b ∙ ap (λ (y : State). y.balance + k) held_is) (f ∙ ap (λ (y : State). y.flag) held_is) (some_is part)
      (live_is live) (subst (λ (y : Figures). y.owed + k ≤ total_bound) (sym entry_is) few)

  pub lowered_after : (k : ℕ) (x : State) → x.balance ≡ r.balance - k → k ≤ r.balance → x.flag ≡ r.flag
      → 0 < u.figures.parts → u.figures.quiets ≡ 0 → u.figures.cleared + k ≤ total_bound
      → Pushes IsHeldByOne n port v x (λ w. w ≡ released v (clearing v.figures (v.held.balance - x.balance)))
  lowered_after k x b le f part live few =
      gives_lowered n port k v x holds_is (b ∙ ap (λ (y : State). y.balance - k) held_is)
      (subst (λ (y : State). k ≤ y.balance) held_is le) (f ∙ ap (λ (y : State). y.flag) held_is) (some_is part)
      (live_is live) (subst (λ (y : Figures). y.cleared + k ≤ total_bound) (sym entry_is) few)

  pub set_after : (x : State) → x.balance ≡ r.balance → x.flag ≡ true → 0 < u.figures.parts
      → Pushes IsHeldByOne n port v x (λ w. w ≡ released v (setting v.figures))
  set_after x b set part = gives_set n port v x holds_is (b ∙ ap (λ (y : State). y.balance) held_is) set (some_is part)

  pub found_after : r.flag ≡ true → 0 < u.figures.parts
      → Pushes IsHeldByOne n port v r (λ w. w ≡ released v (finding v.figures))
  found_after set part = gives_found n port v r holds_is held_is set (some_is part)

  pub quiet_after : r.balance ≡ 2 ^ 62
      → Pushes IsHeldByOne n port v r (λ w. w ≡ released v (quieting (finding_none v.figures)))
  quiet_after null = gives_quiet n port v r holds_is held_is null

  pub missed_after : Pushes IsHeldByOne n port v r (λ w. w ≡ released v (finding_none v.figures))
  missed_after = gives_back n port v r (FlagSeen false ∷ v.figures.steps) holds_is held_is

  pub stayed_after : Pushes IsHeldByOne n port v r (λ w. w ≡ released v (staying (finding_none v.figures)))
  stayed_after = gives_back n port v r (BalanceSeen false ∷ FlagSeen false ∷ v.figures.steps) holds_is held_is
