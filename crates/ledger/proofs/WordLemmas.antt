-- Each step on a ledger's words keeps their rule.
use Rattle.std.proofs.Common.{◌≡◌, ℕ, zero, suc, ◌+◌, ◌-◌, ◌^◌, ◌%◌, ◌<◌, ◌≤◌, ◌==◌, Bool, true, false, not, cond, List, [], ◌∷◌, slice_index, slice_set, refl, sym, ap, ◌∙◌, subst, arith}
use Rattle.std.proofs.lemmas.Bool.{eqb-true}
use Rattle.std.proofs.lemmas.Bool.Decides.{nat_tests}
use Rattle.std.proofs.lemmas.Nat.{le_or_r}
use mathlib.Core.Option.{some}
use lib.Bits.{bit_or}
use lib.ListN.{get_elem?}
use Rattle.atomic_table.specs.Table.{keeps, opening, Allows, Joins, Splits}
use Rattle.ledger.specs.Amounts.{total_bound}
use Rattle.ledger.specs.Figures.{figures, none, owing, clearing, quieting, staying, setting, finding, finding_none, fewer, fresh, together, AreBalanced}
use Rattle.ledger.specs.Words.{is_set, leaving, looking, AreWords}
use Rattle.ledger.specs.declared.figures.Figures.{Figures}
use Rattle.ledger.specs.declared.step.LedgerStep.TheVariants.{Owed, FlagSeen, BalanceSeen}
use Rattle.ledger.proofs.FigureLemmas.{bounds, finds_le, figures_owe, figures_clear, figures_quiet, figures_stop, figures_find, figures_kept, figures_noted, figures_fork, figures_merge, settled, called}
use Rattle.fixpoint.specs.Limits.{most_parts}

set_some : (w : ℕ) → is_set w ≡ true → 0 < w
set_some zero set = absurd (let p = set in cc)
set_some (suc w) set = omega arith

some_set : (w : ℕ) → 0 < w → is_set w ≡ true
some_set w more = go (w == 0) refl
  where
    go : (t : Bool) → (w == 0) ≡ t → not t ≡ true
    go true is = absurd (omega (arith, eqb-true w 0 is, more))
    go false is = refl

-- the balance is far from the end of its type
balance_small : (a : ℕ) (b : Bool) (views : List Figures) → AreBalanced a b views → a < 2 ^ 64
balance_small a b views kept = let bounded = bounds views kept.sound in let sums = kept.sums in
    let parts = kept.parts in omega arith

balanced_leave : (a : ℕ) (b : Bool) (id : ℕ) (v : Figures) (views : List Figures) → AreBalanced a b views
    → get_elem? views id ≡ some v → AreBalanced a b (slice_set views id (leaving v a))
balanced_leave a b id v views kept at = go (a == 4611686018427387904) refl
  where
    go : (t : Bool) → (a == 4611686018427387904) ≡ t
        → AreBalanced a b (slice_set views id (cond t (quieting v) (staying v)))
    go true is =
        figures_quiet a b id v views kept at (BalanceSeen true ∷ v.steps)
        (let null : a ≡ 4611686018427387904 = grind (arith, nat_tests) in null)
    go false is = figures_noted a b id v views kept at (BalanceSeen false ∷ v.steps)

balanced_look : (a w id : ℕ) (v : Figures) (views : List Figures) → AreBalanced a (is_set w) views
    → get_elem? views id ≡ some v → 0 < v.parts → AreBalanced a (is_set w) (slice_set views id (looking v w))
balanced_look a w id v views kept at part = go (w == 0) refl
  where
    go : (t : Bool) → (w == 0) ≡ t → AreBalanced a (is_set w) (slice_set views id (cond t (finding_none v) (finding v)))
    go true is = figures_noted a (is_set w) id v views kept at (FlagSeen false ∷ v.steps)
    go false is = figures_find a (is_set w) id v views kept at part (ap not is)

wraps : (a k x : ℕ) → x ≡ a → k ≤ a → a < 2 ^ 64 → (x + (2 ^ 64 - k)) % 2 ^ 64 ≡ a - k
wraps a k x e le lt = omega arith

-- ---- steps

module _ (slots id : ℕ) (v : Figures) (held : List (ℕ × Unit {0})) where
  pub owes : (k : ℕ) → 0 < v.parts → v.quiets ≡ 0 → v.owed + k ≤ total_bound
      → Allows AreWords slots id (v, held) 0 (λ x. (x + k) % 2 ^ 64) (λ found me. me ≡ (owing v k, held))
  owes k part live few s kept homes at fits =
      let r =
      figures_owe kept.balance (is_set kept.flag) id v s.views kept.balanced at k (Owed k ∷ v.steps) part live few in
      let word : slice_index s.words 0 ≡ kept.balance = ap (λ l. slice_index l 0) kept.words in
      let after : (slice_index s.words 0 + k) % 2 ^ 64 ≡ kept.balance + k = (let l = r.0 in omega arith) in (
        owing v k,
        keeps,
        tt,
        record {
          balance = kept.balance + k;
          flag = kept.flag;
          words = ap (λ l. slice_set l 0 ((slice_index s.words 0 + k) % 2 ^ 64)) kept.words
              ∙ ap (λ x. x ∷ kept.flag ∷ []) after;
          balanced = r.1;
        },
        refl,
      )

  pub clears : (k : ℕ) → 0 < v.parts → v.quiets ≡ 0 → v.cleared + k ≤ total_bound
      → Allows AreWords slots id (v, held) 0 (λ x. (x + (2 ^ 64 - k)) % 2 ^ 64) (λ found me. me ≡ (clearing v k, held))
  clears k part live few s kept homes at fits =
      let r = figures_clear kept.balance (is_set kept.flag) id v s.views kept.balanced at k part live few in
      let small = balance_small kept.balance (is_set kept.flag) s.views kept.balanced in
      let word : slice_index s.words 0 ≡ kept.balance = ap (λ l. slice_index l 0) kept.words in
      let after : (slice_index s.words 0 + (2 ^ 64 - k)) % 2 ^ 64 ≡ kept.balance - k =
      wraps kept.balance k (slice_index s.words 0) word r.0 small in (
        clearing v k,
        keeps,
        tt,
        record {
          balance = kept.balance - k;
          flag = kept.flag;
          words = ap (λ l. slice_set l 0 ((slice_index s.words 0 + (2 ^ 64 - k)) % 2 ^ 64)) kept.words
              ∙ ap (λ x. x ∷ kept.flag ∷ []) after;
          balanced = r.1;
        },
        refl,
      )

  pub stops : 0 < v.parts → Allows AreWords slots id (v, held) 1 (λ x. bit_or x 1) (λ found me. me ≡ (setting v, held))
  stops part s kept homes at fits =
      let x = slice_index s.words 1 in let some_bit : 0 < bit_or x 1 = omega (arith, le_or_r x 1) in (
        setting v,
        keeps,
        tt,
        record {
          balance = kept.balance;
          flag = bit_or x 1;
          words = ap (λ l. slice_set l 1 (bit_or x 1)) kept.words;
          balanced =
              subst (λ b. AreBalanced kept.balance b (slice_set s.views id (setting v)))
              (sym (some_set (bit_or x 1) some_bit))
              (figures_stop kept.balance (is_set kept.flag) id v s.views kept.balanced at part);
        },
        refl,
      )

  pub looks : 0 < v.parts → Allows AreWords slots id (v, held) 1 (λ x. x)
      (λ found me. (me ≡ (looking v found, held)) × (0 < v.finds → 0 < found))
  looks part s kept homes at fits =
      let x = slice_index s.words 1 in
      let word : kept.flag ≡ x = sym (ap (λ l. slice_index l 1) kept.words) in
      let most = finds_le s.views id v at in (
        looking v x,
        keeps,
        tt,
        record {
          balance = kept.balance;
          flag = kept.flag;
          words = ap (λ l. slice_set l 1 (slice_index l 1)) kept.words;
          balanced = subst (λ y. AreBalanced kept.balance (is_set kept.flag) (slice_set s.views id (looking v y))) word
              (balanced_look kept.balance kept.flag id v s.views kept.balanced at part);
        },
        (
          refl,
          λ z. let set = set_some kept.flag (kept.balanced.found (omega (arith, most, z))) in
              omega (arith, word, set),
        ),
      )

  pub leaves : Allows AreWords slots id (v, held) 0 (λ x. x) (λ found me. me ≡ (leaving v found, held))
  leaves s kept homes at fits =
      let x = slice_index s.words 0 in
      let word : kept.balance ≡ x = sym (ap (λ l. slice_index l 0) kept.words) in (
        leaving v x,
        keeps,
        tt,
        record {
          balance = kept.balance;
          flag = kept.flag;
          words = ap (λ l. slice_set l 0 (slice_index l 0)) kept.words;
          balanced = subst (λ y. AreBalanced kept.balance (is_set kept.flag) (slice_set s.views id (leaving v y))) word
              (balanced_leave kept.balance (is_set kept.flag) id v s.views kept.balanced at);
        },
        refl,
      )

  -- who has all parts knows the whole
  pub concludes : v.parts ≡ 64
      → Allows AreWords slots id (v, held) 0 (λ x. x)
      (λ found me. (me ≡ (v, held)) × (v.quiets ≡ v.parts → v.owed ≡ v.cleared) × (0 < v.finds → 0 < v.calls))
  concludes whole s kept homes at fits = (
    v,
    keeps,
    tt,
    record {
      balance = kept.balance;
      flag = kept.flag;
      words = ap (λ l. slice_set l 0 (slice_index l 0)) kept.words;
      balanced = figures_kept kept.balance (is_set kept.flag) id v s.views kept.balanced at;
    },
    (
      refl,
      (λ q. settled kept.balance (is_set kept.flag) id v s.views kept.balanced at whole q),
      λ z. called kept.balance (is_set kept.flag) id v s.views kept.balanced at whole z,
    ),
  )

-- ---- shares are cut off and put together

pub cuts : (id : ℕ) (v : Figures) → 1 < v.parts → 0 < v.owed → v.owed ≤ 64 → v.cleared ≡ 0 → v.quiets ≡ 0 → v.calls ≡ 0
    → v.finds ≡ 0 → Splits AreWords id v (fewer v) fresh
cuts id v part owes few cleared quiets calls finds s kept at = record {
  balance = kept.balance;
  flag = kept.flag;
  words = kept.words;
  balanced =
      figures_fork kept.balance (is_set kept.flag) id v s.views kept.balanced at part owes few cleared quiets calls
      finds;
}

pub joins : (id : ℕ) (v : Figures) (other : ℕ) (w : Figures) → Joins AreWords id v other w (together v w) none
joins id v other w s kept at apart there = record {
  balance = kept.balance;
  flag = kept.flag;
  words = kept.words;
  balanced = figures_merge kept.balance (is_set kept.flag) id v s.views kept.balanced at other w apart there;
}

-- the words of a new book
pub opens : (owners balance : ℕ) → owners ≤ most_parts → balance ≡ 2 ^ 62 + owners
    → AreWords (opening (balance ∷ 0 ∷ []) [] (figures 64 owners 0 0 0 0 []))
opens owners balance few is = grind arith
