-- Lists of jumps: how they grow, and which part of them is of the points of a run.
use Rattle.std.proofs.Common.{◌≡◌, ◌≢◌, ◌⊎◌, ◌↔◌, ℕ, ◌+◌, ◌-◌, ◌<◌, ◌≤◌, Bool, true, List, [], ◌∷◌, ◌++◌, Contains, length, get_or, drop, slice_range, refl, sym, ap, ◌∙◌, subst, inl, inr, ⊎_elim, arith, zero, suc, length-append, length-take, length-drop, get_or-take, get_or-drop}
use Rattle.std.proofs.lemmas.Bool.{cases_lt, cases_eq}
use Rattle.std.proofs.lemmas.List.{get_or_append_left, get_or_at, get_or_default}
use Rattle.nll_problem.specs.Graph.{Graph, IsNext, IsReturn}
use Rattle.nll_core.specs.Lines.{IsJump, StandsIn, AreJumps, Pushes}

-- ---- what a list gets

-- nothing
pub pushes_none : (kind : ℕ → Type 0) (list : List ℕ) → ((t : ℕ) → kind t → ⊥) → Pushes kind list list
pushes_none kind list none = grind arith

-- the same by another name
pub pushes_same : (kind other : ℕ → Type 0) (old new : List ℕ) → ((t : ℕ) → other t ↔ kind t) → Pushes kind old new
    → Pushes other old new
pushes_same kind other old new same p = grind arith

-- one more
pub pushes_more : (kind larger : ℕ → Type 0) (old now : List ℕ) (x : ℕ) → ((t : ℕ) → larger t ↔ (kind t ⊎ (t ≡ x)))
    → Pushes kind old now → Pushes larger old (now ++ x ∷ [])
pushes_more kind larger old now x grown p =
    let len : length (now ++ x ∷ []) ≡ length now + 1 = length-append now (x ∷ []) in
    let last : get_or (now ++ x ∷ []) (length now) 0 ≡ x = get_or_at now x [] 0 (length now) refl in
    record {
      longer = omega (arith, len, p.longer);
      front = λ k h. get_or_append_left now (x ∷ []) 0 k (omega (arith, h, p.longer)) ∙ p.front k h;
      each = λ t. (
        λ h. ⊎_elim
            (λ before. let s = (p.each t).0 before in
            (s.0, s.1, omega (arith, s.2, len), get_or_append_left now (x ∷ []) 0 s.0 s.2 ∙ s.3))
            (λ same. (length now, p.longer, omega (arith, len), last ∙ sym same))
            ((grown t).0 h),
        λ (k, l, m, is). (grown t).1 (⊎_elim
            (λ here. inr (sym is ∙ (ap (λ i. get_or (now ++ x ∷ []) i 0) here ∙ last)))
            (λ other. let within : k < length now = omega (arith, m, len, other) in
            inl ((p.each t).1 (k, l, within, sym (get_or_append_left now (x ∷ []) 0 k within) ∙ is)))
            (cases_eq k (length now))),
      );
    }

-- ---- the successors of a point, one after another

-- the targets of the first `count` successors but one
abbrev pub AmongFirst : List ℕ → ℕ → ℕ → ℕ → Type 0
AmongFirst list skipped count t = ((k : ℕ) × (k < count) × (get_or list k 0 ≡ t)) × (t ≢ skipped)

pub among_first_none : (list : List ℕ) (skipped t : ℕ) → AmongFirst list skipped 0 t → ⊥
among_first_none list skipped t ((k, l, is), other) = omega (arith, l)

pub among_first_more : (list : List ℕ) (skipped count x : ℕ) → get_or list count 0 ≡ x → x ≢ skipped → (t : ℕ)
    → AmongFirst list skipped (count + 1) t ↔ (AmongFirst list skipped count t ⊎ (t ≡ x))
among_first_more list skipped count x here other t = (
  λ ((k, l, is), apart). ⊎_elim (λ same. inr (sym is ∙ (ap (λ i. get_or list i 0) same ∙ here)))
      (λ before. inl ((k, omega (arith, l, before), is), apart)) (cases_eq k count),
  ⊎_elim (λ ((k, l, is), apart). ((k, omega (arith, l), is), apart))
      (λ same. ((count, omega arith, here ∙ sym same), λ e. other (sym same ∙ e))),
)

pub among_first_skip : (list : List ℕ) (skipped count : ℕ) → get_or list count 0 ≡ skipped → (t : ℕ)
    → AmongFirst list skipped (count + 1) t ↔ AmongFirst list skipped count t
among_first_skip list skipped count here t = (
  λ ((k, l, is), apart). ⊎_elim (λ same. absurd (apart (sym is ∙ (ap (λ i. get_or list i 0) same ∙ here))))
      (λ before. ((k, omega (arith, l, before), is), apart)) (cases_eq k count),
  λ ((k, l, is), apart). ((k, omega (arith, l), is), apart),
)

pub among_all : (list : List ℕ) (skipped count : ℕ) → length list ≤ count → count ≤ length list → (t : ℕ)
    → (Contains list t × (t ≢ skipped)) ↔ AmongFirst list skipped count t
among_all list skipped count all within t = grind (arith, get_or_default)

-- whether a number is among the first `count` of the list
abbrev pub IsAmongFirst : List ℕ → ℕ → ℕ → Type 0
IsAmongFirst list count t = (k : ℕ) × (k < count) × (get_or list k 0 ≡ t)

pub is_among_all : (list : List ℕ) (count t : ℕ) → length list ≤ count → count ≤ length list
    → IsAmongFirst list count t ↔ Contains list t
is_among_all list count t all within = grind (arith, get_or_default)

pub is_among_here : (list : List ℕ) (count t : ℕ) → get_or list count 0 ≡ t
    → (true ≡ true) ↔ IsAmongFirst list (count + 1) t
is_among_here list count t is = (λ h. (count, omega arith, is), λ h. refl)

pub is_among_other : (list : List ℕ) (count t : ℕ) (some : Bool) → get_or list count 0 ≢ t
    → (some ≡ true) ↔ IsAmongFirst list count t → (some ≡ true) ↔ IsAmongFirst list (count + 1) t
is_among_other list count t some apart before = grind (arith, get_or, cases_eq)

-- ---- the jumps of points, one point after another

pub jumps_first : (g : Graph) → AreJumps g 0 (0 ∷ []) []
jumps_first g = grind (arith, get_or)

module _ (g : Graph) (count : ℕ) (starts targets more : List ℕ) (j : AreJumps g count starts targets)
    (p : Pushes (IsJump g count) targets more) where
  abbrev ends : List ℕ
  ends = starts ++ length more ∷ []

  before : (i : ℕ) → i ≤ count → get_or ends i 0 ≡ get_or starts i 0
  before i h = get_or_append_left starts (length more ∷ []) 0 i (omega (arith, h, j.sized))

  at_end : (i : ℕ) → i ≡ count + 1 → get_or ends i 0 ≡ length more
  at_end i h = get_or_at starts (length more) [] 0 i (omega (arith, h, j.sized))

  start_below : (i : ℕ) → i ≤ count → get_or starts i 0 ≤ length targets
  start_below i h = omega (arith, j.ordered i count h (omega arith), j.last)

  -- what stands in the part before stays
  stays : (from to t : ℕ) → to ≤ length targets → StandsIn targets from to t ↔ StandsIn more from to t
  stays from to t within = grind arith

  moved : (x t a b : ℕ) → a ≡ get_or ends x 0 → b ≡ get_or ends (x + 1) 0
      → StandsIn more a b t ↔ StandsIn more (get_or ends x 0) (get_or ends (x + 1) 0) t
  moved x t a b e f = grind arith

  pub jumps_more : AreJumps g (count + 1) ends more
  jumps_more = record {
    sized = omega (arith, length-append starts (length more ∷ []), j.sized);
    ordered = grind (arith, at_end, before, start_below, cases_eq);
    last = at_end (count + 1) refl;
    each = λ x t h. ⊎_elim
        (λ own.
        let a : length targets ≡ get_or ends x 0 =
        sym (before x (omega (arith, own)) ∙ (ap (λ i. get_or starts i 0) own ∙ j.last)) in
        let b : length more ≡ get_or ends (x + 1) 0 = sym (at_end (x + 1) (omega (arith, own))) in
        let same = moved x t (length targets) (length more) a b in (
          λ jump. same.0 ((p.each t).0 (subst (λ y. IsJump g y t) own jump)),
          λ s. subst (λ y. IsJump g y t) (sym own) ((p.each t).1 (same.1 s)),
        ))
        (λ other.
        let within : x < count = omega (arith, h, other) in
        let a = sym (before x (omega (arith, within))) in
        let b = sym (before (x + 1) (omega (arith, within))) in
        let same = moved x t (get_or starts x 0) (get_or starts (x + 1) 0) a b in
        let kept =
        stays (get_or starts x 0) (get_or starts (x + 1) 0) t (start_below (x + 1) (omega (arith, within))) in
        (λ jump. same.0 (kept.0 ((j.each x t within).0 jump)), λ s. (j.each x t within).1 (kept.1 (same.1 s))))
        (cases_eq x count);
  }

-- ---- the part of a run

module _ (g : Graph) (count : ℕ) (starts targets : List ℕ) (j : AreJumps g count starts targets) where
  pub starts_within : (i : ℕ) → i ≤ count → get_or starts i 0 ≤ length targets
  starts_within i h = omega (arith, j.ordered i count h (omega arith), j.last)

  -- whose jump stands at a place
  owner : (first n k : ℕ) → get_or starts first 0 ≤ k → k < get_or starts (first + n) 0
      → (x : ℕ) × (first ≤ x) × (x < first + n) × (get_or starts x 0 ≤ k) × (k < get_or starts (x + 1) 0)
  owner first zero k low high = let same : first + zero ≡ first = omega arith in
      absurd (omega (arith, low, high, ap (λ i. get_or starts i 0) same))
  owner first (suc n) k low high = ⊎_elim
      (λ before. let w = owner first n k low before in (w.0, w.1, omega (arith, w.2), w.3, w.4))
      (λ past. let same : first + suc n ≡ first + n + 1 = omega arith in (
        first + n,
        omega arith,
        omega arith,
        omega (arith, past),
        omega (arith, high, ap (λ i. get_or starts i 0) same),
      ))
      (cases_lt k (get_or starts (first + n) 0))

  module _ (first last from to : ℕ) (proper : first ≤ last) (point : last < count)
      (from_is : from ≡ get_or starts first 0) (to_is : to ≡ get_or starts (last + 1) 0) where
    pub part_ordered : from ≤ to
    part_ordered =
        omega (arith, from_is, to_is, j.ordered first (last + 1) (omega (arith, proper)) (omega (arith, point)))

    pub part_within : to ≤ length targets
    part_within = omega (arith, to_is, starts_within (last + 1) (omega (arith, point)))

    part_length : length (slice_range targets from to) ≡ to - from
    part_length =
        omega (arith, length-take (to - from) (drop from targets), length-drop from targets, part_within, part_ordered)

    part_at : (k d : ℕ) → k < to - from → get_or (slice_range targets from to) k d ≡ get_or targets (from + k) d
    part_at k d h = get_or-take (to - from) (drop from targets) k d h ∙ get_or-drop from targets k d

    pub part_jumps : (t : ℕ) → Contains (slice_range targets from to) t
        ↔ ((x : ℕ) × ((first ≤ x) × (x ≤ last)) × IsJump g x t)
    part_jumps t = (
      λ (k, l, is).
          let within : k < to - from = omega (arith, l, part_length) in
          let n : ℕ = last + 1 - first in
          let end : first + n ≡ last + 1 = omega (arith, proper) in
          let w = owner first n (from + k) (omega (arith, from_is))
          (omega (arith, within, to_is, ap (λ i. get_or starts i 0) end)) in
          let here : get_or targets (from + k) 0 ≡ t =
          get_or_default targets (from + k) 0 t (omega (arith, within, part_within))
          ∙ (sym (part_at k t within) ∙ is) in (
            w.0,
            (w.1, omega (arith, w.2, end)),
            (j.each w.0 t (omega (arith, w.2, end, point))).1 (from + k, w.3, w.4, here),
          ),
      λ (x, (low, high), jump).
          let s = (j.each x t (omega (arith, high, point))).0 jump in
          let above : from ≤ s.0 = omega (arith, from_is, s.1, j.ordered first x low (omega (arith, high, point))) in
          let below : s.0 < to =
          omega (arith, to_is, s.2, j.ordered (x + 1) (last + 1) (omega (arith, high)) (omega (arith, point))) in
          let k : ℕ = s.0 - from in
          let at : from + k ≡ s.0 = omega (arith, above) in
          let within : k < to - from = omega (arith, at, below) in
          let in_list : s.0 < length targets = omega (arith, below, part_within) in (
            k,
            omega (arith, within, part_length),
            part_at k t within
                ∙ (ap (λ i. get_or targets i t) at ∙ (get_or_default targets s.0 t 0 in_list ∙ s.3)),
          ),
    )

-- ---- the jumps of one point

module _ (g : Graph) (p : ℕ) (next : List ℕ) (each : (q : ℕ) → Contains next q ↔ IsNext g p q) where
  -- where no step leads back from the point, they are its successors but one
  pub jumps_others : (old new : List ℕ) → (IsReturn g p → ⊥) → Pushes (λ t. Contains next t × (t ≢ p + 1)) old new
      → Pushes (IsJump g p) old new
  jumps_others old new none = pushes_same _ (IsJump g p) old new (λ t. (
    ⊎_elim (λ (step, other). ((each t).1 step, other)) (λ back. absurd (none back.0)),
    λ (listed, other). inl ((each t).0 listed, other),
  ))

  -- else the ends too
  pub jumps_return : (old now : List ℕ) (points : ℕ) → points ≡ g.points → IsReturn g p
      → Pushes (λ t. Contains next t × (t ≢ p + 1)) old now → Pushes (IsJump g p) old (now ++ points ∷ [])
  jumps_return old now points is returns = pushes_more _ (IsJump g p) old now points (λ t. (
    ⊎_elim (λ (step, other). inl ((each t).1 step, other)) (λ back. inr (back.1 ∙ sym is)),
    ⊎_elim (λ (listed, other). inl ((each t).0 listed, other)) (λ same. inr (returns, same ∙ is)),
  ))
