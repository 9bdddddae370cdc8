-- The jumps of a graph, gathered point by point.
use Rattle.std.proofs.Common.{◌≡◌, ◌⊎◌, ◌↔◌, ℕ, ◌+◌, ◌<◌, ◌≤◌, ◌-◌, List, [], ◌∷◌, ◌++◌, AllPairs, Contains, length, length-take, length-drop, get_or, get_or-take, get_or-drop, slice_index, drop, slice_range, sym, ap, ◌∙◌, subst, inl, inr, ⊎_elim, arith, zero, suc}
use Rattle.std.proofs.lemmas.Bool.{cases_eq, cases_lt}
use Rattle.std.proofs.Math.Seq.{get_or-append_seam}
use Rattle.std.proofs.lemmas.List.{get_or_append_left, get_or_default}
use Rattle.std.proofs.lemmas.List.Elements.{Contains-append_left, Contains-append_right, Contains-append_cases}
use Rattle.nll_problem.specs.Graph.{Graph, IsSound}
use Rattle.nll_problem.proofs.IndexLemmas.{keys_rise}
use Rattle.nll_core.specs.Lines.{IsJump, IsLandingStart, StandsIn}
use Rattle.nll_core.specs.declared.frontiers.landings.Landing.{Landing}

-- of a list of one element that element is all
single : {X : Type 0} (y x : X) → Contains (y ∷ []) x → y ≡ x
single y x (zero, l, is) = is
single y x (suc k, l, is) = absurd (omega (arith, l))

-- ---- the jumps of one point

-- The list got the jumps of the point to the first `count` targets.
pub record Landed (point : ℕ) (targets : List ℕ) (before now : List Landing) (count : ℕ) : Type 0 where
  pub each : (l : Landing) → Contains now l ↔ (Contains before l ⊎ ((l.from ≡ point) × StandsIn targets 0 count l.to))

pub landed_first : (point : ℕ) (targets : List ℕ) (before : List Landing) → Landed point targets before before 0
landed_first point targets before =
    record { each = λ l. (inl, λ h. ⊎_elim (λ o. o) (λ (of, (k, low, high, at)). absurd (omega (arith, high))) h) }

pub landed_more : (point : ℕ) (targets : List ℕ) (before now : List Landing) (count t : ℕ) → t ≡ get_or targets count 0
    → Landed point targets before now count
    → Landed point targets before (now ++ (record { to = t; from = point }) ∷ []) (count + 1)
landed_more point targets before now count t is p = record { each = λ l. (forth l, back l) }
  where
    new : Landing
    new = record { to = t; from = point }

    forth : (l : Landing) → Contains (now ++ new ∷ []) l
        → Contains before l ⊎ ((l.from ≡ point) × StandsIn targets 0 (count + 1) l.to)
    forth l h = ⊎_elim
        (λ o. ⊎_elim inl (λ (of, (k, low, high, at)). inr (of, (k, omega arith, omega (arith, high), at)))
        ((p.each l).0 o))
        (λ o. let same = single new l o in inr (
          sym (ap (λ (m : Landing). m.from) same),
          (count, omega arith, omega arith, sym is ∙ ap (λ (m : Landing). m.to) same),
        ))
        (Contains-append_cases now (new ∷ []) l h)

    back : (l : Landing) → Contains before l ⊎ ((l.from ≡ point) × StandsIn targets 0 (count + 1) l.to)
        → Contains (now ++ new ∷ []) l
    back l (inl o) = Contains-append_left now (new ∷ []) l ((p.each l).1 (inl o))
    back l (inr (of, (k, low, high, at))) = ⊎_elim
        (λ here.
        let to : t ≡ l.to = is ∙ ap (λ i. get_or targets i 0) (sym here) ∙ at in
        let same : ◌≡◌ {A = Landing} new l = landing_same t l.to point l.from to (sym of) in
        Contains-append_right now (new ∷ []) l (0, omega arith, same))
        (λ other. Contains-append_left now (new ∷ []) l
        ((p.each l).1 (inr (of, (k, low, omega (arith, high, other), at)))))
        (cases_eq k count)
      where
        landing_same : (a b c d : ℕ) → a ≡ b → c ≡ d
            → ◌≡◌ {A = Landing} (record { to = a; from = c }) (record { to = b; from = d })
        landing_same a b c d e f = cc

-- where the targets are those of all jumps from the point, the list got just these
pub landed_end : (g : Graph) (point : ℕ) (targets : List ℕ) (before now : List Landing) (count : ℕ)
    → count ≡ length targets
    → ((t : ℕ) → Contains targets t ↔ ((x : ℕ) × ((point ≤ x) × (x ≤ point)) × IsJump g x t))
    → Landed point targets before now count
    → (l : Landing) → Contains now l ↔ (Contains before l ⊎ (IsJump g l.from l.to × (l.from ≡ point)))
landed_end g point targets before now count count_is jumps p l = (
  λ h. ⊎_elim inl (λ (of, (k, low, high, at)).
      let within : k < length targets = omega (arith, high, count_is) in
      let from = (jumps l.to).0 (k, within, get_or_default targets k l.to 0 within ∙ at) in
      let same : from.0 ≡ l.from = omega (arith, from.1.0, from.1.1, of) in
      inr (subst (λ x. IsJump g x l.to) same from.2, of)) ((p.each l).0 h),
  λ h. ⊎_elim (λ o. (p.each l).1 (inl o)) (λ own.
      let at = (jumps l.to).1 (l.from, (omega (arith, own.1), omega (arith, own.1)), own.0) in
      (p.each l).1 (inr (
        own.1,
        (
          at.0,
          omega arith,
          omega (arith, at.1, count_is),
          sym (get_or_default targets at.0 l.to 0 at.1) ∙ at.2,
        ),
      ))) h,
)

-- ---- the jumps of all points

-- the list has the jumps of the points before `count`
abbrev pub AreLandingsTo : Graph → ℕ → List Landing → Type 0
AreLandingsTo g count list = (l : Landing) → Contains list l ↔ (IsJump g l.from l.to × (l.from < count))

pub landings_none : (g : Graph) → AreLandingsTo g 0 []
landings_none g l = (λ (k, within, is). absurd (omega (arith, within)), λ h. absurd (omega (arith, h.1)))

pub landings_more : (g : Graph) (count : ℕ) (before now : List Landing) → AreLandingsTo g count before
    → ((l : Landing) → Contains now l ↔ (Contains before l ⊎ (IsJump g l.from l.to × (l.from ≡ count))))
    → AreLandingsTo g (count + 1) now
landings_more g count before now all more l = (
  λ h. ⊎_elim (λ o. let own = (all l).0 o in (own.0, omega (arith, own.1))) (λ own. (own.0, omega (arith, own.1)))
      ((more l).0 h),
  λ h. (more l).1 (⊎_elim (λ here. inr (h.0, here)) (λ other. inl ((all l).1 (h.0, omega (arith, h.1, other))))
      (cases_eq l.from count)),
)

pub landings_all : (g : Graph) → IsSound g → (count : ℕ) (list : List Landing) → count ≡ g.points
    → AreLandingsTo g count list → (l : Landing) → Contains list l ↔ IsJump g l.from l.to
landings_all g sound count list is all l =
    (λ h. ((all l).0 h).0, λ jump. (all l).1 (jump, omega (arith, is, jumps_within l.from l.to jump)))
  where
    jumps_within : (x t : ℕ) → IsJump g x t → x < g.points
    jumps_within x t (inl next) = (sound.edges_in_range x t next.0).0
    jumps_within x t (inr back) = sound.returns_in_range x back.0

-- ---- those between two numbers

module _ (list : List Landing) (a b from to : ℕ) (proper : a ≤ b) (start : IsLandingStart list a from)
    (end : IsLandingStart list (b + 1) to) where
  pub part_rises : from ≤ to
  part_rises = ⊎_elim
      (λ turned. let none : Landing = record { to = 0; from = 0 } in
      absurd (omega (
        arith,
        proper,
        start.bound,
        turned,
        start.below to none turned,
        end.others to none (omega arith) (omega (arith, turned, start.bound)),
      )))
      (λ rise. rise)
      (cases_lt to from)

  length_part : length (slice_range list from to) ≡ to - from
  length_part = let n = length-take (to - from) (drop from list) in let m = length-drop from list in
      omega (arith, end.bound)

  at_part : (k : ℕ) (d : Landing) → k < to - from → get_or (slice_range list from to) k d ≡ get_or list (from + k) d
  at_part k d lt = get_or-take (to - from) (drop from list) k d lt ∙ get_or-drop from list k d

  between : (k : ℕ) (d : Landing) → from ≤ k → k < to → (a ≤ (get_or list k d).to) × ((get_or list k d).to ≤ b)
  between k d low high =
      (start.others k d low (omega (arith, high, end.bound)), (let below = end.below k d high in omega (arith, below)))

  pub part_has : (l : Landing) → Contains (slice_range list from to) l ↔ (Contains list l × (a ≤ l.to) × (l.to ≤ b))
  part_has l = grind (arith, length_part, at_part, between, there)
    where
      there : (k : ℕ) → k < length list → get_or list k l ≡ l → a ≤ l.to → l.to ≤ b
          → Contains (slice_range list from to) l
      there k within is low high =
          let at = ap (λ (m : Landing). m.to) is in
          let past : from ≤ k =
          ⊎_elim (λ lt. absurd (omega (arith, start.below k l lt, at, low))) (λ le. le) (cases_lt k from) in
          let before : k < to =
          ⊎_elim (λ lt. lt) (λ le. absurd (omega (arith, end.others k l le within, at, high))) (cases_lt k to) in
          let moved : from + (k - from) ≡ k = omega (arith, past) in (
            k - from,
            omega (arith, past, before, length_part),
            at_part (k - from) l (omega (arith, past, before))
                ∙ (ap (λ n. get_or list n l) moved ∙ is),
          )

-- ---- where those at a number start

-- nothing is below 0
pub nothing_below : {P : Type 0} (k : ℕ) → k < 0 → P
nothing_below k less = absurd (omega (arith, less))

pub below_higher : (a b : ℕ) → a < b → a < b + 1
below_higher a b less = omega (arith, less)

pub next_within : (a b : ℕ) → a < b → a + 1 ≤ b
next_within a b less = omega (arith, less)

-- a landing more leads below the number
pub below_next : (list : List Landing) (number place : ℕ) (e : Landing)
    → ((k : ℕ) (d : Landing) → k < place → (get_or list k d).to < number)
    → place < length list → (get_or list place e).to < number
    → (k : ℕ) (d : Landing) → k < place + 1 → (get_or list k d).to < number
below_next list number place e below within low k d less = grind (arith, get_or, get_or_default, cases_eq)

-- where all landings lead below a number, those at it start behind them
pub start_behind : (list : List Landing) (number place : ℕ)
    → ((k : ℕ) (d : Landing) → k < place → (get_or list k d).to < number)
    → place ≤ length list → length list ≤ place → IsLandingStart list number place
start_behind list number place below within end = grind arith

-- one number more
pub starts_more : (list : List Landing) (starts : List ℕ) (number place : ℕ) → length starts ≡ number
    → ((t : ℕ) → t < number → IsLandingStart list t (slice_index starts t)) → IsLandingStart list number place
    → (t : ℕ) → t < number + 1 → IsLandingStart list t (slice_index (starts ++ place ∷ []) t)
starts_more list starts number place sized each here t less = ⊎_elim
    (λ same. let at : length starts ≡ t = sized ∙ sym same in
    let is : get_or (starts ++ place ∷ []) t 0 ≡ place =
    subst (λ (n : ℕ). get_or (starts ++ place ∷ []) n 0 ≡ place) at (get_or-append_seam starts place [] 0) in
    subst (λ (n : ℕ). IsLandingStart list n (get_or (starts ++ place ∷ []) t 0)) (sym same)
    (subst (λ (n : ℕ). IsLandingStart list number n) (sym is) here))
    (λ other. let low : t < number = omega (arith, less, other) in
    subst (λ (n : ℕ). IsLandingStart list t n)
    (sym (get_or_append_left starts (place ∷ []) 0 t (omega (arith, low, sized)))) (each t low))
    (cases_eq t number)

-- where the landing at a place doesn't lead below a number, none behind it does
pub start_here : (list : List Landing) (number place : ℕ) (e : Landing) → AllPairs (λ (l m : Landing). l.to ≤ m.to) list
    → ((k : ℕ) (d : Landing) → k < place → (get_or list k d).to < number)
    → place < length list → number ≤ (get_or list place e).to → IsLandingStart list number place
start_here list number place e up below within high = record {
  bound = omega (arith, within);
  below = below;
  others =
      λ k d low inside. omega (
        arith,
        high,
        ap (λ (l : Landing). l.to) (get_or_default list place d e within),
        keys_rise (λ (l : Landing). l.to) (λ (l m : Landing). l.to ≤ m.to) (λ x y h. h) list up place k d low inside,
      );
}
