-- The references on which a reborrow rests, one projection after another.
use Rattle.std.proofs.Common.{◌≡◌, ℕ, zero, suc, ◌+◌, ◌<◌, ◌≤◌, Bool, true, false, List, [], ◌∷◌, ◌++◌, length, take, drop, get_or, refl, sym, ap, ◌∙◌, subst, arith, ⊎_elim, inl, inr, ◌↔◌, ◌⊎◌, Contains, Option, Some, None}
use Rattle.std.specs.Prelude.{slice_get, option_map, option_and_then, unwrap_or}
use Rattle.std.proofs.Math.Seq.{drop-cons}
use Rattle.std.proofs.Math.ListN.{drop_of_length-le}
use Rattle.std.proofs.lemmas.List.Elements.{Contains-push, Contains-push_cases, Contains-append_left}
use Rattle.nll_types.specs.Types.{TypeTree, int, parameter, reference, tuple, named, function}
use Rattle.nll_types.specs.Structs.{Struct}
use Rattle.nll_types.specs.Places.{PlacePath, behind, behind_all, type_of}
use Rattle.nll_types.specs.declared.place.Projection.{Projection}
use Rattle.nll_types.specs.declared.place.Projection.TheVariants.{Deref, Field}
use Rattle.nll_rules.specs.Reborrows.{RestsOn}
use Rattle.nll_rules.specs.Walks.{past, rests}

-- ---- from a type that may be there

-- behind the first n of the projections they go through a reference of the region a
abbrev Through : List Struct → List Projection → Option TypeTree → ℕ → ℕ → Bool → Type 0
Through structs ps o n a m =
    (slice_get ps n ≡ Some Deref) × (u : TypeTree)
    × (option_and_then (behind_all structs (take n ps)) o ≡ Some (reference a m u))

-- they go through `mut` references alone
abbrev AllOpen : List Struct → List Projection → Option TypeTree → Type 0
AllOpen structs ps o = (k b : ℕ) (q : Bool) → Through structs ps o k b q → q ≡ true

abbrev RestsFrom : List Struct → List Projection → Option TypeTree → ℕ → Type 0
RestsFrom structs ps o a =
    (n : ℕ) × (m : Bool) × Through structs ps o n a m
    × ((k b : ℕ) (q : Bool) → n < k → Through structs ps o k b q → q ≡ true)

-- the regions behind all projections, where there is a type
abbrev rests_of : List Struct → List Projection → Option TypeTree → List ℕ → List ℕ
rests_of structs ps o regions = unwrap_or (option_map (λ u. rests structs ps u regions) o) regions

no_type : (structs : List Struct) (ps : List Projection) (n a : ℕ) (m : Bool) → Through structs ps None n a m → ⊥
no_type structs ps n a m h = (let e = h.2 in cc)

no_projection : (structs : List Struct) (o : Option TypeTree) (n a : ℕ) (m : Bool) → Through structs [] o n a m → ⊥
no_projection structs o n a m h = (let e = h.0 in cc)

-- ---- the first projection

-- it goes through a reference of the region a
abbrev First : Projection → TypeTree → ℕ → Bool → Type 0
First p t a m = (p ≡ Deref) × (u : TypeTree) × (t ≡ reference a m u)

-- it goes through no shared reference
abbrev FirstOpen : Projection → TypeTree → Type 0
FirstOpen p t = (b : ℕ) (q : Bool) → First p t b q → q ≡ true

kept : (p : Projection) (t : TypeTree) (regions : List ℕ) (a : ℕ) → ((b : ℕ) (q : Bool) → First p t b q → ⊥)
    → Contains regions a ↔ (((m : Bool) × First p t a m) ⊎ (Contains regions a × FirstOpen p t))
kept p t regions a none = (λ c. inr (c, λ b q f. absurd (none b q f)), ⊎_elim (λ f. absurd (none a f.0 f.1)) (λ c. c.0))

past_is : (p : Projection) (t : TypeTree) (regions : List ℕ) (a : ℕ)
    → Contains (past p t regions) a ↔ (((m : Bool) × First p t a m) ⊎ (Contains regions a × FirstOpen p t))
past_is Deref (reference r true u) regions a = (
  λ c. ⊎_elim (λ d. inr (d, λ b q f. (let e = f.2 in cc)))
      (λ e. inl (true, (refl, u, ap (λ (z : ℕ). reference z true u) e))) (Contains-push_cases regions r a c),
  ⊎_elim (λ f. (let e : r ≡ a = (let d = f.1.2 in cc) in
      subst (λ (z : ℕ). Contains (regions ++ r ∷ []) z) e (Contains-push regions r)))
      (λ c. Contains-append_left regions (r ∷ []) a c.0),
)
past_is Deref (reference r false u) regions a = (
  λ c. inl (
    false,
    (
      refl,
      u,
      ap (λ (z : ℕ). reference z false u)
          (⊎_elim (λ d. absurd (let l = d.1 in omega arith)) (λ e. e) (Contains-push_cases [] r a c)),
    ),
  ),
  ⊎_elim (λ f. (let e : r ≡ a = (let d = f.1.2 in cc) in subst (λ (z : ℕ). Contains (r ∷ []) z) e (Contains-push [] r)))
      (λ c. absurd (let e : false ≡ true = c.1 r false (refl, u, refl) in cc)),
)
past_is Deref int regions a = kept Deref int regions a (λ b q f. (let e = f.2 in cc))
past_is Deref (parameter k) regions a = kept Deref (parameter k) regions a (λ b q f. (let e = f.2 in cc))
past_is Deref (tuple ts) regions a = kept Deref (tuple ts) regions a (λ b q f. (let e = f.2 in cc))
past_is Deref (named s rs ts) regions a = kept Deref (named s rs ts) regions a (λ b q f. (let e = f.2 in cc))
past_is Deref (function ts t) regions a = kept Deref (function ts t) regions a (λ b q f. (let e = f.2 in cc))
past_is (Field k) t regions a = kept (Field k) t regions a (λ b q f. (let e = f.0 in cc))

first_of : (structs : List Struct) (p : Projection) (ps : List Projection) (t : TypeTree) (a : ℕ) (m : Bool)
    → Through structs (p ∷ ps) (Some t) 0 a m → First p t a m
first_of structs p ps t a m h = (let e = h.0 in let d = h.2 in (cc, h.1, cc))

of_first : (structs : List Struct) (p : Projection) (ps : List Projection) (t : TypeTree) (a : ℕ) (m : Bool)
    → First p t a m → Through structs (p ∷ ps) (Some t) 0 a m
of_first structs p ps t a m h = (ap Some h.0, h.1, ap Some h.2)

-- ---- one projection and those behind it

open_is : (structs : List Struct) (p : Projection) (ps : List Projection) (t : TypeTree)
    → AllOpen structs (p ∷ ps) (Some t) ↔ (FirstOpen p t × AllOpen structs ps (behind structs p t))
open_is structs p ps t = (
  λ all. (λ b q f. all 0 b q (of_first structs p ps t b q f), λ k b q h. all (suc k) b q h),
  λ w. each w.0 w.1,
)
  where
    each : FirstOpen p t → AllOpen structs ps (behind structs p t) → (k b : ℕ) (q : Bool)
        → Through structs (p ∷ ps) (Some t) k b q → q ≡ true
    each f all zero b q h = f b q (first_of structs p ps t b q h)
    each f all (suc k) b q h = all k b q h

from_is : (structs : List Struct) (p : Projection) (ps : List Projection) (t : TypeTree) (a : ℕ)
    → RestsFrom structs (p ∷ ps) (Some t) a
    ↔ (RestsFrom structs ps (behind structs p t) a
    ⊎ (((m : Bool) × First p t a m) × AllOpen structs ps (behind structs p t)))
from_is structs p ps t a =
    (λ w. there w.0 w.1 w.2 w.3, ⊎_elim later (λ w. (0, w.0.0, of_first structs p ps t a w.0.0 w.0.1, open_behind w.1)))
  where
    there : (n : ℕ) (m : Bool) → Through structs (p ∷ ps) (Some t) n a m
        → ((k b : ℕ) (q : Bool) → n < k → Through structs (p ∷ ps) (Some t) k b q → q ≡ true)
        → RestsFrom structs ps (behind structs p t) a
        ⊎ (((m : Bool) × First p t a m) × AllOpen structs ps (behind structs p t))
    there zero m h all = inr ((m, first_of structs p ps t a m h), λ k b q g. all (suc k) b q (omega arith) g)
    there (suc n) m h all = inl (n, m, h, λ k b q l g. all (suc k) b q (omega arith) g)

    open_behind : AllOpen structs ps (behind structs p t) → (k b : ℕ) (q : Bool) → 0 < k
        → Through structs (p ∷ ps) (Some t) k b q → q ≡ true
    open_behind all zero b q l h = absurd (omega arith)
    open_behind all (suc k) b q l h = all k b q h

    after : (n : ℕ) → ((k b : ℕ) (q : Bool) → n < k → Through structs ps (behind structs p t) k b q → q ≡ true)
        → (k b : ℕ) (q : Bool) → suc n < k → Through structs (p ∷ ps) (Some t) k b q → q ≡ true
    after n all zero b q l h = absurd (omega arith)
    after n all (suc k) b q l h = all k b q (omega arith) h

    later : RestsFrom structs ps (behind structs p t) a → RestsFrom structs (p ∷ ps) (Some t) a
    later w = (suc w.0, w.1, w.2, after w.0 w.3)

-- ---- all projections

of_option : (structs : List Struct) (ps : List Projection) (o : Option TypeTree) (regions : List ℕ) (a : ℕ)
    → ((t : TypeTree) → Contains (rests structs ps t regions) a
    ↔ (RestsFrom structs ps (Some t) a ⊎ (Contains regions a × AllOpen structs ps (Some t))))
    → Contains (rests_of structs ps o regions) a
    ↔ (RestsFrom structs ps o a ⊎ (Contains regions a × AllOpen structs ps o))
of_option structs ps None regions a each = grind (arith, no_type)
of_option structs ps (Some t) regions a each = each t

join : {L R F O C G N : Type 0} → L ↔ (R ⊎ (C × O)) → C ↔ (F ⊎ (N × G)) → L ↔ ((R ⊎ (F × O)) ⊎ (N × (G × O)))
join u v = grind arith

rests_is : (structs : List Struct) (ps : List Projection) (t : TypeTree) (regions : List ℕ) (a : ℕ)
    → Contains (rests structs ps t regions) a
    ↔ (RestsFrom structs ps (Some t) a ⊎ (Contains regions a × AllOpen structs ps (Some t)))
rests_is structs [] t regions a = grind (arith, no_projection)
rests_is structs (p ∷ ps) t regions a =
    let behind_is =
    of_option structs ps (behind structs p t) (past p t regions) a
    (λ u. rests_is structs ps u (past p t regions) a) in
    let both = join behind_is (past_is p t regions a) in
    let from = from_is structs p ps t a in
    let opens = open_is structs p ps t in (
      λ c. ⊎_elim (λ w. inl (from.1 w)) (λ n. inr (n.0, opens.1 n.1)) (both.0 c),
      ⊎_elim (λ w. both.1 (inl (from.0 w))) (λ n. both.1 (inr (n.0, opens.0 n.1))),
    )

-- what is found from the variable is what a reborrow of the place rests on
pub rests_on_is : (structs : List Struct) (variables : List TypeTree) (p : PlacePath) (a : ℕ)
    → Contains (unwrap_or (option_map (λ u. rests structs p.projections u []) (slice_get variables p.variable)) []) a
    ↔ RestsOn structs variables p a
rests_on_is structs variables p a =
    let w = of_option structs p.projections (slice_get variables p.variable) [] a
    (λ t. rests_is structs p.projections t [] a) in
    (λ c. ⊎_elim (λ r. r) (λ n. absurd (let l = n.0.1 in omega arith)) (w.0 c), λ r. w.1 (inl r))

-- ---- one step of the walk

step : (structs : List Struct) (ps : List Projection) (n : ℕ) (d p : Projection) (t : TypeTree) (regions : List ℕ)
    → n < length ps → get_or ps n d ≡ p
    → rests structs (drop n ps) t regions
    ≡ unwrap_or (option_map (λ u. rests structs (drop (n + 1) ps) u (past p t regions)) (behind structs p t))
    (past p t regions)
step structs ps n d p t regions l is = grind (arith, drop-cons)

pub step_none : (structs : List Struct) (ps : List Projection) (n : ℕ) (d p : Projection) (t : TypeTree)
    (regions : List ℕ) → n < length ps → get_or ps n d ≡ p
    → behind structs p t ≡ None → rests structs (drop n ps) t regions ≡ past p t regions
step_none structs ps n d p t regions l is e =
    step structs ps n d p t regions l is
    ∙ ap (λ (o : Option TypeTree). unwrap_or
    (option_map (λ u. rests structs (drop (n + 1) ps) u (past p t regions)) o) (past p t regions)) e

pub step_on : (structs : List Struct) (ps : List Projection) (n : ℕ) (d p : Projection) (t u : TypeTree)
    (regions : List ℕ) → n < length ps → get_or ps n d ≡ p
    → behind structs p t ≡ Some u → rests structs (drop n ps) t regions
    ≡ rests structs (drop (n + 1) ps) u (past p t regions)
step_on structs ps n d p t u regions l is e =
    step structs ps n d p t regions l is
    ∙ ap (λ (o : Option TypeTree). unwrap_or
    (option_map (λ u. rests structs (drop (n + 1) ps) u (past p t regions)) o) (past p t regions)) e

pub rests_from : (structs : List Struct) (variables : List TypeTree) (p : PlacePath) (o : Option TypeTree)
    (regions : List ℕ) → slice_get variables p.variable ≡ o
    → regions ≡ unwrap_or (option_map (λ u. rests structs p.projections u []) o) [] → (a : ℕ)
    → Contains regions a ↔ RestsOn structs variables p a
rests_from structs variables p o regions e r a =
    subst (λ (z : List ℕ). Contains z a ↔ RestsOn structs variables p a)
    (ap (λ (o : Option TypeTree). unwrap_or (option_map (λ u. rests structs p.projections u []) o) []) e ∙ sym r)
    (rests_on_is structs variables p a)

-- ---- the type behind the rest of the projections

behind_step : (structs : List Struct) (ps : List Projection) (n : ℕ) (d p : Projection) (t : TypeTree) → n < length ps
    → get_or ps n d ≡ p
    → behind_all structs (drop n ps) t ≡ option_and_then (behind_all structs (drop (n + 1) ps)) (behind structs p t)
behind_step structs ps n d p t l is =
    let e : n + 1 ≡ suc n = omega arith in
    ap (λ (z : List Projection). behind_all structs z t)
    (drop-cons ps n d l ∙ ap (λ (z : Projection). z ∷ drop (suc n) ps) is)
    ∙ ap (λ (z : ℕ). option_and_then (behind_all structs (drop z ps)) (behind structs p t)) (sym e)

-- What is left of a place from a type: it leads where the place leads, and the regions come to those
-- of the place.
pub record IsOnWay (structs : List Struct) (variables : List TypeTree) (place : PlacePath) (n : ℕ) (t : TypeTree)
    (regions : List ℕ) : Type 0 where
  pub leads : behind_all structs (drop n place.projections) t ≡ type_of structs variables place
  pub rests : rests structs (drop n place.projections) t regions
      ≡ unwrap_or (option_map (λ u. rests structs place.projections u []) (slice_get variables place.variable)) []

pub way_on : (structs : List Struct) (variables : List TypeTree) (place : PlacePath) (n : ℕ) (d p : Projection)
    (t u : TypeTree) (regions new : List ℕ) → n < length place.projections → get_or place.projections n d ≡ p
    → Some u ≡ behind structs p t → new ≡ past p t regions → IsOnWay structs variables place n t regions
    → IsOnWay structs variables place (n + 1) u new
way_on structs variables place n d p t u regions new l is there crossed w =
    grind (arith, behind_step, there, step_on)

pub way_stops : (structs : List Struct) (variables : List TypeTree) (place : PlacePath) (n : ℕ) (d p : Projection)
    (t : TypeTree) (regions new : List ℕ) → n < length place.projections → get_or place.projections n d ≡ p
    → None ≡ behind structs p t → new ≡ past p t regions → IsOnWay structs variables place n t regions
    → (None ≡ type_of structs variables place) × ((a : ℕ) → Contains new a ↔ RestsOn structs variables place a)
way_stops structs variables place n d p t regions new l is there crossed w = (
  ap (option_and_then (behind_all structs (drop (n + 1) place.projections))) there
      ∙ sym (behind_step structs place.projections n d p t l is) ∙ w.leads,
  λ a. rests_from structs variables place (slice_get variables place.variable) new refl
      (crossed ∙ (sym (step_none structs place.projections n d p t regions l is (sym there)) ∙ w.rests)) a,
)

pub way_ends : (structs : List Struct) (variables : List TypeTree) (place : PlacePath) (n : ℕ) (t : TypeTree)
    (regions : List ℕ) → length place.projections ≤ n → IsOnWay structs variables place n t regions
    → (Some t ≡ type_of structs variables place) × ((a : ℕ) → Contains regions a ↔ RestsOn structs variables place a)
way_ends structs variables place n t regions l w =
    let e = drop_of_length-le place.projections l in (
      ap (λ (z : List Projection). behind_all structs z t) (sym e) ∙ w.leads,
      λ a. rests_from structs variables place (slice_get variables place.variable) regions refl
          (ap (λ (z : List Projection). rests structs z t regions) (sym e) ∙ w.rests) a,
    )
