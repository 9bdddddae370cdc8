-- What a statement asks is of regions of the body.
use Rattle.std.proofs.Common.{◌≡◌, ℕ, zero, suc, ◌<◌, List, [], ◌∷◌, ◌++◌, Contains, length, map, get_or, Some, inl, inr, refl, sym, ap, ◌∙◌, subst, ⊎_elim, arith}
use Rattle.std.specs.Prelude.{slice_get, option_map}
use Rattle.std.specs.List.{flat_map}
use Rattle.std.proofs.lemmas.Option.{get_or_from_slice_get, slice_get_within, slice_get-map}
use Rattle.std.proofs.lemmas.List.Elements.{Contains-push, Contains-append_left}
use Rattle.nll_types.specs.Types.{TypeTree, TypeTrees, int, parameter, reference, tuple, named, function, none, more, type_at, HasRegion, AnyHasRegion}
use Rattle.nll_types.specs.Structs.{IsWellFormed}
use Rattle.nll_types.specs.Places.{PlacePath, type_of}
use Rattle.nll_types.specs.Operands.{Operand, constant, copied, moved, operand_type}
use Rattle.nll_types.specs.declared.parameter.Sign.{Sign}
use Rattle.nll_types.specs.declared.parameter.Sign.TheVariants.{Covariant, Contravariant, Invariant}
use Rattle.nll_types.proofs.WellFormedLemmas.{place_good}
use Rattle.nll_body.specs.Statements.{Statement, assign, borrow, make, read, live, dead, nop, goto, switch, drop, call, return, stop}
use Rattle.nll_body.specs.Bodies.{BodyText, StandsAt}
use Rattle.nll_body.specs.Sound.{IsSoundBody}
use Rattle.nll_body.proofs.RangeLemmas.{region_within, part_good}
use Rattle.nll_rules.specs.Positions.{Turn, own, target, part, region_argument, type_argument, input, output, HasRegionAt}
use Rattle.nll_rules.specs.Subtyping.{IsAsked, SubtypeAsks}
use Rattle.nll_rules.specs.Reborrows.{RestsOn, prefix}
use Rattle.nll_body.proofs.TypePairLemmas.{Meet, pairs_meet}
use Rattle.nll_rules.specs.Asking.{AsksPair, AsksInAll}

-- ---- lists

there : {X : Type 0} (xs : List X) (k : ℕ) (x : X) → slice_get xs k ≡ Some x → Contains xs x
there xs k x at = (k, slice_get_within xs k x at, get_or_from_slice_get xs k x x at)

first : {X : Type 0} (x : X) (xs : List X) → Contains (x ∷ xs) x
first x xs = (0, omega arith, refl)

later : {X : Type 0} (y : X) (xs : List X) (x : X) → Contains xs x → Contains (y ∷ xs) x
later y xs x h = (suc h.0, omega (arith, h.1), h.2)

-- both regions of a bound are among those of all bounds
abbrev both : ℕ × ℕ → List ℕ
both w = w.0 ∷ w.1 ∷ []

bound_there : (wheres : List (ℕ × ℕ)) (x : ℕ × ℕ) (k : ℕ) → k < length wheres → get_or wheres k x ≡ x
    → Contains (flat_map both wheres) x.0 × Contains (flat_map both wheres) x.1
bound_there [] x k l e = absurd (omega (arith, l))
bound_there (w ∷ wheres) x zero l e =
    subst (λ (y : ℕ × ℕ). Contains (w.0 ∷ w.1 ∷ flat_map both wheres) y.0
    × Contains (w.0 ∷ w.1 ∷ flat_map both wheres) y.1) e (
      first w.0 (w.1 ∷ flat_map both wheres),
      later w.0 (w.1 ∷ flat_map both wheres) w.1 (first w.1 (flat_map both wheres)),
    )
bound_there (w ∷ wheres) x (suc k) l e =
    let r = bound_there wheres x k (omega (arith, l)) e in (
      later w.0 (w.1 ∷ flat_map both wheres) x.0 (later w.1 (flat_map both wheres) x.0 r.0),
      later w.0 (w.1 ∷ flat_map both wheres) x.1 (later w.1 (flat_map both wheres) x.1 r.1),
    )

-- the type of a call's parameter is one of the types that are written
abbrev type_in : Operand × TypeTree → TypeTree
type_in a = a.1

argument_there : (args : List (Operand × TypeTree)) (result : TypeTree) (k : ℕ) (op : Operand) (u : TypeTree)
    → slice_get args k ≡ Some (op, u) → Contains (map type_in args ++ result ∷ []) u
argument_there args result k op u at =
    Contains-append_left (map type_in args) (result ∷ []) u
    (there (map type_in args) k u (slice_get-map type_in args k ∙ ap (option_map type_in) at))

-- ---- positions

any_at : (ts : TypeTrees) (k : ℕ) (t : TypeTree) (r : ℕ) → type_at ts k ≡ Some t → HasRegion t r → AnyHasRegion ts r
any_at none k t r e h = absurd cc
any_at (more u ts) zero t r e h = (let s : u ≡ t = cc in inl (subst (λ (x : TypeTree). HasRegion x r) (sym s) h))
any_at (more u ts) (suc k) t r e h = inr (any_at ts k t r e h)

-- a region that stands in a type is written in it
at_position : (t : TypeTree) (way : List Turn) (r : ℕ) → HasRegionAt t way r → HasRegion t r
at_position (reference q m t) (own ∷ way) r h = inl h.1
at_position (reference q m t) (target n ∷ way) r h = inr (at_position t way r h.1)
at_position (tuple ts) (part k ∷ way) r h = any_at ts k h.0 r h.1 (at_position h.0 way r h.2)
at_position (named s rs ts) (region_argument n k ∷ way) r h = inl (there rs k r h.2)
at_position (named s rs ts) (type_argument n k ∷ way) r h = inr (any_at ts k h.0 r h.2 (at_position h.0 way r h.3))
at_position (function ts u) (input k ∷ way) r h = inl (any_at ts k h.0 r h.1 (at_position h.0 way r h.2))
at_position (function ts u) (output ∷ way) r h = inr (at_position u way r h)
at_position int (own ∷ way) r h = absurd h
at_position (parameter j) (own ∷ way) r h = absurd h
at_position t way r h = absurd h

-- both regions of what is asked are below n, where those of the position are
asked_below : (n : ℕ) (sign : Sign) (a b : ℕ) (x : ℕ × ℕ) → a < n → b < n → IsAsked sign a b x → (x.0 < n) × (x.1 < n)
asked_below n Covariant a b x l m is = subst (λ (y : ℕ × ℕ). (y.0 < n) × (y.1 < n)) is (l, m)
asked_below n Contravariant a b x l m is = subst (λ (y : ℕ × ℕ). (y.0 < n) × (y.1 < n)) is (m, l)
asked_below n Invariant a b x l m h = grind arith

-- ---- statements

module _ (body : BodyText) (sound : IsSoundBody body) where
  some_region : 0 < length body.names
  some_region = omega (arith, sound.some_universal, sound.all_universals)

  abbrev IsGood : TypeTree → Type 0
  IsGood t = IsWellFormed body.structs (length body.names) 0 t

  abbrev AreOfBody : ℕ × ℕ → Type 0
  AreOfBody x = (x.0 < length body.names) × (x.1 < length body.names)

  place : (p : PlacePath) (t : TypeTree) → type_of body.structs body.variables p ≡ Some t → IsGood t
  place p t e =
      place_good body.structs sound.in_order (length body.names) 0 some_region body.variables sound.types p t e

  operand : (op : Operand) (t : TypeTree) → operand_type body.structs body.variables op ≡ Some t → IsGood t
  operand constant t e = (let s : int ≡ t = cc in subst IsGood s tt)
  operand (copied p) t e = place p t e
  operand (moved p) t e = place p t e

  -- the types that meet in a statement keep to what is declared
  subtypes : (i : Statement ℕ TypeTree) (p : ℕ) → StandsAt body p i → (t u : TypeTree)
      → Meet body.structs body.variables i t u → IsGood t × IsGood u
  subtypes (assign q op) p at t u h = (operand op t h.0, place q u h.1)
  subtypes (borrow q r m b) p at t u h =
      let region : r < length body.names = sound.written_regions p r (borrow q r m b) at (first r []) in
      (subst IsGood (sym h.2) (region, place b h.0 h.1), place q u h.3)
  subtypes (make q made ops) p at t u h =
      let good : IsGood made = sound.written_types p made (make q made ops) at (first made []) in
      ⊎_elim
      (λ w. (
        operand w.1 t w.3,
        part_good body.structs sound.in_order
            (length body.names) some_region made u w.0 good w.4,
      ))
      (λ w. (subst IsGood (sym w.0) good, place q u w.1))
      h
  subtypes (call q args result wheres b unwind) p at t u h =
      let good : IsGood result =
      sound.written_types p result (call q args result wheres b unwind) at
      (Contains-push (map type_in args) result) in
      ⊎_elim
      (λ w. (
        operand w.1 t w.3,
        sound.written_types p u (call q args result wheres b unwind) at
            (argument_there args result w.0 w.1 u w.2),
      ))
      (λ w. (subst IsGood (sym w.0) good, place q u w.1))
      h
  subtypes (read q) p at t u h = absurd h
  subtypes (live x) p at t u h = absurd h
  subtypes (dead x) p at t u h = absurd h
  subtypes nop p at t u h = absurd h
  subtypes (goto b) p at t u h = absurd h
  subtypes (switch op bs) p at t u h = (operand op t h.0, subst IsGood (sym h.1) tt)
  subtypes (drop x b unwind) p at t u h = absurd h
  subtypes return p at t u h = absurd h
  subtypes stop p at t u h = absurd h

  -- a reborrow rests on regions of the body
  rests_below : (q : PlacePath) (a : ℕ) → RestsOn body.structs body.variables q a → a < length body.names
  rests_below q a h = (place (prefix h.0 q) (reference a h.1 h.2.1) h.2.2).0

  pairs : (i : Statement ℕ TypeTree) (p : ℕ) → StandsAt body p i → (x : ℕ × ℕ)
      → AsksPair body.structs body.variables i x → AreOfBody x
  pairs (borrow q r m b) p at x h =
      let region : r < length body.names = sound.written_regions p r (borrow q r m b) at (first r []) in
      (rests_below b x.0 h.0, subst (λ (n : ℕ). n < length body.names) (sym h.1) region)
  pairs (call q args result wheres b unwind) p at x h =
      let bound = bound_there wheres x h.0 h.1 h.2 in (
        sound.written_regions p x.0 (call q args result wheres b unwind) at bound.0,
        sound.written_regions p x.1 (call q args result wheres b unwind) at bound.1,
      )
  pairs (assign q op) p at x h = absurd h
  pairs (make q made ops) p at x h = absurd h
  pairs (read q) p at x h = absurd h
  pairs (live y) p at x h = absurd h
  pairs (dead y) p at x h = absurd h
  pairs nop p at x h = absurd h
  pairs (goto b) p at x h = absurd h
  pairs (switch op bs) p at x h = absurd h
  pairs (drop y b unwind) p at x h = absurd h
  pairs return p at x h = absurd h
  pairs stop p at x h = absurd h

  subtype_below : (t u : TypeTree) → IsGood t → IsGood u → (x : ℕ × ℕ) → SubtypeAsks body.structs t u x → AreOfBody x
  subtype_below t u good_t good_u x h = grind (arith, asked_below, region_within, at_position)

  -- what stands at a point asks pairs of regions of the body
  pub asks_below : (p : ℕ) (i : Statement ℕ TypeTree) → StandsAt body p i → (x : ℕ × ℕ)
      → AsksInAll body.structs body.variables i x → (x.0 < length body.names) × (x.1 < length body.names)
  asks_below p i at x h = ⊎_elim
      (λ w. (let good = subtypes i p at w.0 w.1 ((pairs_meet body.structs body.variables i w.0 w.1).0 w.2) in
      subtype_below w.0 w.1 good.0 good.1 x w.3))
      (λ w. pairs i p at x w)
      h
