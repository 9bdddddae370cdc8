-- The signs of rows, and where in a row the rows of its first parts begin.
use Rattle.std.proofs.Common.{◌≡◌, ℕ, zero, suc, ◌+◌, ◌<◌, ◌≤◌, List, [], ◌∷◌, ◌++◌, length, length-append, append-nil, append_assoc, get_or, set, take, drop, refl, sym, ap, ◌∙◌, add-one, arith, ⊎_elim, inl, inr, ◌↔◌, ◌⊎◌, Option, Some, None, Bool, true, false}
use Rattle.std.specs.Prelude.{MatchOption, is_some, min, slice_get}
use Rattle.std.proofs.lemmas.List.{length-take-le, take_more}
use Rattle.std.proofs.lemmas.Option.{slice_get_within}
use Rattle.std.proofs.Math.Seq.{drop-cons}
use Rattle.nll_types.specs.Rows.{region_row, region_rows, rows_before}
use Rattle.nll_types.specs.Shapes.{Shape, ShapeList, int_shape, parameter_shape, reference_shape, tuple_shape, named_shape, function_shape, no_shape, more_shapes, shape_of, shapes_of}
use Rattle.nll_types.specs.Structs.{Struct, struct_at}
use Rattle.nll_types.specs.Table.{Extends, all_at, at, shape_in}
use Rattle.nll_types.specs.Types.{TypeTree, TypeTrees, int, parameter, reference, tuple, named, function, none, more, type_at}
use Rattle.nll_types.specs.declared.node.Node.{Node}
use Rattle.nll_types.specs.declared.parameter.Parameter.{Parameter}
use Rattle.nll_types.specs.declared.parameter.Sign.{Sign}
use Rattle.nll_types.specs.declared.parameter.Sign.TheVariants.{Covariant, Contravariant, Invariant}
use Rattle.nll_rules.specs.Pairs.{AtOne}
use Rattle.nll_rules.specs.Positions.{sign_or, target_sign, times}
use Rattle.nll_rules.specs.Signs.{RowsAsk, all_signs, sign_row, row_signs_of}
use Rattle.nll_rules.specs.Subtyping.{IsAsked, SubtypeAsks}
use Rattle.nll_rules.specs.TypeRows.{AreSigns, AreSignsOf, row_length, rows_length, starts_from}
use Rattle.nll_rules.specs.declared.row_signs.ShapeSigns.{ShapeSigns}
use Rattle.nll_rules.proofs.SignLemmas.{rows_ask, sign_row_count}
use Rattle.nll_rules.proofs.SubtypeLemmas.{asked_as, asked_of, some_is}

-- what is there, where something is
pub found_one : {A : Type 0} (o : Option A) (N : Type 0) (P : A → Type 0) (b : Bool) → b ≡ is_some o → b ≡ true
    → MatchOption o N P → (x : A) × P x
found_one (Some x) N P b e f h = (x, h)
found_one None N P b e f h = absurd (let d : false ≡ true = sym e ∙ f in cc)

-- ---- how long rows are

mutual
  -- the row of a type is as long as its shape says
  pub row_length_of : (t : TypeTree) → row_length (shape_of t) ≡ length (region_row t)
  row_length_of int = refl
  row_length_of (parameter k) = refl
  row_length_of (reference r m t) = omega (arith, row_length_of t, length-append (region_row t) (r ∷ []))
  row_length_of (tuple ts) = rows_length_of ts
  row_length_of (named s rs ts) = omega (arith, rows_length_of ts, length-append (region_rows ts) rs)
  row_length_of (function ts t) =
      omega (arith, rows_length_of ts, row_length_of t, length-append (region_rows ts) (region_row t))

  pub rows_length_of : (ts : TypeTrees) → rows_length (shapes_of ts) ≡ length (region_rows ts)
  rows_length_of none = refl
  rows_length_of (more t ts) =
      omega (arith, row_length_of t, rows_length_of ts, length-append (region_row t) (region_rows ts))

module _ (structs : List Struct) where
  mutual
    -- a shape has as many signs as its rows have regions
    pub signs_length : (outer : Sign) (s : Shape) → length (row_signs_of structs outer s) ≡ row_length s
    signs_length outer int_shape = refl
    signs_length outer (parameter_shape k) = refl
    signs_length outer (reference_shape m t) =
        let sign = times outer (target_sign m) in
        omega (arith, signs_length sign t, length-append (row_signs_of structs sign t) (outer ∷ []))
    signs_length outer (tuple_shape ts) = all_signs_length (λ k. outer) ts
    signs_length outer (named_shape s n ts) =
        let sign : ℕ → Sign = λ k. times outer (sign_or (struct_at structs s).types k Invariant) in
        let own : ℕ → Sign = λ k. times outer (sign_or (struct_at structs s).regions k Invariant) in
        omega (arith, all_signs_length sign ts, sign_row_count own n, length-append {A = Sign})
    signs_length outer (function_shape ts t) =
        let sign : ℕ → Sign = λ k. times outer Contravariant in
        omega (arith, all_signs_length sign ts, signs_length outer t, length-append {A = Sign})

    pub all_signs_length : (sign : ℕ → Sign) (ts : ShapeList) → length (all_signs structs sign ts) ≡ rows_length ts
    all_signs_length sign no_shape = refl
    all_signs_length sign (more_shapes t ts) =
        let later : ℕ → Sign = λ k. sign (suc k) in
        omega (arith, signs_length (sign 0) t, all_signs_length later ts, length-append {A = Sign})

-- ---- where rows begin

start_from : (n : ℕ) (ts : TypeTrees) (k : ℕ) (t : TypeTree) → type_at ts k ≡ Some t
    → slice_get (starts_from n (shapes_of ts)) k ≡ Some (n + rows_before ts k)
start_from n none k t e = absurd cc
start_from n (more u ts) zero t e = ap Some (omega arith)
start_from n (more u ts) (suc k) t e =
    start_from (n + row_length (shape_of u)) ts k t e ∙ ap Some (omega (arith, row_length_of u))

end_from : (n : ℕ) (ts : TypeTrees) (k : ℕ) (t : TypeTree) → type_at ts k ≡ Some t
    → slice_get (starts_from n (shapes_of ts)) (suc k) ≡ Some (n + rows_before ts k + length (region_row t))
end_from n none k t e = absurd cc
end_from n (more u ts) (suc k) t e =
    end_from (n + row_length (shape_of u)) ts k t e ∙ ap Some (omega (arith, row_length_of u))
end_from n (more u none) zero t e =
    let same : u ≡ t = cc in
    ap Some (omega (arith, row_length_of u, ap (λ (z : TypeTree). length (region_row z)) same))
end_from n (more u (more v ts)) zero t e =
    let same : u ≡ t = cc in
    ap Some (omega (arith, row_length_of u, ap (λ (z : TypeTree). length (region_row z)) same))

-- the row of a part begins where those before it end
pub start_at : (ts : TypeTrees) (k : ℕ) (t : TypeTree) → type_at ts k ≡ Some t
    → slice_get (starts_from 0 (shapes_of ts)) k ≡ Some (rows_before ts k)
start_at ts k t e = start_from 0 ts k t e ∙ ap Some (omega arith)

-- and ends where the next one begins, or where all end
pub end_at : (ts : TypeTrees) (k : ℕ) (t : TypeTree) → type_at ts k ≡ Some t
    → slice_get (starts_from 0 (shapes_of ts)) (k + 1) ≡ Some (rows_before ts k + length (region_row t))
end_at ts k t e = rw add-one (end_from 0 ts k t e ∙ ap Some (omega arith))

-- ---- signs that are known

-- what is known of the shapes of a table is right of a table that extends it
pub signs_later : (structs : List Struct) (old new : List Node) (known : List (Option ShapeSigns)) → Extends old new
    → AreSigns structs old known → AreSigns structs new known
signs_later structs old new known x right k e is = grind arith

-- and of one shape more
pub signs_put : (structs : List Struct) (ns : List Node) (old new : List (Option ShapeSigns)) (shape : ℕ)
    (made : ShapeSigns) → shape < length ns → AreSignsOf structs (shape_in ns shape) made → AreSigns structs ns old
    → ((k : ℕ) (e : ShapeSigns) → slice_get new k ≡ Some (Some e)
    → (slice_get old k ≡ Some (Some e)) ⊎ ((k ≡ shape) × (e ≡ made)))
    → AreSigns structs ns new
signs_put structs ns old new shape made within of right each k e is = grind arith

none_added : {X : Type 0} (xs : List (Option X)) (k : ℕ) (e : X)
    → slice_get (xs ++ None ∷ []) k ≡ Some (Some e) ↔ slice_get xs k ≡ Some (Some e)
none_added [] zero e = (λ h. absurd cc, λ h. absurd cc)
none_added [] (suc k) e = (λ h. absurd cc, λ h. absurd cc)
none_added (x ∷ xs) zero e = (λ h. h, λ h. h)
none_added (x ∷ xs) (suc k) e = none_added xs k e

-- what is known in two lists, where one more place with nothing known is appended
pub same_with_none : {X : Type 0} (xs ys : List (Option X)) (k : ℕ) (e : X)
    → slice_get ys k ≡ Some (Some e) ↔ slice_get xs k ≡ Some (Some e)
    → slice_get (ys ++ None ∷ []) k ≡ Some (Some e) ↔ slice_get xs k ≡ Some (Some e)
same_with_none xs ys k e h = (λ a. h.0 ((none_added ys k e).0 a), λ b. (none_added ys k e).1 (h.1 b))

pub set_here : {X : Type 0} (xs : List X) (i : ℕ) (x : X) → i < length xs → slice_get (set xs i x) i ≡ Some x
set_here [] i x l = absurd (omega arith)
set_here (z ∷ xs) zero x l = refl
set_here (z ∷ xs) (suc i) x l = set_here xs i x (omega arith)

pub set_other : {X : Type 0} (xs : List X) (i k : ℕ) (x y : X) → slice_get (set xs i x) k ≡ Some y
    → (slice_get xs k ≡ Some y) ⊎ ((k ≡ i) × (y ≡ x))
set_other [] i k x y h = inl h
set_other (z ∷ xs) zero zero x y h = inr (refl, cc)
set_other (z ∷ xs) zero (suc k) x y h = inl h
set_other (z ∷ xs) (suc i) zero x y h = inl h
set_other (z ∷ xs) (suc i) (suc k) x y h =
    ⊎_elim inl (λ p. inr (ap suc p.0, p.1)) (set_other xs i k x y h)

pub set_kept : {X : Type 0} (xs : List X) (i k : ℕ) (x y : X) → slice_get xs k ≡ Some y
    → (slice_get (set xs i x) k ≡ Some y) ⊎ (slice_get (set xs i x) k ≡ Some x)
set_kept [] i k x y h = inl h
set_kept (z ∷ xs) zero zero x y h = inr refl
set_kept (z ∷ xs) zero (suc k) x y h = inl h
set_kept (z ∷ xs) (suc i) zero x y h = inl h
set_kept (z ∷ xs) (suc i) (suc k) x y h = set_kept xs i k x y h

-- ---- what rows ask

-- What a subtyping of types of one shape asks is what their rows ask.
pub rows_asked : (structs : List Struct) (t u : TypeTree) (x : ℕ × ℕ) → shape_of t ≡ shape_of u
    → SubtypeAsks structs t u x ↔ RowsAsk (row_signs_of structs Covariant (shape_of t)) (region_row t) (region_row u) x
rows_asked structs t u x e = rows_ask structs Covariant t u x e

-- the regions at this place of two rows ask the pair
abbrev pub AskedAt : List Sign → List ℕ → List ℕ → ℕ → ℕ × ℕ → Type 0
AskedAt ss rs qs k x = (a b : ℕ) × (s : Sign) × (slice_get rs k ≡ Some a) × (slice_get qs k ≡ Some b)
    × (slice_get ss k ≡ Some s) × IsAsked s a b x

pub asked_here : (ss : List Sign) (rs qs : List ℕ) (k a b : ℕ) (s : Sign) (x : ℕ × ℕ) → slice_get rs k ≡ Some a
    → slice_get qs k ≡ Some b → slice_get ss k ≡ Some s → IsAsked s a b x ↔ AskedAt ss rs qs k x
asked_here ss rs qs k a b s x e f g = grind (arith, asked_as, some_is, asked_of)

-- what is asked is asked where both rows and the signs are
pub asked_within : (ss : List Sign) (rs qs : List ℕ) (n k : ℕ) (x : ℕ × ℕ)
    → min (length ss) (min (length rs) (length qs)) ≤ n → AskedAt ss rs qs k x → k < n
asked_within ss rs qs n k x l w = grind (arith, slice_get_within)

-- the rows ask what is asked at one of the places
pub asked_rows : (ss : List Sign) (rs qs : List ℕ) (x : ℕ × ℕ) → AtOne (AskedAt ss rs qs) x ↔ RowsAsk ss rs qs x
asked_rows ss rs qs x = grind arith

-- ---- signs that are appended one by one

-- what is appended to a list in two steps
pub appended_more : {X : Type 0} (first before now xs ys zs : List X) → before ≡ first ++ xs → now ≡ before ++ ys
    → zs ≡ xs ++ ys → now ≡ first ++ zs
appended_more {X} first before now xs ys zs b n z =
    n ∙ ap (λ (ws : List X). ws ++ ys) b ∙ append_assoc first xs ys ∙ ap (λ (ws : List X). first ++ ws) (sym z)

sign_row_push : (sign : ℕ → Sign) (n : ℕ) → sign_row sign (suc n) ≡ sign_row sign n ++ sign n ∷ []
sign_row_push sign zero = refl
sign_row_push sign (suc n) = ap (λ (ss : List Sign). sign 0 ∷ ss) (sign_row_push (λ k. sign (suc k)) n)

pub sign_row_more : (sign : ℕ → Sign) (n : ℕ) → sign_row sign (n + 1) ≡ sign_row sign n ++ sign n ∷ []
sign_row_more sign n = rw add-one (sign_row_push sign n)

module _ (structs : List Struct) where
  all_signs_push : (known : List Shape) (sign : ℕ → Sign) (is : List ℕ) (i : ℕ)
      → all_signs structs sign (all_at known (is ++ i ∷ []))
      ≡ all_signs structs sign (all_at known is) ++ row_signs_of structs (sign (length is)) (at known i)
  all_signs_push known sign [] i = append-nil (row_signs_of structs (sign 0) (at known i))
  all_signs_push known sign (j ∷ is) i =
      let later : ℕ → Sign = λ k. sign (suc k) in
      ap (λ (ss : List Sign). row_signs_of structs (sign 0) (at known j) ++ ss) (all_signs_push known later is i)
      ∙ sym (append_assoc (row_signs_of structs (sign 0) (at known j)) (all_signs structs later (all_at known is))
      (row_signs_of structs (later (length is)) (at known i)))

  -- the signs of one part more
  pub all_signs_more : (known : List Shape) (sign : ℕ → Sign) (is : List ℕ) (k d : ℕ) → k < length is
      → all_signs structs sign (all_at known (take (k + 1) is))
      ≡ all_signs structs sign (all_at known (take k is)) ++ row_signs_of structs (sign k) (at known (get_or is k d))
  all_signs_more known sign is k d l =
      ap (λ (js : List ℕ). all_signs structs sign (all_at known js)) (take_more is k d l)
      ∙ all_signs_push known sign (take k is) (get_or is k d)
      ∙ ap (λ (n : ℕ). all_signs structs sign (all_at known (take k is))
      ++ row_signs_of structs (sign n) (at known (get_or is k d))) (length-take-le k is (omega arith))

  -- the signs of a struct's arguments, for these parameters
  pub named_signs : (outer : Sign) (s n : ℕ) (ts : ShapeList) (types regions : List Parameter)
      (first middle last : List Sign) → types ≡ (struct_at structs s).types → regions ≡ (struct_at structs s).regions
      → middle ≡ first ++ all_signs structs (λ k. times outer (sign_or types k Invariant)) ts
      → last ≡ middle ++ sign_row (λ k. times outer (sign_or regions k Invariant)) n
      → last ≡ first ++ row_signs_of structs outer (named_shape s n ts)
  named_signs outer s n ts types regions first middle last e f m l = grind (arith, appended_more)

-- the places from a part on are its own and those from the next part on
pub starts_more : (known : List Shape) (n : ℕ) (is : List ℕ) (k d : ℕ) → k < length is
    → starts_from n (all_at known (drop k is))
    ≡ n ∷ starts_from (n + row_length (at known (get_or is k d))) (all_at known (drop (k + 1) is))
starts_more known n is k d l = rw (add-one, drop-cons is k d l) refl

pub starts_step : (known : List Shape) (starts started all : List ℕ) (n next k d : ℕ) (is : List ℕ) → k < length is
    → started ≡ starts ++ n ∷ [] → next ≡ n + row_length (at known (get_or is k d))
    → starts ++ starts_from n (all_at known (drop k is)) ≡ all
    → started ++ starts_from next (all_at known (drop (k + 1) is)) ≡ all
starts_step known starts started all n next k d is l s m h =
    grind (arith, get_or, append_assoc, starts_more)
