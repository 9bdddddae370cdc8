-- What types ask that meet.
use Rattle.std.proofs.Common.{◌≡◌, ℕ, zero, suc, Bool, List, [], ◌∷◌, ◌++◌, length, Contains, refl, sym, ap, ◌∙◌, subst, arith, ◌↔◌, ◌⊎◌, ⊎_elim, inl, inr, Some}
use Rattle.std.specs.Prelude.{slice_get}
use Rattle.std.proofs.lemmas.List.Elements.{Contains-append_cases, Contains-append_left, Contains-append_right}
use Rattle.nll_types.specs.Rows.{region_row}
use Rattle.nll_types.specs.Shapes.{reference_shape, shape_of}
use Rattle.nll_types.specs.Table.{shape_in}
use Rattle.nll_types.specs.Types.{TypeTree, reference}
use Rattle.nll_types.specs.declared.parameter.Sign.{Sign}
use Rattle.nll_types.specs.declared.parameter.Sign.TheVariants.{Covariant}
use Rattle.nll_rules.specs.Knowing.{AsksAt, IsAvailable, IsTypeOfRow, KnownTypes, Learns, known_row}
use Rattle.nll_rules.specs.Pairs.{AddsPairs}
use Rattle.nll_rules.specs.Positions.{target_sign, times}
use Rattle.nll_rules.specs.Signs.{RowsAsk, row_signs_of}
use Rattle.nll_rules.specs.TypeRows.{row_length}
use Rattle.nll_rules.specs.Subtyping.{IsAsked, SubtypeAsks}
use Rattle.nll_rules.specs.declared.meetings.Meeting.{Meeting}
use Rattle.nll_rules.specs.declared.type_row.TypeRow.{TypeRow}
use Rattle.nll_rules.proofs.KnowingLemmas.{row_at_stays}
use Rattle.nll_rules.proofs.PairLemmas.{adds_append, adds_same, came_same}
use Rattle.nll_rules.proofs.RowSignLemmas.{row_length_of, rows_asked, signs_length}
use Rattle.nll_rules.proofs.SignLemmas.{get_left}
use Rattle.nll_rules.proofs.SubtypeLemmas.{asked_as, asked_of, some_is}

-- ---- what stays

-- where more is learnt, types whose rows are there ask what they asked
pub asks_stay : (a b : KnownTypes) (m : Meeting) (x : ℕ × ℕ) → Learns a b → IsAvailable a m.one → IsAvailable a m.other
    → AsksAt b m x ↔ AsksAt a m x
asks_stay a b m x l one other = grind (arith, row_at_stays)

-- ---- pairs that are kept

-- a list of what is asked, appended
pub adds_listed : (kind : ℕ × ℕ → Type 0) (old new list : List (ℕ × ℕ)) → new ≡ old ++ list
    → ((x : ℕ × ℕ) → Contains list x ↔ kind x) → AddsPairs kind old new
adds_listed kind old new list e is = rw e (record {
  each = λ x. came_same (
    Contains-append_cases old list x,
    ⊎_elim (Contains-append_left old list x) (Contains-append_right old list x),
  ) (is x);
})

-- what came into an empty list
pub listed : (kind : ℕ × ℕ → Type 0) (list : List (ℕ × ℕ)) → AddsPairs kind [] list → (x : ℕ × ℕ)
    → Contains list x ↔ kind x
listed kind list h x = grind arith

-- ---- the region of a reference

get_last : {X : Type 0} (rs : List X) (r : X) → slice_get (rs ++ r ∷ []) (length rs) ≡ Some r
get_last [] r = refl
get_last (y ∷ rs) r = get_last rs r

-- a region of a row with one more is one of the row, or the one behind it
which : (rs : List ℕ) (r k a : ℕ) → slice_get (rs ++ r ∷ []) k ≡ Some a
    → (slice_get rs k ≡ Some a) ⊎ ((k ≡ length rs) × (a ≡ r))
which [] r zero a e = inr (refl, sym (some_is r a e))
which [] r (suc k) a e = absurd cc
which (y ∷ rs) r zero a e = inl e
which (y ∷ rs) r (suc k) a e = ⊎_elim inl (λ w. (let at = w.0 in inr (omega arith, w.1))) (which rs r k a e)

module _ (ss : List Sign) (rs : List ℕ) (r : ℕ) (qs : List ℕ) (x : ℕ × ℕ) where
  longer : RowsAsk ss rs qs x → RowsAsk ss (rs ++ r ∷ []) qs x
  longer w = (w.0, w.1, w.2, w.3, get_left rs (r ∷ []) w.0 w.1 w.4, w.5, w.6, w.7)

  -- the region behind a row asks by its own place
  own_asks : (s : Sign) (q : ℕ) → slice_get ss (length rs) ≡ Some s → slice_get qs (length rs) ≡ Some q
      → (RowsAsk ss rs qs x ⊎ IsAsked s r q x) ↔ RowsAsk ss (rs ++ r ∷ []) qs x
  own_asks s q sign other = (
    ⊎_elim longer (λ h. (length rs, r, q, s, get_last rs r, other, sign, h)),
    λ w. ⊎_elim (λ e. inl (w.0, w.1, w.2, w.3, e, w.5, w.6, w.7))
        (λ e. inr (asked_as w.3 s r q x (some_is w.3 s (sym w.6 ∙ ap (slice_get ss) e.0 ∙ sign))
        (asked_of w.3 w.1 w.2 r q x e.1 (some_is w.2 q (sym w.5 ∙ ap (slice_get qs) e.0 ∙ other)) w.7)))
        (which rs r w.0 w.1 w.4),
  )

-- what a reference to a type asks is what the type asks that it points to, and its region
pub met_reference : (k : KnownTypes) (r : ℕ) (m : Bool) (t u : TypeTree) (target other : TypeRow)
    (old mid new : List (ℕ × ℕ)) → IsTypeOfRow k t target → IsTypeOfRow k u other → reference_shape m (shape_of t) ≡
    shape_of u
    → AddsPairs (AsksAt k (record { one = target; other = other })) old mid
    → ((before : List ℕ) (last : ℕ) → known_row k other ≡ before ++ last ∷ [] → AddsPairs (λ x. (r, last) ≡ x) mid new)
    → AddsPairs (SubtypeAsks k.structs (reference r m t) u) old new
met_reference k r m t (reference q n u) target other old mid new h i same asks own =
    adds_same _ _ old new (λ x. swap (rows_asked k.structs (reference r m t) (reference q n u) x same))
    (adds_same _ _ old new (λ x. own_asks ss (region_row t) r (region_row u ++ q ∷ []) x Covariant q sign there)
    (adds_append _ _ old mid new met (own (region_row u) q i.row)))
  where
    inner : Sign
    inner = times Covariant (target_sign m)

    ss : List Sign
    ss = row_signs_of k.structs Covariant (reference_shape m (shape_of t))

    long : length (row_signs_of k.structs inner (shape_of t)) ≡ length (region_row t)
    long = signs_length k.structs inner (shape_of t) ∙ row_length_of t

    sign : slice_get ss (length (region_row t)) ≡ Some Covariant
    sign = rw (← long) (get_last (row_signs_of k.structs inner (shape_of t)) Covariant)

    inside : shape_of t ≡ shape_of u
    inside = (let e = same in cc)

    there : slice_get (region_row u ++ q ∷ []) (length (region_row t)) ≡ Some q
    there = rw (sym (row_length_of t) ∙ ap row_length inside ∙ row_length_of u) (get_last (region_row u) q)

    swap : {A B : Type 0} → A ↔ B → B ↔ A
    swap e = (e.1, e.0)

    is : row_signs_of k.structs Covariant (shape_in k.table other.shape) ≡ ss
    is = ap (row_signs_of k.structs Covariant) (i.shape ∙ sym same)

    met : AddsPairs (RowsAsk ss (region_row t) (region_row u ++ q ∷ [])) old mid
    met = subst (λ (rs : List ℕ). AddsPairs (RowsAsk ss (region_row t) rs) old mid) i.row
        (subst (λ (rs : List ℕ). AddsPairs (RowsAsk ss rs (known_row k other)) old mid) h.row
        (subst (λ (zs : List Sign). AddsPairs (RowsAsk zs (known_row k target) (known_row k other)) old mid) is asks))
met_reference k r m t u target other old mid new h i same asks own = absurd cc
