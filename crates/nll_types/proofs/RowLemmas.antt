-- Types as shapes and rows of regions.
use Rattle.std.proofs.Common.{◌≡◌, ℕ, zero, suc, ◌<◌, ◌↔◌, List, [], ◌∷◌, ◌++◌, length, map, take, drop, refl, sym, ap, ◌∙◌, subst, append_assoc, length-append, arith, ⊎_elim, inl, inr, Contains}
use Rattle.std.specs.Prelude.{slice_index_or, All}
use Rattle.std.proofs.Math.Seq.{take-append_seam, drop-append_seam}
use Rattle.std.proofs.lemmas.List.{drop-append-le}
use Rattle.std.proofs.lemmas.List.Elements.{All-append, All-nil, Contains-append_left, Contains-append_right, Contains-append_cases}
use Rattle.nll_sets.specs.Prefix.{IsPrefix}
use Rattle.nll_types.specs.Types.{TypeTree, TypeTrees, int, parameter, reference, tuple, named, function, none, more, HasRegion, AnyHasRegion}
use Rattle.nll_types.specs.Structs.{Struct, IsWellFormed, AreWellFormed}
use Rattle.nll_types.specs.Shapes.{Shape, shape_of, shapes_of}
use Rattle.nll_types.specs.Table.{Extends, AreBelow}
use Rattle.nll_types.specs.Tables.{HaveShapes}
use Rattle.nll_types.specs.Rows.{region_row, region_rows, filled, all_filled, tree_at, IsTyped, HasRow, shape_numbers}
use Rattle.nll_types.specs.declared.node.Node.{Node}
use Rattle.nll_types.specs.declared.typed.Typed.{Typed}

-- ---- a shape filled with its row

-- a type, or types, and the regions that are left
abbrev pub OneFilled : Type 0
OneFilled = TypeTree × List ℕ

abbrev pub AllFilled : Type 0
AllFilled = TypeTrees × List ℕ

mutual
  -- a type is its shape filled with its row
  pub fill_row : (t : TypeTree) (rest : List ℕ)
      → ◌≡◌ {A = OneFilled} (filled (shape_of t) (region_row t ++ rest)) (t, rest)
  fill_row int rest = refl
  fill_row (parameter k) rest = refl
  fill_row (reference r m t) rest = ap (λ (p : OneFilled). (reference (slice_index_or p.1 0 0) m p.0, drop 1 p.1))
      (ap (filled (shape_of t)) (append_assoc (region_row t) (r ∷ []) rest) ∙ fill_row t (r ∷ rest))
  fill_row (tuple ts) rest = ap (λ (p : AllFilled). (tuple p.0, p.1)) (all_fill_row ts rest)
  fill_row (named s rs ts) rest =
      ap (λ (p : AllFilled). (named s (take (length rs) p.1) p.0, drop (length rs) p.1))
      (ap (all_filled (shapes_of ts)) (append_assoc (region_rows ts) rs rest) ∙ all_fill_row ts (rs ++ rest))
      ∙ ap (λ (qs : List ℕ). (named s qs ts, drop (length rs) (rs ++ rest))) (take-append_seam rs rest)
      ∙ ap (λ (qs : List ℕ). (named s rs ts, qs)) (drop-append_seam rs rest)
  fill_row (function ts t) rest =
      ap (λ (p : AllFilled). (function p.0 (filled (shape_of t) p.1).0, (filled (shape_of t) p.1).1))
      (ap (all_filled (shapes_of ts)) (append_assoc (region_rows ts) (region_row t) rest)
      ∙ all_fill_row ts (region_row t ++ rest))
      ∙ ap (λ (q : OneFilled). (function ts q.0, q.1)) (fill_row t rest)

  pub all_fill_row : (ts : TypeTrees) (rest : List ℕ)
      → ◌≡◌ {A = AllFilled} (all_filled (shapes_of ts) (region_rows ts ++ rest)) (ts, rest)
  all_fill_row none rest = refl
  all_fill_row (more t ts) rest =
      ap (λ (p : OneFilled). (more p.0 (all_filled (shapes_of ts) p.1).0, (all_filled (shapes_of ts) p.1).1))
      (ap (filled (shape_of t)) (append_assoc (region_row t) (region_rows ts) rest)
      ∙ fill_row t (region_rows ts ++ rest))
      ∙ ap (λ (q : AllFilled). (more t q.0, q.1)) (all_fill_row ts rest)

module _ (ns : List Node) (regions : List ℕ) where
  -- the type of a shape and a row is the one that has them
  pub tree_is : (v : Typed) (t : TypeTree) → IsTyped ns regions v t → tree_at ns regions v ≡ t
  tree_is v t h = ap (λ (s : Shape). (filled s (drop v.first regions)).0) h.shape
      ∙ ap (λ (rs : List ℕ). (filled (shape_of t) rs).0) h.row.1
      ∙ ap (λ (p : OneFilled). p.0) (fill_row t h.row.0)

  pub has_row : (v : Typed) (t : TypeTree) → IsTyped ns regions v t → HasRow ns regions v
  has_row v t h = subst (IsTyped ns regions v) (sym (tree_is v t h)) h

  -- the shapes of types that have rows
  pub have_shapes : (vs : List Typed) → All (HasRow ns regions) vs
      → HaveShapes ns (shape_numbers vs) (map (tree_at ns regions) vs)
  have_shapes [] h = refl
  have_shapes (v ∷ vs) h =
      let here = (h 0 v (omega arith)).shape in
      let rest = have_shapes vs (λ k d l. h (suc k) d (omega arith)) in
      cc

  pub below_rows : (vs : List Typed) → All (HasRow ns regions) vs → AreBelow (length ns) (shape_numbers vs)
  below_rows [] h k l = absurd (omega arith)
  below_rows (v ∷ vs) h zero l = (h 0 v (omega arith)).within
  below_rows (v ∷ vs) h (suc k) l = below_rows vs (λ j d m. h (suc j) d (omega arith)) k (omega arith)

-- ---- more shapes, and more regions

module _ (ns later : List Node) (regions longer : List ℕ) (e : Extends ns later) (p : IsPrefix regions longer) where
  pub typed_later : (v : Typed) (t : TypeTree) → IsTyped ns regions v t → IsTyped later longer v t
  typed_later v t h = record {
    within = (let a = h.within in let b = e.longer in omega arith);
    begun = (let a = h.begun in rw p.1 (omega (arith, length-append regions p.0)));
    shape = e.kept v.shape h.within ∙ h.shape;
    row = (
      h.row.0 ++ p.0,
      ap (drop v.first) p.1 ∙ drop-append-le v.first regions p.0 h.begun ∙ ap (λ (rs : List ℕ). rs ++ p.0) h.row.1
          ∙ append_assoc (region_row t) h.row.0 p.0,
    );
  }

  pub tree_later : (v : Typed) → HasRow ns regions v → tree_at later longer v ≡ tree_at ns regions v
  tree_later v h = tree_is later longer v (tree_at ns regions v) (typed_later v (tree_at ns regions v) h)

  pub row_later : (v : Typed) → HasRow ns regions v → HasRow later longer v
  row_later v h = has_row later longer v (tree_at ns regions v) (typed_later v (tree_at ns regions v) h)

  pub trees_later : (vs : List Typed) → All (HasRow ns regions) vs
      → map (tree_at later longer) vs ≡ map (tree_at ns regions) vs
  trees_later [] h = refl
  trees_later (v ∷ vs) h =
      let here = tree_later v (h 0 v (omega arith)) in
      let rest = trees_later vs (λ k d l. h (suc k) d (omega arith)) in
      cc

  pub rows_later : (vs : List Typed) → All (HasRow ns regions) vs → All (HasRow later longer) vs
  rows_later vs h k d l = row_later _ (h k d l)

-- ---- the regions of a row

one_below : (n r : ℕ) → r < n → All (λ q. q < n) (r ∷ [])
one_below n r h zero d l = h
one_below n r h (suc k) d l = absurd (omega arith)

module _ (structs : List Struct) (n p : ℕ) where
  mutual
    -- a type that keeps to what is declared has a row of regions that are there
    pub row_within : (t : TypeTree) → IsWellFormed structs n p t → All (λ r. r < n) (region_row t)
    row_within int w = All-nil (λ r. r < n)
    row_within (parameter k) w = All-nil (λ r. r < n)
    row_within (reference r m t) w =
        All-append (λ r. r < n) (region_row t) (r ∷ []) (row_within t w.1) (one_below n r w.0)
    row_within (tuple ts) w = rows_within ts w
    row_within (named s rs ts) w = All-append (λ r. r < n) (region_rows ts) rs (rows_within ts w.4) w.3
    row_within (function ts t) w =
        All-append (λ r. r < n) (region_rows ts) (region_row t) (rows_within ts w.0) (row_within t w.1)

    pub rows_within : (ts : TypeTrees) → AreWellFormed structs n p ts → All (λ r. r < n) (region_rows ts)
    rows_within none w = All-nil (λ r. r < n)
    rows_within (more t ts) w =
        All-append (λ r. r < n) (region_row t) (region_rows ts) (row_within t w.0) (rows_within ts w.1)

only : (q r : ℕ) → Contains (q ∷ []) r → q ≡ r
only q r w = at w.0 w.1 w.2
  where
    at : (k : ℕ) → k < 1 → slice_index_or (q ∷ []) k r ≡ r → q ≡ r
    at zero l e = e
    at (suc k) l e = absurd (omega arith)

mutual
  -- the regions of a type are those of its row
  pub row_regions : (t : TypeTree) (r : ℕ) → HasRegion t r ↔ Contains (region_row t) r
  row_regions int r = (λ h. absurd h, λ w. (let l = w.1 in omega arith))
  row_regions (parameter k) r = (λ h. absurd h, λ w. (let l = w.1 in omega arith))
  row_regions (reference q m t) r =
      let inner = row_regions t r in (
        ⊎_elim (λ (s : q ≡ r). Contains-append_right (region_row t) (q ∷ []) r (0, omega arith, s))
            (λ h. Contains-append_left (region_row t) (q ∷ []) r (inner.0 h)),
        λ w. ⊎_elim (λ c. inr (inner.1 c)) (λ c. inl (only q r c))
            (Contains-append_cases (region_row t) (q ∷ []) r w),
      )
  row_regions (tuple ts) r = rows_regions ts r
  row_regions (named s rs ts) r =
      let inner = rows_regions ts r in (
        ⊎_elim (Contains-append_right (region_rows ts) rs r)
            (λ h. Contains-append_left (region_rows ts) rs r (inner.0 h)),
        λ w. ⊎_elim (λ c. inr (inner.1 c)) (λ c. inl c) (Contains-append_cases (region_rows ts) rs r w),
      )
  row_regions (function ts t) r =
      let first = rows_regions ts r in let last = row_regions t r in (
        ⊎_elim (λ h. Contains-append_left (region_rows ts) (region_row t) r (first.0 h))
            (λ h. Contains-append_right (region_rows ts) (region_row t) r (last.0 h)),
        λ w. ⊎_elim (λ c. inl (first.1 c)) (λ c. inr (last.1 c))
            (Contains-append_cases (region_rows ts) (region_row t) r w),
      )

  pub rows_regions : (ts : TypeTrees) (r : ℕ) → AnyHasRegion ts r ↔ Contains (region_rows ts) r
  rows_regions none r = (λ h. absurd h, λ w. (let l = w.1 in omega arith))
  rows_regions (more t ts) r =
      let first = row_regions t r in let rest = rows_regions ts r in (
        ⊎_elim (λ h. Contains-append_left (region_row t) (region_rows ts) r (first.0 h))
            (λ h. Contains-append_right (region_row t) (region_rows ts) r (rest.0 h)),
        λ w. ⊎_elim (λ c. inl (first.1 c)) (λ c. inr (rest.1 c))
            (Contains-append_cases (region_row t) (region_rows ts) r w),
      )
