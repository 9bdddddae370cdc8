-- The row of a use of a struct, and where in it the rows of its arguments are.
use Rattle.std.proofs.Common.{◌≡◌, ℕ, zero, suc, ◌+◌, ◌-◌, ◌<◌, ◌≤◌, List, [], ◌∷◌, ◌++◌, length, take, drop, refl, sym, ap, ◌∙◌, subst, append_assoc, get_or, length-append, add-one, arith}
use Rattle.std.specs.Prelude.{slice_index_or, min}
use Rattle.std.proofs.Math.Seq.{drop-nil, take-append_seam, drop-append_seam}
use Rattle.std.proofs.lemmas.List.{append-nil, drop-append-le, drop-take, drop_all, drop_min, length-take, map_push, take_min, take_more}
use Rattle.nll_types.specs.Types.{TypeTrees, none, more}
use Rattle.nll_types.specs.Shapes.{ShapeList, no_shape, more_shapes, shape_of, shapes_of}
use Rattle.nll_types.specs.Structs.{argument, put_in, put_in_all, region_in}
use Rattle.nll_types.specs.Rows.{region_row, region_rows}
use Rattle.nll_types.specs.Views.{tree, trees}
use Rattle.nll_types.specs.declared.ty.Ty.{Ty}
use Rattle.nll_rules.specs.TypeRows.{IsUseRow, row_from, row_length, rows_length, starts_from}
use Rattle.nll_rules.specs.declared.field_rows.UseRow.{UseRow}
use Rattle.nll_rules.proofs.RowSignLemmas.{row_length_of, rows_length_of}

-- ---- a part of a row

-- what lies between two places of a list, as far as the list goes
pub slice_between : (xs : List ℕ) (from to first last : ℕ) → last ≡ min to (length xs) → first ≡ min from last
    → drop first (take last xs) ≡ drop from (take to xs)
slice_between xs from to first last l f =
    ap (λ (n : ℕ). drop first (take n xs)) l ∙ ap (drop first) (take_min to xs)
    ∙ ap (λ (n : ℕ). drop n (take to xs)) (f ∙ ap (min from) (l ∙ sym (length-take to xs)))
    ∙ drop_min from (take to xs)

-- ---- rows that templates make

-- nothing lies between a place and itself
pub none_from : (row : List ℕ) (n : ℕ) → drop n (take n row) ≡ []
none_from row n = drop_all n (take n row) (omega (arith, length-take n row))

-- the region at a place is one more between that place and one before it
pub row_on : (row old before now : List ℕ) (from place : ℕ) → from ≤ place → place < length row
    → now ≡ before ++ (place + 1) ∷ [] → row_from row before ≡ row_from row old ++ drop from (take place row)
    → row_from row now ≡ row_from row old ++ drop from (take (place + 1) row)
row_on row old before now from place l m is h =
    let here : region_in row (place + 1) ≡ get_or row place 0 = ap (region_in row) (add-one place) in
    let more : drop from (take (place + 1) row) ≡ drop from (take place row) ++ get_or row place 0 ∷ [] =
    ap (drop from) (take_more row place 0 m)
    ∙ drop-append-le from (take place row) (get_or row place 0 ∷ []) (omega (arith, length-take place row)) in
    ap (row_from row) is ∙ map_push (region_in row) before (place + 1)
    ∙ ap (λ (xs : List ℕ). xs ++ region_in row (place + 1) ∷ []) h
    ∙ append_assoc (row_from row old) (drop from (take place row)) (region_in row (place + 1) ∷ [])
    ∙ ap (λ (xs : List ℕ). row_from row old ++ xs)
    (ap (λ (r : ℕ). drop from (take place row) ++ r ∷ []) here ∙ sym more)

-- what two lists that are appended, one after the other, make of a list
pub row_joined : (old middle new first second : List ℕ) → middle ≡ old ++ first → new ≡ middle ++ second
    → new ≡ old ++ (first ++ second)
row_joined old middle new first second m n =
    n ∙ ap (λ (xs : List ℕ). xs ++ second) m ∙ append_assoc old first second

-- the rows of one type more
pub rows_more : (rs : List ℕ) (ts : TypeTrees) (parts : List Ty) (part : Ty)
    → region_rows (put_in_all rs ts (trees (parts ++ part ∷ [])))
    ≡ region_rows (put_in_all rs ts (trees parts)) ++ region_row (put_in rs ts (tree part))
rows_more rs ts [] part = append-nil _
rows_more rs ts (p ∷ parts) part =
    ap (λ (xs : List ℕ). region_row (put_in rs ts (tree p)) ++ xs) (rows_more rs ts parts part)
    ∙ sym (append_assoc (region_row (put_in rs ts (tree p))) _ _)

-- ---- where rows begin

-- the first row begins at the first place
pub first_start : (n : ℕ) (ss : ShapeList) (d : ℕ) → slice_index_or (starts_from n ss) 0 d ≡ n
first_start n no_shape d = refl
first_start n (more_shapes s ss) d = refl

-- there is one place more than there are shapes, so at least one
pub some_start : (n : ℕ) (ss : ShapeList) → (k : ℕ) × (length (starts_from n ss) ≡ suc k)
some_start n no_shape = (0, refl)
some_start n (more_shapes s ss) = (length (starts_from (n + row_length s) ss), omega arith)

-- the last place is where the last row ends
pub last_start : (n : ℕ) (ss : ShapeList) (d : ℕ)
    → slice_index_or (starts_from n ss) (length (starts_from n ss) - 1) d ≡ n + rows_length ss
last_start n no_shape d = omega arith
last_start n (more_shapes s ss) d =
    let m = n + row_length s in
    let some = some_start m ss in
    let rest = last_start m ss d in
    let here : length (n ∷ starts_from m ss) - 1 ≡ suc (length (starts_from m ss) - 1) = omega arith in
    ap (λ (k : ℕ). slice_index_or (n ∷ starts_from m ss) k d) here ∙ rest ∙ (omega arith)

-- ---- the arguments

-- between two places is the row of one argument
pub argument_between : (before : List ℕ) (ts : TypeTrees) (rest : List ℕ) (k : ℕ)
    → drop (slice_index_or (starts_from (length before) (shapes_of ts)) k 0)
    (take (slice_index_or (starts_from (length before) (shapes_of ts)) (suc k) 0)
    (before ++ (region_rows ts ++ rest))) ≡ region_row (argument ts k)
argument_between before none rest k = drop-nil _
argument_between before (more t ts) rest zero =
    grind (arith, first_start, drop-take, drop-append_seam, row_length_of, append_assoc, take-append_seam)
argument_between before (more t ts) rest (suc k) =
    let more' = before ++ region_row t in
    let long : length more' ≡ length before + row_length (shape_of t) =
    omega (arith, length-append before (region_row t), row_length_of t) in
    let same : before ++ (region_row t ++ region_rows ts ++ rest) ≡ more' ++ (region_rows ts ++ rest) =
    ap (λ (xs : List ℕ). before ++ xs) (append_assoc (region_row t) (region_rows ts) rest)
    ∙ sym (append_assoc before (region_row t) (region_rows ts ++ rest)) in
    let starts = λ (n : ℕ). starts_from n (shapes_of ts) in
    ap (λ (xs : List ℕ). drop (slice_index_or (starts (length before + row_length (shape_of t))) k 0)
    (take (slice_index_or (starts (length before + row_length (shape_of t))) (suc k) 0) xs)) same
    ∙ subst (λ (n : ℕ). drop (slice_index_or (starts n) k 0) (take (slice_index_or (starts n) (suc k) 0)
    (more' ++ (region_rows ts ++ rest))) ≡ region_row (argument ts k)) long (argument_between more' ts rest k)

-- ---- the row of a use

-- The row of a struct with its arguments, with the places where the rows of its type arguments
-- begin, is that of a use of the struct with these arguments: the region arguments begin where the
-- last of the rows of type arguments ends.
pub is_use_row : (u : UseRow) (row rs : List ℕ) (ts : TypeTrees) (d : ℕ) → length row ≡ u.count
    → row ≡ region_rows ts ++ rs → u.starts.now ≡ starts_from 0 (shapes_of ts)
    → u.regions ≡ slice_index_or u.starts.now (length u.starts.now - 1) d → IsUseRow u row rs ts
is_use_row u row rs ts d count is starts own =
    let last : u.regions ≡ rows_length (shapes_of ts) =
    own ∙ ap (λ (xs : List ℕ). slice_index_or xs (length xs - 1) d) starts ∙ last_start 0 (shapes_of ts) d
    ∙ (omega arith) in record {
      counted = count;
      regions =
          ap (λ (n : ℕ). drop n row) (last ∙ rows_length_of ts) ∙ ap (drop (length (region_rows ts))) is
          ∙ drop-append_seam (region_rows ts) rs;
      types = λ k. ap (λ (m : ℕ). drop (slice_index_or u.starts.now k 0)
          (take (slice_index_or u.starts.now m 0) row)) (add-one k)
          ∙ ap (λ (xs : List ℕ). drop (slice_index_or xs k 0) (take (slice_index_or xs (suc k) 0) row)) starts
          ∙ ap (λ (xs : List ℕ). drop (slice_index_or (starts_from 0 (shapes_of ts)) k 0)
          (take (slice_index_or (starts_from 0 (shapes_of ts)) (suc k) 0) xs)) is ∙ argument_between [] ts rs k;
    }
