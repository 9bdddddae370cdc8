-- Parts of rows.
use Rattle.std.proofs.Common.{◌≡◌, ℕ, suc, ◌+◌, ◌-◌, ◌<◌, ◌≤◌, List, length, take, drop, sym, ap, ◌∙◌, refl, zero, length-append, arith, None, Some}
use Rattle.std.specs.Prelude.{slice_index_or}
use Rattle.std.proofs.lemmas.List.{length-take, length-drop, take-take, drop-drop, drop-take}
use Rattle.std.proofs.lemmas.Option.{get_or_from_slice_get}
use Rattle.nll_types.specs.Rows.{region_row, region_rows, rows_before}
use Rattle.nll_types.specs.Shapes.{shape_of, shapes_of}
use Rattle.nll_types.specs.Types.{TypeTree, TypeTrees, none, more, type_at, type_count}
use Rattle.nll_types.proofs.PartRowLemmas.{part_row, part_slice}
use Rattle.nll_rules.specs.TypeRows.{row_length, starts_from}
use Rattle.nll_rules.proofs.RowSignLemmas.{end_at, start_at}

-- a part of a part of a list
pub part_of_part : (xs : List ℕ) (f c i j : ℕ) → i ≤ j → j ≤ length (take c (drop f xs))
    → take (j - i) (drop (f + i) xs) ≡ take (j - i) (drop i (take c (drop f xs)))
part_of_part xs f c i j l m =
    let n : j ≤ c = omega (arith, length-take c (drop f xs)) in
    let e : i + (c - i) ≡ c = omega arith in
    let k : j - i ≤ c - i = omega arith in
    sym (ap (λ (z : ℕ). take (j - i) (drop i (take z (drop f xs)))) (sym e)
    ∙ ap (take (j - i)) (drop-take i (c - i) (drop f xs))
    ∙ take-take (j - i) (c - i) (drop i (drop f xs)) k
    ∙ ap (take (j - i)) (drop-drop i f xs))

-- ---- parts of tuples

pub type_there : (ts : TypeTrees) (k : ℕ) → k < type_count ts → (t : TypeTree) × (type_at ts k ≡ Some t)
type_there none k l = absurd (omega arith)
type_there (more t ts) zero l = (t, refl)
type_there (more t ts) (suc k) l = type_there ts k (omega arith)

pub no_type : (ts : TypeTrees) (k : ℕ) → type_count ts ≤ k → type_at ts k ≡ None
no_type none k l = refl
no_type (more t ts) zero l = absurd (omega arith)
no_type (more t ts) (suc k) l = no_type ts k (omega arith)

-- there is one place more than there are parts
pub starts_counted : (starts : List ℕ) (ts : TypeTrees) → starts ≡ starts_from 0 (shapes_of ts)
    → length starts ≡ type_count ts + 1
starts_counted starts ts at = ap length at ∙ counted 0 ts
  where
    counted : (n : ℕ) (ts : TypeTrees) → length (starts_from n (shapes_of ts)) ≡ type_count ts + 1
    counted n none = refl
    counted n (more t ts) = (let e = counted (n + row_length (shape_of t)) ts in omega arith)

-- The row of a part is between these places.
pub record IsBetween (row : List ℕ) (t : TypeTree) (from end' : ℕ) : Type 0 where
  pub onward : from ≤ end'
  pub within : end' ≤ length row
  pub part : take (end' - from) (drop from row) ≡ region_row t

-- so many regions are before the end of a part
part_end : (ts : TypeTrees) (k : ℕ) (t : TypeTree) → type_at ts k ≡ Some t
    → rows_before ts k + length (region_row t) ≤ length (region_rows ts)
part_end ts k t e =
    let rest = part_row ts k t e in
    let whole = ap length rest.1 in
    let some = row_of_none ts k in
    omega (arith, length-drop (rows_before ts k) (region_rows ts), length-append (region_row t) rest.0)
  where
    row_of_none : (ts : TypeTrees) (k : ℕ) → rows_before ts k ≤ length (region_rows ts)
    row_of_none ts zero = omega arith
    row_of_none none (suc k) = omega arith
    row_of_none (more u ts) (suc k) = omega (arith, row_of_none ts k, length-append (region_row u) (region_rows ts))

pub part_between : (row starts : List ℕ) (ts : TypeTrees) (k : ℕ) (t : TypeTree)
    → starts ≡ starts_from 0 (shapes_of ts) → row ≡ region_rows ts → type_at ts k ≡ Some t
    → IsBetween row t (slice_index_or starts k 0) (slice_index_or starts (k + 1) 0)
part_between row starts ts k t at is e =
    let l = part_end ts k t e in
    let from : slice_index_or starts k 0 ≡ rows_before ts k =
    ap (λ (xs : List ℕ). slice_index_or xs k 0) at ∙ get_or_from_slice_get _ k _ 0 (start_at ts k t e) in
    let end' : slice_index_or starts (k + 1) 0 ≡ rows_before ts k + length (region_row t) =
    ap (λ (xs : List ℕ). slice_index_or xs (k + 1) 0) at
    ∙ get_or_from_slice_get _ (k + 1) _ 0 (end_at ts k t e) in
    let far : (rows_before ts k + length (region_row t)) - rows_before ts k ≡ length (region_row t) = omega arith in
    rw (from, end') (record {
      onward = omega arith;
      within = omega (arith, ap length is);
      part = ap (λ (n : ℕ). take n (drop (rows_before ts k) row)) far
          ∙ ap (λ (xs : List ℕ). take (length (region_row t)) (drop (rows_before ts k) xs)) is
          ∙ part_slice ts k t e;
    })
