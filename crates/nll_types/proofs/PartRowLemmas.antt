-- The rows of parts.
use Rattle.std.proofs.Common.{◌≡◌, ℕ, zero, suc, ◌+◌, List, [], ◌∷◌, ◌++◌, length, take, drop, ap, ◌∙◌, arith, Some}
use Rattle.std.proofs.Math.Seq.{take-append_seam}
use Rattle.nll_sets.specs.Prefix.{IsPrefix}
use Rattle.nll_types.specs.Rows.{region_row, region_rows, rows_before}
use Rattle.nll_types.specs.Types.{TypeTree, TypeTrees, none, more, type_at}

drop_past : {X : Type 0} (xs ys : List X) (n : ℕ) → drop (length xs + n) (xs ++ ys) ≡ drop n ys
drop_past [] ys n = (let e : 0 + n ≡ n = omega arith in ap (λ (m : ℕ). drop m ys) e)
drop_past (x ∷ xs) ys n =
    let e : length (x ∷ xs) + n ≡ suc (length xs + n) = omega arith in
    ap (λ (m : ℕ). drop m (x ∷ xs ++ ys)) e ∙ drop_past xs ys n

-- the row of a part begins behind those of the parts before it
pub part_row : (ts : TypeTrees) (k : ℕ) (t : TypeTree) → type_at ts k ≡ Some t
    → IsPrefix (region_row t) (drop (rows_before ts k) (region_rows ts))
part_row none k t e = absurd cc
part_row (more u ts) zero t e =
    (region_rows ts, (let same : u ≡ t = cc in ap (λ (z : TypeTree). region_row z ++ region_rows ts) same))
part_row (more u ts) (suc k) t e =
    let rest = part_row ts k t e in
    (rest.0, drop_past (region_row u) (region_rows ts) (rows_before ts k) ∙ rest.1)

-- and it is that part of the row
pub part_slice : (ts : TypeTrees) (k : ℕ) (t : TypeTree) → type_at ts k ≡ Some t
    → take (length (region_row t)) (drop (rows_before ts k) (region_rows ts)) ≡ region_row t
part_slice ts k t e =
    let rest = part_row ts k t e in
    ap (take (length (region_row t))) rest.1 ∙ take-append_seam (region_row t) rest.0
