-- Rows in two lists.
use Rattle.std.proofs.Common.{◌≡◌, ℕ, zero, suc, ◌+◌, ◌-◌, ◌<◌, ◌≤◌, min, Bool, true, false, List, ◌++◌, length, take, drop, refl, ap, ◌∙◌, arith}
use Rattle.std.specs.Prelude.{nat_lt, if◌then◌else◌}
use Rattle.std.proofs.lemmas.Bool.{cases_lt, cond_above, cond_below, ltb-false, ltb-true}
use Rattle.std.proofs.lemmas.List.{length-take, length-take-le, length-drop, take-append-le, drop-append-le}
use Rattle.nll_rules.proofs.TypeRowLemmas.{part_of_part}
use Rattle.nll_rules.specs.TypeRows.{IsWholeRow, row_in}
use Rattle.nll_rules.specs.declared.type_row.TypeRow.{TypeRow}

-- a part of a list that is there whole stays where the list grows
part_grown : (made more : List ℕ) (k n : ℕ) → length (take n (drop k made)) ≡ n
    → take n (drop k (made ++ more)) ≡ take n (drop k made)
part_grown made more k zero is = refl
part_grown made more k (suc n) is =
    let l : suc n ≤ length (drop k made) = omega (arith, is, length-take (suc n) (drop k made)) in
    let m : k ≤ length made = omega (arith, l, length-drop k made) in
    ap (take (suc n)) (drop-append-le k made more m) ∙ take-append-le (suc n) (drop k made) more l

-- a row that is there whole stays where more rows are made
pub row_grown : (body made more : List ℕ) (c : TypeRow) → IsWholeRow (row_in body made c) c
    → row_in body (made ++ more) c ≡ row_in body made c
row_grown body made more c = by (nat_lt c.first (length body))
  where
    by : (b : Bool)
        → length (take c.count (if b then drop c.first body else drop (c.first - length body) made)) ≡ c.count
        → take c.count (if b then drop c.first body else drop (c.first - length body) (made ++ more))
        ≡ take c.count (if b then drop c.first body else drop (c.first - length body) made)
    by true is = refl
    by false is = part_grown made more (c.first - length body) c.count is

-- a row of the body's list
pub written_in : (body made : List ℕ) (shape first n : ℕ) → n ≤ length (drop first body)
    → row_in body made (record { shape = shape; first = first; count = n }) ≡ take n (drop first body)
written_in body made shape first n l = by n (nat_lt first (length body)) refl l
  where
    by : (n : ℕ) (b : Bool) → nat_lt first (length body) ≡ b → n ≤ length (drop first body)
        → take n (if b then drop first body else drop (first - length body) made) ≡ take n (drop first body)
    by n true is l = refl
    by zero false is l = refl
    by (suc n) false is l = absurd (omega (arith, ltb-false first (length body) is, length-drop first body))

-- what is from a place on in the list of that place
abbrev rest : List ℕ → List ℕ → ℕ → List ℕ
rest body made f = if nat_lt f (length body) then drop f body else drop (f - length body) made

-- a part of a row is from a further place on
further : (body made : List ℕ) (f c i j : ℕ) → i < j → j ≤ length (take c (rest body made f))
    → take (j - i) (rest body made (min f (length body + length made) + i))
    ≡ take (j - i) (drop i (take c (rest body made f)))
further body made f c i j l = by (nat_lt f (length body)) refl
  where
    at : min f (length body + length made) ≡ f → take (j - i) (rest body made (min f (length body + length made) + i))
        ≡ take (j - i) (rest body made (f + i))
    at e = ap (λ (z : ℕ). take (j - i) (rest body made (z + i))) e

    by : (b : Bool) → nat_lt f (length body) ≡ b
        → j ≤ length (take c (if b then drop f body else drop (f - length body) made))
        → take (j - i) (rest body made (min f (length body + length made) + i))
        ≡ take (j - i) (drop i (take c (if b then drop f body else drop (f - length body) made)))
    by true is m = grind (arith, ltb-true, length-take, length-drop, at, cond_below, part_of_part)
    by false is m = grind (arith, ltb-false, length-take, length-drop, at, cond_above, part_of_part)

-- a part of a row is a row
pub part_in : (body made : List ℕ) (shape : ℕ) (c : TypeRow) (i j : ℕ) → i ≤ j → j ≤ length (row_in body made c)
    → row_in body made (record { shape = shape; first = min c.first (length body + length made) + i; count = j - i })
    ≡ take (j - i) (drop i (row_in body made c))
part_in body made shape c i j l m = grind (arith, further, cases_lt)

-- a part of a row has as many regions as there are places in it
pub part_whole : (row : List ℕ) (i j : ℕ) → i ≤ j → j ≤ length row → length (take (j - i) (drop i row)) ≡ j - i
part_whole row i j l m = length-take-le (j - i) (drop i row) (omega (arith, length-drop i row))
