-- Types that are made of shapes and regions, one after another.
use Rattle.std.proofs.Common.{◌≡◌, ℕ, zero, suc, ◌+◌, ◌<◌, ◌≤◌, List, [], ◌∷◌, ◌++◌, length, get_or, take, refl, sym, ap, ◌∙◌, arith}
use Rattle.std.specs.Prelude.{slice_index}
use Rattle.std.proofs.lemmas.List.{take_more}
use Rattle.nll_types.specs.Types.{TypeTree, TypeTrees, none, more}
use Rattle.nll_types.specs.Shapes.{Shape, shape_nodes, shape_nodes_of_all}
use Rattle.nll_types.specs.Table.{at, all_at}
use Rattle.nll_types.specs.Rows.{filled, all_filled}
use Rattle.nll_types.specs.Views.{tree, trees}
use Rattle.nll_types.specs.declared.ty.Ty.{Ty}
use Rattle.nll_types.proofs.RowLemmas.{AllFilled}

-- a row of types, and one more
abbrev and_one : TypeTrees → TypeTree → TypeTrees
and_one none u = more u none
and_one (more t ts) u = more t (and_one ts u)

trees_push : (made : List Ty) (t : Ty) → trees (made ++ t ∷ []) ≡ and_one (trees made) (tree t)
trees_push [] t = refl
trees_push (u ∷ made) t = ap (more (tree u)) (trees_push made t)

-- the types are those of the shapes of these numbers and of the first of the regions, and the rest of the regions
abbrev pub AreFilled : List Shape → List ℕ → List ℕ → List Ty → List ℕ → Type 0
AreFilled known is rs made rest = ◌≡◌ {A = AllFilled} (all_filled (all_at known is) rs) (trees made, rest)

filled_push : (known : List Shape) (is : List ℕ) (i : ℕ) (rs : List ℕ)
    → ◌≡◌ {A = AllFilled} (all_filled (all_at known (is ++ i ∷ [])) rs) (
      and_one (all_filled (all_at known is) rs).0 (filled (at known i) (all_filled (all_at known is) rs).1).0,
      (filled (at known i) (all_filled (all_at known is) rs).1).1,
    )
filled_push known [] i rs = refl
filled_push known (j ∷ is) i rs =
    ap (λ (q : AllFilled). (more (filled (at known j) rs).0 q.0, q.1))
    (filled_push known is i (filled (at known j) rs).1)

pub filled_more : (known : List Shape) (is : List ℕ) (k d : ℕ) (rs : List ℕ) (made : List Ty) (rest next : List ℕ)
    (t : Ty) → k < length is → AreFilled known (take k is) rs made rest
    → tree t ≡ (filled (at known (get_or is k d)) rest).0 → next ≡ (filled (at known (get_or is k d)) rest).1
    → AreFilled known (take (k + 1) is) rs (made ++ t ∷ []) next
filled_more known is k d rs made rest next t l h a b =
    let i = get_or is k d in
    ap (λ (js : List ℕ). all_filled (all_at known js) rs) (take_more is k d l)
    ∙ filled_push known (take k is) i rs
    ∙ ap (λ (p : AllFilled). (and_one p.0 (filled (at known i) p.1).0, (filled (at known i) p.1).1)) h
    ∙ ap (λ (u : TypeTree). (and_one (trees made) u, (filled (at known i) rest).1)) (sym a)
    ∙ ap (λ (qs : List ℕ). (and_one (trees made) (tree t), qs)) (sym b)
    ∙ ap (λ (ts : TypeTrees). (ts, next)) (sym (trees_push made t))

pub passed_more : (known : List Shape) (is : List ℕ) (k d : ℕ) (rs rest next : List ℕ) → k < length is
    → rest ≡ (all_filled (all_at known (take k is)) rs).1 → next ≡ (filled (at known (get_or is k d)) rest).1
    → next ≡ (all_filled (all_at known (take (k + 1) is)) rs).1
passed_more known is k d rs rest next l h e =
    let i = get_or is k d in
    e ∙ ap (λ (qs : List ℕ). (filled (at known i) qs).1) h
    ∙ sym (ap (λ (p : AllFilled). p.1) (filled_push known (take k is) i rs))
    ∙ sym (ap (λ (js : List ℕ). (all_filled (all_at known js) rs).1) (take_more is k d l))

-- a part has at most as many nodes as all parts together
pub part_nodes : (known : List Shape) (is : List ℕ) (k : ℕ) → k < length is
    → shape_nodes (at known (slice_index is k)) ≤ shape_nodes_of_all (all_at known is)
part_nodes known [] k l = absurd (omega arith)
part_nodes known (i ∷ is) zero l = omega arith
part_nodes known (i ∷ is) (suc k) l = (let h = part_nodes known is k (omega arith) in omega arith)
