-- Types that keep to what is declared, looked at one by one.
use Rattle.std.proofs.Common.{◌≡◌, ℕ, suc, ◌<◌, List, [], ◌∷◌, length, ◌∙◌, refl, arith}
use Rattle.std.specs.Prelude.{slice_get, Some, All}
use Rattle.std.proofs.lemmas.List.{length-map}
use Rattle.nll_types.specs.Types.{named, type_count}
use Rattle.nll_types.specs.Structs.{Struct, struct_at, IsWellFormed, AreWellFormed}
use Rattle.nll_types.specs.Views.{tree, trees}
use Rattle.nll_types.specs.Declarations.{declared, structs_of}
use Rattle.nll_types.specs.declared.structs.Declaration.{Declaration}
use Rattle.nll_types.specs.declared.ty.Ty.{Ty}

-- the first types of the row keep to what is declared
abbrev pub AreGoodBelow : List Struct → ℕ → ℕ → List Ty → ℕ → Type 0
AreGoodBelow structs n p types k = (j : ℕ) (t : Ty) → j < k → slice_get types j ≡ Some t
    → IsWellFormed structs n p (tree t)

pub good_all : (structs : List Struct) (n p : ℕ) (types : List Ty) → AreGoodBelow structs n p types (length types)
    → AreWellFormed structs n p (trees types)
good_all structs n p [] good = tt
good_all structs n p (t ∷ types) good =
    (good 0 t (omega arith) refl, good_all structs n p types (λ j u l e. good (suc j) u (omega arith) e))

-- a row has as many types as the list
count_trees : (ts : List Ty) → type_count (trees ts) ≡ length ts
count_trees [] = refl
count_trees (t ∷ ts) = (let e = count_trees ts in omega arith)

-- a struct that takes so many region arguments and type arguments
pub named_good : (ds : List Declaration) (n p s : ℕ) (rs : List ℕ) (ts : List Ty) → s < length ds
    → length rs ≡ length (struct_at (structs_of ds) s).regions → length ts ≡ length (struct_at (structs_of ds) s).types
    → All (λ r. r < n) rs → AreWellFormed (structs_of ds) n p (trees ts)
    → IsWellFormed (structs_of ds) n p (named s rs (trees ts))
named_good ds n p s rs ts within regions types below good =
    (omega (arith, length-map ds declared), regions, count_trees ts ∙ types, below, good)
