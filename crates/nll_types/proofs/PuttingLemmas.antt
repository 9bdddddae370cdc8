-- Arguments, and parts with the arguments put in.
use Rattle.std.proofs.Common.{◌≡◌, ℕ, zero, suc, ◌<◌, ◌≤◌, List, [], ◌∷◌, length, get_or, map, refl, ap, arith}
use Rattle.nll_types.specs.Types.{TypeTrees, int, more}
use Rattle.nll_types.specs.Structs.{argument, put_in, put_in_all}
use Rattle.nll_types.specs.Views.{tree, trees, row_of_trees}
use Rattle.nll_types.specs.declared.ty.Ty.{Ty}

pub argument_past : (types : List Ty) (n : ℕ) → length types ≤ n → int ≡ argument (trees types) n
argument_past [] n h = refl
argument_past (t ∷ types) zero h = absurd (omega arith)
argument_past (t ∷ types) (suc n) h = argument_past types n (omega arith)

pub argument_view : (types : List Ty) (n : ℕ) (d : Ty) → n < length types
    → tree (get_or types n d) ≡ argument (trees types) n
argument_view [] n d h = absurd (omega arith)
argument_view (t ∷ types) zero d h = refl
argument_view (t ∷ types) (suc n) d h = argument_view types n d (omega arith)

pub put_all : (regions : List ℕ) (types : TypeTrees) (parts : List Ty)
    → row_of_trees (map (λ t. put_in regions types (tree t)) parts) ≡ put_in_all regions types (trees parts)
put_all regions types [] = refl
put_all regions types (t ∷ parts) = ap (more (put_in regions types (tree t))) (put_all regions types parts)
