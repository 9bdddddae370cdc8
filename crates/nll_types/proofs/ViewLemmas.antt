-- What the tree of a type is, form by form.
use Rattle.std.proofs.Common.{◌≡◌, ℕ, zero, suc, Bool, List, [], ◌∷◌, refl, sym, ap, ◌∙◌, slice_get, ◌<◌, length, Option, None, Some, arith}
use Rattle.std.specs.Borrow.{Bor}
use Rattle.std.specs.Prelude.{MatchOption, option_map}
use Rattle.std.specs.Option.{option_copied}
use Rattle.std.specs.Slice.{IsItemAt}
use Rattle.std.proofs.lemmas.Option.{slice_get_past, slice_get_read}
use Rattle.std.specs.Global.{Vec, Box}
use Rattle.nll_types.specs.Types.{TypeTree, int, parameter, reference, tuple, named, function, type_at, type_count}
use Rattle.nll_types.specs.Views.{tree, trees, layer}
use Rattle.nll_types.specs.declared.ty.Ty.{Ty}
use Rattle.nll_types.specs.declared.ty.Ty.TheOpen as layers
use Rattle.nll_types.specs.declared.ty.Ty.TheVariants.{Int, Parameter, Reference, Tuple, Named, Function, rolls-Int, rolls-Parameter, rolls-Reference, rolls-Tuple, rolls-Named, rolls-Function}
use Rattle.nll_types.specs.declared.ty.Ty.TheFolds.{fold-roll-Ty}

pub tree_int : tree Int ≡ int
tree_int = ap tree (sym rolls-Int) ∙ fold-roll-Ty TypeTree layer layers.Int

pub tree_parameter : (k : ℕ) → tree (Parameter k) ≡ parameter k
tree_parameter k = ap tree (sym (rolls-Parameter k)) ∙ fold-roll-Ty TypeTree layer (layers.Parameter k)

pub tree_reference : (r : ℕ) (m : Bool) (b : Box Ty) → tree (Reference r m b) ≡ reference r m (tree b.value)
tree_reference r m b = ap tree (sym (rolls-Reference r m b)) ∙ fold-roll-Ty TypeTree layer (layers.Reference r m b)

pub tree_tuple : (parts : Vec Ty) → tree (Tuple parts) ≡ tuple (trees parts.items)
tree_tuple parts = ap tree (sym (rolls-Tuple parts)) ∙ fold-roll-Ty TypeTree layer (layers.Tuple parts)

pub tree_named : (s : ℕ) (rs : Vec ℕ) (ts : Vec Ty) → tree (Named s rs ts) ≡ named s rs.items (trees ts.items)
tree_named s rs ts = ap tree (sym (rolls-Named s rs ts)) ∙ fold-roll-Ty TypeTree layer (layers.Named s rs ts)

pub tree_function : (ts : Vec Ty) (b : Box Ty) → tree (Function ts b) ≡ function (trees ts.items) (tree b.value)
tree_function ts b = ap tree (sym (rolls-Function ts b)) ∙ fold-roll-Ty TypeTree layer (layers.Function ts b)

-- the type at a place of a row
pub type_at_trees : (ts : List Ty) (k : ℕ) → type_at (trees ts) k ≡ option_map tree (slice_get ts k)
type_at_trees [] k = refl
type_at_trees (t ∷ ts) zero = refl
type_at_trees (t ∷ ts) (suc k) = type_at_trees ts k

pub type_at_item : (ts : List Ty) (k : ℕ) (t : Ty) → slice_get ts k ≡ Some t → type_at (trees ts) k ≡ Some (tree t)
type_at_item ts k t e = type_at_trees ts k ∙ ap (option_map tree) e

-- what a look-up at a place gives, copied
pub copied_item : {X : Type 0} (xs : List X) (k : ℕ) (r : Option (Bor X)) → IsItemAt xs k r
    → option_copied r ≡ slice_get xs k
copied_item xs k None h = sym (slice_get_past xs k h.3)
copied_item xs k (Some x) h = sym (slice_get_read xs _ k x.now refl h.3.0 h.1)

-- the type that a look-up at a place gives
pub type_got : (ts : List Ty) (k : ℕ) (r : Option (Bor Ty)) → IsItemAt ts k r
    → MatchOption r (type_at (trees ts) k ≡ None) (λ t. type_at (trees ts) k ≡ Some (tree t.now))
type_got ts k None h = type_at_trees ts k ∙ ap (option_map tree) (slice_get_past ts k h.3)
type_got ts k (Some t) h = type_at_item ts k t.now (slice_get_read ts _ k t.now refl h.3.0 h.1)

pub type_within : (ts : List Ty) (k : ℕ) (u : TypeTree) → type_at (trees ts) k ≡ Some u → k < length ts
type_within [] k u e = absurd cc
type_within (t ∷ ts) zero u e = omega arith
type_within (t ∷ ts) (suc k) u e = (let l = type_within ts k u e in omega arith)

-- a row has as many types as the list
pub count_trees : (ts : List Ty) → type_count (trees ts) ≡ length ts
count_trees [] = refl
count_trees (t ∷ ts) = (let e = count_trees ts in omega arith)
