-- Shapes that are made part by part.
use Rattle.std.proofs.Common.{◌≡◌, ℕ, zero, suc, ◌+◌, ◌<◌, ◌≤◌, List, [], ◌∷◌, ◌++◌, length, get_or, map, take, refl, sym, ap, ◌∙◌, arith, ⊎_elim}
use Rattle.std.specs.Prelude.{slice_index}
use Rattle.std.proofs.lemmas.Bool.{cases_lt}
use Rattle.std.proofs.lemmas.List.{get_or_append_left, length-append, map_push, take_more}
use Rattle.std.proofs.Math.Seq.{get_or-append_seam, take-length}
use Rattle.nll_types.specs.Views.{tree, trees}
use Rattle.nll_types.specs.Shapes.{Shape, ShapeList, int_shape, shape_of, shapes_of, argument_shape, put_in_shape, put_in_shapes}
use Rattle.nll_types.specs.Table.{at, all_at, shapes_in, shape_in, Extends, AreBelow, IsOver}
use Rattle.nll_types.specs.Tables.{Tables, AddsShapes}
use Rattle.std.specs.Global.{Vec}
use Rattle.nll_types.specs.declared.node.Node.{Node}
use Rattle.nll_types.specs.declared.node.Node.TheVariants.{Function}
use Rattle.nll_types.specs.declared.ty.Ty.{Ty}
use Rattle.nll_types.proofs.TableLemmas.{all_kept}

pub argument_at : (known : List Shape) (is : List ℕ) (i : ℕ) → i < length is
    → at known (slice_index is i) ≡ argument_shape (all_at known is) i
argument_at known [] i h = absurd (omega arith)
argument_at known (x ∷ is) zero h = refl
argument_at known (x ∷ is) (suc i) h = argument_at known is i (omega arith)

pub argument_past : (known : List Shape) (is : List ℕ) (i : ℕ) → length is ≤ i
    → int_shape ≡ argument_shape (all_at known is) i
argument_past known [] i h = refl
argument_past known (x ∷ is) zero h = absurd (omega arith)
argument_past known (x ∷ is) (suc i) h = argument_past known is i (omega arith)

pub extends_same : (a : List Node) → Extends a a
extends_same a = grind arith

pub extends_then : (a b c : List Node) → Extends a b → Extends b c → Extends a c
extends_then a b c x y = grind arith

-- a table that stays as it is
pub grows_same : (t : Tables) → AddsShapes t t
grows_same t = grind (arith, extends_same)

-- a table that grows twice
pub grows_then : (a b c : Tables) → AddsShapes a b → AddsShapes b c → AddsShapes a c
grows_then a b c x y = grind (arith, extends_then)

pub below_more : (m n : ℕ) (is : List ℕ) → m ≤ n → AreBelow m is → AreBelow n is
below_more m n is h b = λ k l. (let x = b k l in omega arith)

pub below_push : (n i : ℕ) (is : List ℕ) → AreBelow n is → i < n → AreBelow n (is ++ i ∷ [])
below_push n i is b h = λ k l. ⊎_elim
    (λ s. rw (get_or_append_left is (i ∷ []) 0 k s) (b k s))
    (λ s. let e : k ≡ length is = omega (arith, length-append is (i ∷ [])) in rw (e, get_or-append_seam is i [] 0) h)
    (cases_lt k (length is))

-- the parts of a function are below n where its result and its arguments are
pub over_function : (n t : ℕ) (ts : Vec ℕ) → t < n → AreBelow n ts.items → IsOver n (Function ts t)
over_function n t ts h b zero l = h
over_function n t ts h b (suc k) l = b k (omega arith)

-- the shapes of numbers stay
pub kept_at : (old new : List Node) (is : List ℕ) → Extends old new → AreBelow (length old) is
    → all_at (shapes_in new) is ≡ all_at (shapes_in old) is
kept_at old new is e b = all_kept (shapes_in old) (shapes_in new) (length old) e.kept is b

map_kept : (old new : List Shape) (n : ℕ) → ((i : ℕ) → i < n → at new i ≡ at old i) → (is : List ℕ) → AreBelow n is
    → map (at new) is ≡ map (at old) is
map_kept old new n keeps [] small = refl
map_kept old new n keeps (i ∷ is) small =
    let here = keeps i (small 0 (omega arith)) in
    let rest = map_kept old new n keeps is (λ k h. small (suc k) (omega arith)) in
    cc

-- what the parts so far have become
pub record IsShaping (first table : List Node) (arguments : List ℕ) (parts : List Ty) (made : List ℕ)
    (n : ℕ) : Type 0 where
  pub extends : Extends first table
  pub within : AreBelow (length table) made
  pub at_each : AreBelow (length first) arguments
      → map (at (shapes_in table)) made ≡ map
      (λ t. put_in_shape (all_at (shapes_in first) arguments) (shape_of (tree t))) (take n parts)

pub shaping_more : (first table next : List Node) (arguments : List ℕ) (parts : List Ty) (made : List ℕ) (n i : ℕ)
    (part : Ty) → n < length parts → part ≡ get_or parts n part
    → IsShaping first table arguments parts made n → Extends table next → i < length next
    → (AreBelow (length table) arguments
    → shape_in next i ≡ put_in_shape (all_at (shapes_in table) arguments) (shape_of (tree part)))
    → IsShaping first next arguments parts (made ++ i ∷ []) (n + 1)
shaping_more first table next arguments parts made n i part l is s e within shape = record {
  extends = extends_then first table next s.extends e;
  within = below_push (length next) i made (below_more (length table) (length next) made e.longer s.within) within;
  at_each = λ b.
      let x = s.extends in
      let f : Ty → Shape = λ t. put_in_shape (all_at (shapes_in first) arguments) (shape_of (tree t)) in
      let here : shape_in next i ≡ f part = shape (below_more (length first) (length table) arguments x.longer b)
      ∙ ap (λ (z : ShapeList). put_in_shape z (shape_of (tree part))) (kept_at first table arguments x b) in
      map_push (at (shapes_in next)) made i
      ∙ ap (λ (z : List Shape). z ++ shape_in next i ∷ [])
      (map_kept (shapes_in table) (shapes_in next) (length table) e.kept made s.within ∙ s.at_each b)
      ∙ ap (λ (z : Shape). map f (take n parts) ++ z ∷ []) here
      ∙ sym (map_push f (take n parts) part)
      ∙ ap (λ (z : List Ty). map f z) (ap (λ (z : Ty). take n parts ++ z ∷ []) is ∙ sym (take_more parts n part l));
}

row_same : (known : List Shape) (args : ShapeList) (made : List ℕ) (parts : List Ty)
    → map (at known) made ≡ map (λ t. put_in_shape args (shape_of (tree t))) parts
    → all_at known made ≡ put_in_shapes args (shapes_of (trees parts))
row_same known args [] [] e = refl
row_same known args [] (t ∷ parts) e = absurd cc
row_same known args (i ∷ made) [] e = absurd cc
row_same known args (i ∷ made) (t ∷ parts) e =
    let here : at known i ≡ put_in_shape args (shape_of (tree t)) = cc in
    let there : map (at known) made ≡ map (λ t. put_in_shape args (shape_of (tree t))) parts = cc in
    let rest = row_same known args made parts there in
    cc

pub shaping_all : (first table : List Node) (arguments : List ℕ) (parts : List Ty) (made : List ℕ) (n : ℕ)
    → n ≡ length parts → IsShaping first table arguments parts made n
    → AreBelow (length first) arguments
    → all_at (shapes_in table) made ≡ put_in_shapes (all_at (shapes_in first) arguments) (shapes_of (trees parts))
shaping_all first table arguments parts made n whole s b =
    row_same (shapes_in table) (all_at (shapes_in first) arguments) made parts
    (s.at_each b ∙ ap (map (λ t. put_in_shape (all_at (shapes_in first) arguments) (shape_of (tree t))))
    (ap (λ (z : ℕ). take z parts) whole ∙ take-length parts))
