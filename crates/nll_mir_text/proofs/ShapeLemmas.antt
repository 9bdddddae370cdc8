-- The parts of a tuple are small where their shapes are.
use Rattle.std.proofs.Common.{◌≡◌, ℕ, List, [], ◌∷◌, sym, ap, ◌∙◌}
use Rattle.std.specs.Prelude.{nat_le}
use Rattle.nll_problem.specs.Limits.{most_nodes}
use Rattle.std.specs.List.{list_all}
use Rattle.nll_types.specs.Types.{TypeTree, TypeTrees, none, more}
use Rattle.nll_types.specs.Shapes.{Shape, ShapeList, shape_of, shapes_of, is_small, is_small_shape, int_shape, tuple_shape, no_shape, more_shapes}
use Rattle.nll_types.specs.Table.{shape_in, shapes_in, all_at}
use Rattle.nll_types.specs.declared.node.Node.{Node}
use Rattle.nll_types.proofs.ShapeLemmas.{same_nodes}
use Rattle.nll_body.specs.Typing.{are_small}

-- the smallness of a type is that of its shape
pub small_of_shape : (t : TypeTree) (s : Shape) → s ≡ shape_of t → is_small_shape s ≡ is_small t
small_of_shape t s h = ap is_small_shape h ∙ ap (λ n. nat_le n most_nodes) (sym (same_nodes t))

-- ---- parts of a tuple

abbrev inside : Shape → ShapeList
inside (tuple_shape ts) = ts
inside _ = no_shape

abbrev first_part : ShapeList → Shape
first_part no_shape = int_shape
first_part (more_shapes s ss) = s

abbrev other_parts : ShapeList → ShapeList
other_parts no_shape = no_shape
other_parts (more_shapes s ss) = ss

all_small : (shapes : List Node) (ks : List ℕ) (ts : TypeTrees) → all_at (shapes_in shapes) ks ≡ shapes_of ts
    → list_all (λ k. is_small_shape (shape_in shapes k)) ks ≡ are_small ts
all_small shapes [] none h = cc
all_small shapes [] (more t ts) h = absurd cc
all_small shapes (k ∷ ks) none h = absurd cc
all_small shapes (k ∷ ks) (more t ts) h =
    let here : is_small_shape (shape_in shapes k) ≡ is_small t =
    small_of_shape t (shape_in shapes k) (ap first_part h) in
    let rest : list_all (λ j. is_small_shape (shape_in shapes j)) ks ≡ are_small ts =
    all_small shapes ks ts (ap other_parts h) in
    cc

-- the parts of a tuple are small where their shapes are
pub parts_small : (shapes : List Node) (ks : List ℕ) (ts : TypeTrees)
    → tuple_shape (all_at (shapes_in shapes) ks) ≡ tuple_shape (shapes_of ts)
    → list_all (λ k. is_small_shape (shape_in shapes k)) ks ≡ are_small ts
parts_small shapes ks ts h = all_small shapes ks ts (ap inside h)
