-- A copy of a table of shapes.
use Rattle.std.proofs.Common.{◌≡◌, ℕ, ◌+◌, ◌<◌, List, [], ◌∷◌, ◌++◌, length, refl, sym, ap, ◌∙◌, subst, arith}
use Rattle.std.specs.Prelude.{slice_index, min}
use Rattle.std.specs.List.{AllZip, each_same}
use Rattle.std.proofs.lemmas.List.Elements.{AllZip-get_or, length_all_zip}
use Rattle.nll_problem.specs.Limits.{most_nodes}
use Rattle.nll_types.specs.Shapes.{Shape, shape_nodes}
use Rattle.nll_types.specs.Table.{at, shape_over, shapes_from, shapes_in, parts_of, Extends, IsShapeTable}
use Rattle.nll_types.specs.declared.node.Node.{Node}
use Rattle.nll_types.specs.declared.node.Node.TheVariants as nodes
use Rattle.nll_types.specs.contracts.node.NodeClone.TheImpl as derived
use Rattle.nll_types.proofs.TableLemmas.{length_from}

-- a node and its copy have the same parts, and make the same shape
alike : (known : List Shape) (m n : Node) → derived.by_variants m n
    → (shape_over known n ≡ shape_over known m) × (parts_of n ≡ parts_of m)
alike known nodes.Int nodes.Int h = (refl, refl)
alike known (nodes.Parameter i) (nodes.Parameter j) h = (let e : j ≡ i = h in (cc, refl))
alike known (nodes.Reference a i) (nodes.Reference b j) h = grind arith
alike known (nodes.Tuple a) (nodes.Tuple b) h =
    let e : b.items ≡ a.items = each_same a.items b.items h.0 in
    (cc, e)
alike known (nodes.Named i p a) (nodes.Named j q b) h =
    let d : j ≡ i = h.0 in
    let e : q ≡ p = h.1.0 in
    let f : b.items ≡ a.items = each_same a.items b.items h.1.1.0 in
    (cc, f)
alike known (nodes.Function a i) (nodes.Function b j) h =
    let e : b.items ≡ a.items = each_same a.items b.items h.0.0 in
    let f : j ≡ i = h.1 in
    (cc, cc)
alike known _ _ h = absurd h

copied_from : (known : List Shape) (ns ms : List Node) → AllZip derived.by_variants ns ms
    → shapes_from known ms ≡ shapes_from known ns
copied_from known [] [] z = refl
copied_from known (n ∷ ns) (m ∷ ms) z =
    ap (λ (s : Shape). shapes_from (known ++ s ∷ []) ms) (alike known n m z.0).0
    ∙ copied_from (known ++ shape_over known n ∷ []) ns ms z.1
copied_from known _ _ z = absurd z

module _ (ns ms : List Node) (copies : AllZip derived.by_variants ns ms) where
  -- the copies of nodes make the same shapes
  pub copied_shapes : shapes_in ms ≡ shapes_in ns
  copied_shapes = copied_from [] ns ms copies

  -- and are a table where the nodes are one
  pub copied_table : (sizes : List ℕ) → IsShapeTable ns sizes → IsShapeTable ms sizes
  copied_table sizes h =
      let l : length ns ≡ length ms = length_all_zip derived.by_variants ns ms copies in record {
        table = λ i b.
            let here = AllZip-get_or derived.by_variants ns ms i nodes.Int nodes.Int copies (omega arith) in
            subst (λ (ps : List ℕ). (k : ℕ) → k < length ps → slice_index ps k < i) (sym (alike [] _ _ here).1)
            (h.table i (omega arith));
        one = grind (arith, copied_shapes);
        counted = h.counted ∙ l;
        measured = λ i b. h.measured i (omega arith)
            ∙ ap (λ (known : List Shape). min (most_nodes + 1) (shape_nodes (at known i))) (sym copied_shapes);
      }

-- where two tables have the same shapes, one has as many numbers as the other, and each its shape
pub same_shapes : (old new : List Node) → shapes_in new ≡ shapes_in old
    → (length new ≡ length old) × Extends old new
same_shapes old new e =
    let shapes = ap (length {A = Shape}) e in
    let l : length new ≡ length old = omega (arith, length_from [] old, length_from [] new, shapes) in
    (l, record { longer = omega arith; kept = λ i h. ap (λ (known : List Shape). at known i) e })
