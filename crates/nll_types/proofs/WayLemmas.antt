-- The shapes of the types behind projections, and whether they are small, one step after another.
use Rattle.std.proofs.Common.{◌≡◌, ℕ, suc, ◌+◌, ◌<◌, ◌≤◌, Bool, true, false, List, [], ◌∷◌, length, drop, get_or, refl, sym, ap, ◌∙◌, arith, Option, Some, None}
use Rattle.std.specs.Prelude.{◌&&◌, option_map, option_and_then, unwrap_or, nat_le}
use Rattle.std.proofs.Math.Seq.{drop-cons}
use Rattle.std.proofs.lemmas.List.{drop_all}
use Rattle.nll_problem.specs.Limits.{most_nodes}
use Rattle.nll_types.specs.Types.{TypeTree}
use Rattle.nll_types.specs.Structs.{Struct}
use Rattle.nll_types.specs.Places.{behind, behind_all, small_behind}
use Rattle.nll_types.specs.Shapes.{Shape, shape_of, behind_shape, is_small, is_small_shape}
use Rattle.nll_types.specs.Table.{shape_in}
use Rattle.nll_types.specs.declared.node.Node.{Node}
use Rattle.nll_types.specs.declared.place.Projection.{Projection}
use Rattle.nll_types.proofs.ShapeLemmas.{same_nodes, behind_agrees}

-- the shape behind projections, one after another
abbrev pub behind_shapes : List Struct → List Projection → Shape → Option Shape
behind_shapes structs [] s = Some s
behind_shapes structs (p ∷ ps) s = option_and_then (behind_shapes structs ps) (behind_shape structs p s)

-- whether the shape is small and so is each shape behind the first projections
abbrev pub small_shapes : List Struct → List Projection → Shape → Bool
small_shapes structs [] s = is_small_shape s
small_shapes structs (p ∷ ps) s =
    is_small_shape s && unwrap_or (option_map (small_shapes structs ps) (behind_shape structs p s)) true

small_agrees : (t : TypeTree) → is_small t ≡ is_small_shape (shape_of t)
small_agrees t = ap (λ (n : ℕ). nat_le n most_nodes) (same_nodes t)

rest_agrees : (structs : List Struct) (ps : List Projection) (o : Option TypeTree)
    → ((t : TypeTree) → option_map shape_of (behind_all structs ps t) ≡ behind_shapes structs ps (shape_of t))
    → option_map shape_of (option_and_then (behind_all structs ps) o)
    ≡ option_and_then (behind_shapes structs ps) (option_map shape_of o)
rest_agrees structs ps None on = refl
rest_agrees structs ps (Some t) on = on t

-- what is told of types is told of their shapes
behind_all_agrees : (structs : List Struct) (ps : List Projection) (t : TypeTree)
    → option_map shape_of (behind_all structs ps t) ≡ behind_shapes structs ps (shape_of t)
behind_all_agrees structs [] t = refl
behind_all_agrees structs (p ∷ ps) t =
    rest_agrees structs ps (behind structs p t) (λ u. behind_all_agrees structs ps u)
    ∙ ap (option_and_then (behind_shapes structs ps)) (behind_agrees structs p t)

small_rest_agrees : (structs : List Struct) (ps : List Projection) (o : Option TypeTree)
    → ((t : TypeTree) → small_behind structs ps t ≡ small_shapes structs ps (shape_of t))
    → unwrap_or (option_map (small_behind structs ps) o) true
    ≡ unwrap_or (option_map (small_shapes structs ps) (option_map shape_of o)) true
small_rest_agrees structs ps None on = refl
small_rest_agrees structs ps (Some t) on = on t

small_behind_agrees : (structs : List Struct) (ps : List Projection) (t : TypeTree)
    → small_behind structs ps t ≡ small_shapes structs ps (shape_of t)
small_behind_agrees structs [] t = small_agrees t
small_behind_agrees structs (p ∷ ps) t =
    let here = small_agrees t in
    let there = small_rest_agrees structs ps (behind structs p t) (λ u. small_behind_agrees structs ps u)
    ∙ ap (λ (o : Option Shape). unwrap_or (option_map (small_shapes structs ps) o) true) (behind_agrees structs p t) in
    ap (λ (b : Bool). b && unwrap_or (option_map (small_behind structs ps) (behind structs p t)) true) here
    ∙ ap (λ (b : Bool). is_small_shape (shape_of t) && b) there

-- ---- the way that is gone

-- after n projections the number is that of the shape come to, and the flag tells of those before it
pub record IsOnWay (structs : List Struct) (first now : List Node) (ps : List Projection) (n from number : ℕ)
    (small : Bool) : Type 0 where
  pub within : number < length now
  pub same : behind_shapes structs ps (shape_in first from) ≡ behind_shapes structs (drop n ps) (shape_in now number)
  pub told : small_shapes structs ps (shape_in first from)
      ≡ (small && small_shapes structs (drop n ps) (shape_in now number))

pub way_starts : (structs : List Struct) (first : List Node) (ps : List Projection) (from : ℕ) → from < length first
    → IsOnWay structs first first ps 0 from from true
way_starts structs first ps from h = grind arith

next_is : (ps : List Projection) (n : ℕ) (d : Projection) → n < length ps → drop n ps ≡ get_or ps n d ∷ drop (n + 1) ps
next_is ps n d l =
    let e : n + 1 ≡ suc n = omega arith in
    drop-cons ps n d l ∙ ap (λ (z : ℕ). get_or ps n d ∷ drop z ps) (sym e)

and_assoc : (a b c : Bool) → (a && (b && c)) ≡ ((a && b) && c)
and_assoc true b c = refl
and_assoc false b c = refl

step_shapes : (structs : List Struct) (ps : List Projection) (n : ℕ) (d : Projection) (s : Shape) (o : Option Shape)
    → n < length ps → o ≡ behind_shape structs (get_or ps n d) s
    → behind_shapes structs (drop n ps) s ≡ option_and_then (behind_shapes structs (drop (n + 1) ps)) o
step_shapes structs ps n d s o l e =
    ap (λ (z : List Projection). behind_shapes structs z s) (next_is ps n d l)
    ∙ ap (option_and_then (behind_shapes structs (drop (n + 1) ps))) (sym e)

step_small : (structs : List Struct) (ps : List Projection) (n : ℕ) (d : Projection) (s u : Shape) → n < length ps
    → Some u ≡ behind_shape structs (get_or ps n d) s
    → small_shapes structs (drop n ps) s ≡ (is_small_shape s && small_shapes structs (drop (n + 1) ps) u)
step_small structs ps n d s u l e = grind (arith, next_is)

-- one projection more is taken
pub way_on : (structs : List Struct) (first now next : List Node) (ps : List Projection) (n from number m : ℕ)
    (d : Projection) (small : Bool)
    → n < length ps → IsOnWay structs first now ps n from number small → m < length next
    → Some (shape_in next m) ≡ behind_shape structs (get_or ps n d) (shape_in now number)
    → IsOnWay structs first next ps (n + 1) from m (small && is_small_shape (shape_in now number))
way_on structs first now next ps n from number m d small l way within to = record {
  within = within;
  same = way.same ∙ step_shapes structs ps n d (shape_in now number) (Some (shape_in next m)) l to;
  told = grind (arith, step_small, and_assoc);
}

-- no type is behind the next projection
pub way_ends : (structs : List Struct) (first now : List Node) (ps : List Projection) (n from number : ℕ)
    (d : Projection) (small : Bool) (t : TypeTree)
    → n < length ps → IsOnWay structs first now ps n from number small
    → None ≡ behind_shape structs (get_or ps n d) (shape_in now number)
    → shape_of t ≡ shape_in first from → None ≡ option_map shape_of (behind_all structs ps t)
way_ends structs first now ps n from number d small t l way ends e =
    grind (arith, behind_all_agrees, drop-cons)

-- all projections are taken
pub way_at : (structs : List Struct) (first now : List Node) (ps : List Projection) (n from number : ℕ) (small : Bool)
    (t : TypeTree)
    → length ps ≤ n → IsOnWay structs first now ps n from number small → shape_of t ≡ shape_in first from
    → Some (shape_in now number) ≡ option_map shape_of (behind_all structs ps t)
way_at structs first now ps n from number small t past way e =
    sym (behind_all_agrees structs ps t ∙ ap (behind_shapes structs ps) e ∙ way.same
    ∙ ap (λ (z : List Projection). behind_shapes structs z (shape_in now number)) (drop_all n ps past))

pub way_small : (structs : List Struct) (first now : List Node) (ps : List Projection) (n from number : ℕ)
    (small : Bool) (t : TypeTree)
    → length ps ≤ n → IsOnWay structs first now ps n from number small → shape_of t ≡ shape_in first from
    → (small && is_small_shape (shape_in now number)) ≡ small_behind structs ps t
way_small structs first now ps n from number small t past way e =
    sym (small_behind_agrees structs ps t ∙ ap (small_shapes structs ps) e ∙ way.told
    ∙ ap (λ (z : List Projection). small && small_shapes structs z (shape_in now number)) (drop_all n ps past))
