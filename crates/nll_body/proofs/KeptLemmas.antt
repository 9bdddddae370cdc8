-- What a body of the code keeps is the body of its parts.
use Rattle.std.proofs.Common.{◌≡◌, ◌<◌, ℕ, List, map, length, get_or, Some, slice_get, refl, sym, ◌∙◌, subst, arith}
use Rattle.std.proofs.lemmas.List.{length-map}
use Rattle.std.proofs.lemmas.Option.{get_or_from_slice_get, same_Some, slice_get_within, slice_get_read}
use Rattle.nll_problem.specs.Graph.{Graph}
use Rattle.nll_format.specs.Labels.{Labels}
use Rattle.nll_types.specs.Declarations.{structs_of}
use Rattle.nll_types.specs.Types.{TypeTree}
use Rattle.nll_types.specs.Rows.{tree_at}
use Rattle.nll_types.specs.Structs.{IsWellFormed}
use Rattle.nll_types.specs.declared.body_types.BodyTypes.{BodyTypes}
use Rattle.nll_types.specs.declared.typed.Typed.{Typed}
use Rattle.nll_body.specs.Flat.{StatementLists, statement_in, statements_in}
use Rattle.nll_body.specs.Statements.{Statement}
use Rattle.nll_body.specs.declared.flat.Stmt.{Stmt}
use Rattle.nll_body.specs.Bodies.{BodyText, HasType, StandsAt}
use Rattle.nll_body.specs.Kept.{kept_body}
use Rattle.nll_body.specs.Sound.{IsSoundBody}
use Rattle.nll_body.specs.Typed.{meant_statement, trees_at}
use Rattle.nll_body.proofs.MeantLemmas.{mapped_at}

module _ (outlives asserts : List (ℕ × ℕ)) (types : BodyTypes) (variables : List Typed)
    (points : StatementLists) where
  -- the body of these parts
  abbrev made : List (List ℕ) → ℕ → List ℕ → BodyText
  made names universals starts = record {
    names = names;
    universals = universals;
    outlives = outlives;
    asserts = asserts;
    structs = structs_of types.table.structs;
    variables = trees_at types variables;
    starts = starts;
    points = map (meant_statement types) (statements_in points);
  }

  module _ (labels : Labels) (graph : Graph) (body : BodyText)
      (is : kept_body labels outlives asserts types variables points graph ≡ body) where
    variable_within : (x : ℕ) → x < length body.variables → x < length variables
    variable_within x within = grind (arith, length-map)

    -- a type of the code is that of its variable
    pub typed : (x : ℕ) (v : Typed) → x < length body.variables → v ≡ get_or variables x v
        → HasType body x (tree_at types.table.shapes types.regions.items v)
    typed x v within at =
        subst (λ b. HasType b x (tree_at types.table.shapes types.regions.items v)) is
        (mapped_at (tree_at types.table.shapes types.regions.items) variables x v
        (slice_get_read variables (length variables) x v refl (variable_within x within) at))

    -- and a statement is that of its point
    pub stands : (p : ℕ) (s : Stmt) → slice_get points.points p ≡ Some s
        → StandsAt body p (meant_statement types (statement_in points s))
    stands p s at =
        subst (λ b. StandsAt b p (meant_statement types (statement_in points s))) is
        (mapped_at (meant_statement types) (statements_in points) p (statement_in points s)
        (mapped_at (statement_in points) points.points p s at))

    pub meant_there : (p : ℕ) (s : Stmt) → slice_get points.points p ≡ Some s
        → (i : Statement ℕ TypeTree) → StandsAt body p i → meant_statement types (statement_in points s) ≡ i
    meant_there p s at i there =
        same_Some (meant_statement types (statement_in points s)) i (sym (stands p s at) ∙ there)

-- ---- types of variables

-- a variable has one type
pub one_type : (body : BodyText) (x : ℕ) (t u : TypeTree) → HasType body x t → HasType body x u → t ≡ u
one_type body x t u h k = same_Some t u (sym h ∙ k)

-- it keeps to what is declared
pub good_type : (body : BodyText) → IsSoundBody body → (x : ℕ) (t : TypeTree) → HasType body x t
    → IsWellFormed body.structs (length body.names) 0 t
good_type body sound x t h = grind (arith, get_or_from_slice_get, slice_get_within)
