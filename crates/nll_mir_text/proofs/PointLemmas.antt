-- What is judged of a statement, and what lines say once it stands at the next point.
use Rattle.std.proofs.Common.{◌≡◌, ℕ, ◌+◌, ◌<◌, ◌≤◌, Bool, true, false, not, Some, None, List, [], ◌∷◌, ◌++◌, length, map, refl, sym, ap, ◌∙◌, arith}
use Rattle.std.specs.Prelude.{◌&&◌, nat_lt}
use Rattle.std.proofs.lemmas.Bool.{le-leb, lt-leb, lt-ltb, le-ltb}
use Rattle.std.specs.List.{list_all}
use Rattle.std.proofs.lemmas.List.{length-map}
use Rattle.std.proofs.lemmas.List.Sums.{sum_by-cons, sum_by_push}
use Rattle.nll_problem.specs.Limits.{most_points, most_edges}
use Rattle.nll_problem.specs.declared.error.Kind.TheVariants.{Points, Edges}
use Rattle.nll_format.specs.Names.{number_of}
use Rattle.nll_format.specs.declared.error.TextKind.TheVariants.{Unknown, Range, Shape, TypeSize, Limit}
use Rattle.nll_types.specs.Types.{TypeTree}
use Rattle.nll_body.specs.Judging.{IsJudged}
use Rattle.nll_types.specs.Rows.{tree_at}
use Rattle.nll_types.specs.Structs.{Struct}
use Rattle.nll_types.specs.declared.body_types.BodyTypes.{BodyTypes}
use Rattle.nll_types.specs.declared.typed.Typed.{Typed}
use Rattle.nll_body.specs.declared.judgement.Judgement.{Judgement}
use Rattle.nll_mir_grammar.specs.WrittenTypes.{WrittenName, WrittenType}
use Rattle.nll_body.specs.Statements.{Statement, types_written, is_terminator}
use Rattle.nll_body.specs.Effects.{targets}
use Rattle.nll_body.specs.Written.{regions_written, variables_written}
use Rattle.nll_body.specs.Exits.{edges_from, edge_count}
use Rattle.nll_body.proofs.MapLemmas.{same_terminator, same_targets, same_edges, same_variables}
use Rattle.nll_mir_text.specs.Naming.{Scope, is_name_among, is_known, meant}
use Rattle.nll_body.specs.Flat.{statement_in, statements_in}
use Rattle.nll_body.specs.declared.flat.Stmt.{Stmt}
use Rattle.nll_body.specs.Typed.{meant_statement as meant_with}
use Rattle.nll_body.specs.Typing.{types_agree, types_are_small}
use Rattle.nll_mir_grammar.specs.MirForms.{at_point}
use Rattle.nll_mir_text.specs.declared.reader.Reader.{Reader}
use Rattle.nll_mir_text.specs.MirSaid.{Said}
use Rattle.nll_mir_text.specs.MirSteps.{says, statement_meant}
use Rattle.nll_mir_text.specs.MirFaults.{knows_variables, is_in_order, knows, has_targets, shapes_fit, first_fault}
use Rattle.nll_mir_text.specs.MirReading.{said_by, scope_in}
use Rattle.nll_mir_text.specs.ResolvedLines.{IsPlaced}
use Rattle.nll_mir_text.specs.ResolvedStatements.{has_names, IsOfPoint, IsOfStatement}

second : (a b : Bool) → (a && b) ≡ true → b ≡ true
second true b h = h
second false b h = absurd cc

-- ---- what is judged

all_three : (a b c : Bool) → (b && c) ≡ true → a ≡ (a && b && c)
all_three true b c h = sym h
all_three false b c h = refl

-- what stands over numbers has the variables, the targets and the edges of what is written
module _ (s : Scope) (i : Statement WrittenName WrittenType) (types : BodyTypes) (r : Statement ℕ Typed)
    (of : IsOfStatement s i types r) where
  abbrev tree : Typed → TypeTree
  tree = tree_at types.table.shapes types.regions.items

  pub variables_resolved : variables_written r ≡ variables_written i
  variables_resolved =
      sym (same_variables (λ r. r) tree r)
      ∙ (ap (λ (m : Statement ℕ TypeTree). variables_written m) of.meant
      ∙ same_variables (number_of s.regions) (meant s) i)

  pub targets_resolved : targets r ≡ targets i
  targets_resolved = sym (same_targets (λ r. r) tree r)
      ∙ (ap (λ (m : Statement ℕ TypeTree). targets m) of.meant ∙ same_targets (number_of s.regions) (meant s) i)

  pub edges_resolved : edges_from r ≡ edges_from i
  edges_resolved = sym (same_edges (λ r. r) tree r)
      ∙ (ap (λ (m : Statement ℕ TypeTree). edges_from m) of.meant ∙ same_edges (number_of s.regions) (meant s) i)

  pub ends_resolved : is_terminator r ≡ is_terminator i
  ends_resolved = sym (same_terminator (λ r. r) tree r)
      ∙ (ap (λ (m : Statement ℕ TypeTree). is_terminator m) of.meant
      ∙ same_terminator (number_of s.regions) (meant s) i)

module _ (r : Reader) (i : Statement WrittenName WrittenType) (flat : Stmt) (fits : Bool)
    (placed : IsPlaced r i flat fits) where
  abbrev here : Statement ℕ Typed
  here = statement_in r.points.statements flat

  abbrev variables : List TypeTree
  variables = (said_by r).variables

  abbrev structs : List Struct
  structs = (said_by r).structs

  knows_is : (declared : Bool)
      → declared ≡ list_all (λ x. nat_lt x (length r.variables.typed.items)) (variables_written here)
      → declared ≡ knows (said_by r) i
  knows_is declared d =
      let counted = length-map r.variables.typed.items
      (tree_at r.variables.types.table.shapes r.variables.types.regions.items) in
      let declared_is : declared ≡ list_all (λ x. nat_lt x (length variables)) (variables_written i) =
      d ∙ (ap (λ m. list_all (λ x. nat_lt x m) (variables_written here)) (sym counted)
      ∙ ap (list_all (λ x. nat_lt x (length variables)))
      (variables_resolved (scope_in r.regions r.structs) i r.variables.types here placed.of.of)) in
      declared_is ∙ all_three _ _ _ placed.of.of.known

  fits_is : (agree : Bool) → agree ≡ types_agree structs variables (meant_with r.variables.types here)
      → (fits && agree) ≡ shapes_fit (said_by r) i
  fits_is agree a = grind arith

  -- what is judged of the statement
  pub point_judged : (judged j : Judgement) → j.declared ≡ judged.declared → j.fits ≡ (fits && judged.fits)
      → j.small ≡ judged.small
      → judged.declared
      ≡ list_all (λ x. nat_lt x (length r.variables.typed.items)) (variables_written here)
      → IsJudged (types_agree structs variables (meant_with r.variables.types here))
      (types_are_small structs variables (meant_with r.variables.types here)) judged
      → IsOfPoint (said_by r) i j
  point_judged judged j declared fit small d e = record {
    known = declared ∙ knows_is judged.declared d;
    fits = fit ∙ fits_is judged.fits e.fits;
    fits_small = λ told.
        let agreed : types_agree structs variables (meant_with r.variables.types here) ≡ true =
        sym e.fits ∙ second fits judged.fits (sym fit ∙ told) in
        small ∙ (e.fits_small
        ∙ (ap (λ b. b && types_are_small structs variables (meant_with r.variables.types here)) agreed
        ∙ ap (types_are_small structs variables) placed.of.of.meant));
  }

unknown_last : (a b c : Bool) → (b && c) ≡ false → (a && b && c) ≡ false
unknown_last true b c h = h
unknown_last false b c h = refl

-- a name in the statement isn't declared
pub names_unknown : (s : Said) (i : Statement WrittenName WrittenType) → has_names s.scope i ≡ false → knows s i ≡ false
names_unknown s i none =
    unknown_last (knows_variables s (variables_written i)) (list_all (is_name_among s.scope.regions)
    (regions_written i))
    (list_all (is_known s.scope) (types_written i)) none

-- ---- faults

-- a name or a variable isn't declared
pub undeclared : (s : Said) (i : Statement WrittenName WrittenType) → is_in_order s (at_point i) ≡ true
    → knows s i ≡ false
    → first_fault s (at_point i) ≡ Some Unknown
undeclared s i order none = grind arith

module _ (s : Said) (i : Statement WrittenName WrittenType) (order : is_in_order s (at_point i) ≡ true)
    (known : knows s i ≡ true) where
  pub out_of_range : has_targets s i ≡ false → first_fault s (at_point i) ≡ Some Range
  out_of_range t = rw (order, known, t) refl

  module _ (targets_there : has_targets s i ≡ true) where
    pub unfit : shapes_fit s i ≡ false → first_fault s (at_point i) ≡ Some Shape
    unfit f = rw (order, known, targets_there, f) refl

    module _ (fit : shapes_fit s i ≡ true) where
      pub too_large : types_are_small s.structs s.variables (statement_meant s i) ≡ false
          → first_fault s (at_point i) ≡ Some TypeSize
      too_large m = rw (order, known, targets_there, fit, m) refl

      module _ (small : types_are_small s.structs s.variables (statement_meant s i) ≡ true) where
        pub too_many_points : most_points ≤ length s.points → first_fault s (at_point i) ≡ Some (Limit Points)
        too_many_points p = rw (order, known, targets_there, fit, small, le-leb _ _ p) refl

        pub too_many_edges : length s.points < most_points → most_edges < edge_count s.points + edges_from i
            → first_fault s (at_point i) ≡ Some (Limit Edges)
        too_many_edges p e = rw (order, known, targets_there, fit, small, lt-leb _ _ p, lt-ltb _ _ e) refl

        pub no_fault : length s.points < most_points → edge_count s.points + edges_from i ≤ most_edges
            → first_fault s (at_point i) ≡ None
        no_fault p e = rw (order, known, targets_there, fit, small, lt-leb _ _ p, le-ltb _ _ e) refl

-- the targets of a statement over numbers are blocks
pub targets_are : (s : Said) (i : Statement WrittenName WrittenType) (types : BodyTypes) (r : Statement ℕ Typed)
    → IsOfStatement s.scope i types r → (b : Bool) → b ≡ list_all (λ x. nat_lt x s.blocks) (targets r)
    → b ≡ has_targets s i
targets_are s i types r of b h = h ∙ ap (list_all (λ x. nat_lt x s.blocks)) (targets_resolved s.scope i types r of)

-- ---- what is said

-- the statement stands at the next point
pub point_said : (s : Said) (i : Statement WrittenName WrittenType) (points : List (Statement ℕ TypeTree)) (owes : Bool)
    (blocks : ℕ) (starts : List ℕ)
    → blocks ≡ s.blocks → starts ≡ s.starts → points ≡ s.points ++ statement_meant s i ∷ []
    → owes ≡ not (is_terminator i)
    → record s { reached = 8; points = points; owes = owes; blocks = blocks; starts = starts }
    ≡ says s (at_point i)
point_said s i points owes blocks starts b c h k = rw (b, c, h, k) refl

-- its edges are counted too
pub edges_more : {R T : Type 0} (points : List (Statement R T)) (i : Statement R T)
    → edge_count (points ++ i ∷ []) ≡ edge_count points + edges_from i
edges_more points i = sum_by_push edges_from points i

-- as many edges leave the points as they are meant
pub edges_meant : (types : BodyTypes) (is : List (Statement ℕ Typed))
    → edge_count (map (meant_with types) is) ≡ edge_count is
edges_meant types [] = refl
edges_meant types (i ∷ is) =
    sum_by-cons edges_from (meant_with types i) (map (meant_with types) is)
    ∙ (rw (
      same_edges (λ r. r) (tree_at types.table.shapes types.regions.items) i,
      edges_meant types is,
    ) (sym (sum_by-cons edges_from i is)))

-- as many points are said as there are statements
pub counted : (r : Reader) → length (said_by r).points ≡ length (statements_in r.points.statements)
counted r = length-map (statements_in r.points.statements) (meant_with r.variables.types)

pub same_count : (r : Reader) → edge_count (said_by r).points ≡ edge_count (statements_in r.points.statements)
same_count r = edges_meant r.variables.types (statements_in r.points.statements)
