-- A statement that is put at the next point is taken.
use Rattle.std.proofs.Common.{◌≡◌, ℕ, ◌+◌, ◌<◌, ◌≤◌, Bool, not, None, List, [], ◌∷◌, ◌++◌, length, map, ap, sym, ◌∙◌, subst, refl, arith}
use Rattle.std.specs.Prelude.{All}
use Rattle.std.proofs.lemmas.List.{length-append, map_push}
use Rattle.std.proofs.lemmas.List.Elements.{All-push}
use Rattle.nll_problem.specs.Limits.{most_points, most_edges}
use Rattle.nll_types.specs.Types.{TypeTree}
use Rattle.nll_types.specs.declared.typed.Typed.{Typed}
use Rattle.nll_body.specs.Exits.{edges_from, edge_count}
use Rattle.nll_body.specs.Flat.{StatementLists, statement_in, statements_in}
use Rattle.nll_body.specs.Meant.{HasRows}
use Rattle.nll_body.specs.Statements.{Statement, is_terminator}
use Rattle.nll_body.specs.Typed.{meant_statement as meant_with}
use Rattle.nll_body.specs.declared.flat.Stmt.{Stmt}
use Rattle.nll_mir_grammar.specs.MirForms.{at_point}
use Rattle.nll_mir_grammar.specs.WrittenTypes.{WrittenName, WrittenType}
use Rattle.nll_mir_text.specs.MirFaults.{first_fault}
use Rattle.nll_mir_text.specs.MirSaid.{Said}
use Rattle.nll_mir_text.specs.MirSteps.{statement_meant}
use Rattle.nll_mir_text.specs.MirReading.{said_by, scope_in, IsReady, IsTaken}
use Rattle.nll_mir_text.specs.ResolvedStatements.{IsFlatOf}
use Rattle.nll_mir_text.specs.declared.groups.Group.TheVariants.{Blocks}
use Rattle.nll_mir_text.specs.declared.reader.Reader.{Reader}
use Rattle.nll_mir_text.proofs.PointLemmas.{point_said, edges_more, edges_resolved}

module _ (r : Reader) (i : Statement WrittenName WrittenType) (flat : Stmt) (ready : IsReady r)
    (of : IsFlatOf (scope_in r.regions r.structs) i r.variables.types r.points.statements flat)
    (fine : first_fault (said_by r) (at_point i) ≡ None)
    (few : length (statements_in r.points.statements) < most_points)
    (lists : StatementLists) (edges : ℕ) (owes : Bool)
    (pushed : statements_in lists ≡ statements_in r.points.statements ++ statement_in r.points.statements flat ∷ [])
    (counted : edges ≡ r.points.edges + edges_from i) (few_edges : edges ≤ most_edges)
    (ends : owes ≡ not (is_terminator i)) where
  abbrev kept : List (Statement ℕ Typed)
  kept = statements_in r.points.statements

  abbrev here : Statement ℕ Typed
  here = statement_in r.points.statements flat

  -- the reader with the statement
  abbrev taken : Reader
  taken = record r {
    reached = Blocks;
    points = record r.points { statements = lists; edges = edges; owes = owes };
  }

  stand : map (meant_with r.variables.types) (statements_in lists)
      ≡ (said_by r).points ++ statement_meant (said_by r) i ∷ []
  stand = ap (map (meant_with r.variables.types)) pushed
      ∙ (map_push (meant_with r.variables.types) kept here
      ∙ ap (λ (m : Statement ℕ TypeTree). (said_by r).points ++ m ∷ []) of.of.meant)

  more : edge_count (statements_in lists) ≡ edge_count (kept ++ here ∷ [])
  more = ap (λ (is : List (Statement ℕ Typed)). edge_count is) pushed

  rows : All (HasRows r.variables.types.table.shapes r.variables.types.regions.items) (kept ++ here ∷ [])
  rows = All-push (HasRows r.variables.types.table.shapes r.variables.types.regions.items) kept here ready.rows.points
      of.of.rows

  here_taken : IsTaken (said_by r) (at_point i) taken
  here_taken = record {
    fine = fine;
    says = point_said (said_by r) i _ _ _ _ refl refl stand ends;
    ready = record {
      static = ready.static;
      universals = ready.universals;
      few_universals = ready.few_universals;
      few_regions = ready.few_regions;
      no_parameter = ready.no_parameter;
      named_structs = ready.named_structs;
      counted_kinds = ready.counted_kinds;
      kinds = ready.kinds;
      few_structs = ready.few_structs;
      few_variables = ready.few_variables;
      rows = record {
        variables = ready.rows.variables;
        points = subst (All (HasRows r.variables.types.table.shapes r.variables.types.regions.items)) (sym pushed) rows;
      };
      few_blocks = ready.few_blocks;
      no_start = λ h. absurd (omega (arith, h));
      starts = ready.starts;
      few_points = omega (arith, ap length pushed, length-append kept (here ∷ []), few);
      edges = omega (
        arith,
        counted,
        ready.edges,
        more,
        edges_more kept here,
        edges_resolved (scope_in r.regions r.structs) i r.variables.types here of.of,
      );
      few_edges = few_edges;
    };
  }

  pub stands : (s : Said) → said_by r ≡ s → IsTaken s (at_point i) taken
  stands s same = subst (λ s. IsTaken s (at_point i) taken) same here_taken
