-- Types that are added leave what a reader's lines say.
use Rattle.std.proofs.Common.{◌≡◌, ◌∙◌, ℕ, Bool, true, List, [], ◌∷◌, length, map, refl, ap, sym, suc, arith}
use Rattle.std.specs.Prelude.{All}
use Rattle.std.specs.List.{list_all}
use Rattle.nll_sets.proofs.PrefixLemmas.{prefix_same}
use Rattle.nll_types.specs.Grown.{AddsTypes}
use Rattle.nll_types.specs.Tables.{Tables, AddsShapes}
use Rattle.nll_types.specs.declared.body_types.BodyTypes.{BodyTypes}
use Rattle.nll_types.specs.declared.typed.Typed.{Typed}
use Rattle.nll_types.proofs.RowLemmas.{trees_later, rows_later}
use Rattle.nll_body.specs.Flat.{StatementLists, statements_in}
use Rattle.nll_body.specs.Meant.{HasRows}
use Rattle.nll_body.specs.Statements.{Statement, types_written}
use Rattle.nll_body.specs.declared.flat.Stmt.{Stmt}
use Rattle.nll_body.proofs.StatementMeantLemmas.{meant_later, has_rows_later}
use Rattle.nll_body.specs.Typed.{HaveRows, meant_statement}
use Rattle.nll_mir_grammar.specs.MirForms.{Form, at_point}
use Rattle.nll_mir_grammar.specs.WrittenTypes.{WrittenName, WrittenType}
use Rattle.nll_mir_text.specs.Naming.{Scope, has_arguments}
use Rattle.nll_mir_text.specs.MirSaid.{Said}
use Rattle.nll_mir_text.specs.MirFaults.{is_in_order}
use Rattle.nll_mir_text.specs.MirReading.{said_by, scope_in, IsReady, IsDue}
use Rattle.nll_mir_text.specs.ResolvedLines.{IsGrown, IsPlaced}
use Rattle.nll_mir_text.specs.ResolvedStatements.{IsFlatOf, IsOfStatement}
use Rattle.nll_mir_text.specs.declared.reader.Reader.{Reader}
use Rattle.nll_mir_text.specs.declared.type_resolution.Resolving.{Resolving}

module _ (old new : BodyTypes) (grows : AddsTypes old new) where
  -- statements mean what they meant
  pub points_later : (is : List (Statement ℕ Typed)) → All (HasRows old.table.shapes old.regions.items) is
      → map (meant_statement new) is ≡ map (meant_statement old) is
  points_later [] h = refl
  points_later (i ∷ is) h =
      let here = meant_later _ _ _ _ grows.table.extends grows.regions i (h 0 i (omega arith)) in
      let rest = points_later is (λ k d l. h (suc k) d (omega arith)) in
      cc

  -- a statement over numbers is what it was
  pub statement_later : (s : Scope) (i : Statement WrittenName WrittenType) (k : Statement ℕ Typed)
      → IsOfStatement s i old k → IsOfStatement s i new k
  statement_later s i k h = record {
    known = h.known;
    rows = has_rows_later _ _ _ _ grows.table.extends grows.regions k h.rows;
    meant = meant_later _ _ _ _ grows.table.extends grows.regions k h.rows ∙ h.meant;
  }

  pub have_rows_later : (vs : List Typed) (is : List (Statement ℕ Typed)) → HaveRows old vs is → HaveRows new vs is
  have_rows_later vs is h = record {
    variables = rows_later _ _ _ _ grows.table.extends grows.regions vs h.variables;
    points = λ k d l. has_rows_later _ _ _ _ grows.table.extends grows.regions _ (h.points k d l);
  }

-- the reader with other types and lists
abbrev pub grown : Reader → BodyTypes → StatementLists → Resolving → Reader
grown r t l m = record r {
  variables = record r.variables { types = t };
  points = record r.points { statements = l };
  resolving = m;
}

module _ (r : Reader) (t : BodyTypes) (l : StatementLists) (m : Resolving) (grows : AddsTypes r.variables.types t)
    (same : statements_in l ≡ statements_in r.points.statements) (h : IsReady r) where
  pub said_grown : said_by (grown r t l m) ≡ said_by r
  said_grown =
      let structs = grows.table.structs in
      let variables = trees_later _ _ _ _ grows.table.extends grows.regions _ h.rows.variables in
      let points = points_later r.variables.types t grows _ h.rows.points in
      rw (structs, variables, same, points) refl

  pub is_grown : IsGrown r (grown r t l m)
  is_grown = record {
    said = said_grown;
    ready = record {
      static = h.static;
      universals = h.universals;
      few_universals = h.few_universals;
      few_regions = h.few_regions;
      no_parameter = h.no_parameter;
      named_structs = h.named_structs ∙ sym (ap length grows.table.structs);
      counted_kinds = h.counted_kinds ∙ sym (ap length grows.table.structs);
      kinds = rw grows.table.structs h.kinds;
      few_structs = rw grows.table.structs h.few_structs;
      few_variables = h.few_variables;
      rows = rw same (have_rows_later r.variables.types t grows _ _ h.rows);
      few_blocks = h.few_blocks;
      no_start = h.no_start;
      starts = h.starts;
      few_points = rw same h.few_points;
      edges = rw same h.edges;
      few_edges = h.few_edges;
    };
  }

  -- a line that was in order is
  pub order_grown : (i : Statement WrittenName WrittenType) → is_in_order (said_by r) (at_point i) ≡ true
      → is_in_order (said_by (grown r t l m)) (at_point i) ≡ true
  order_grown i order = ap (λ (s : Said). is_in_order s (at_point i)) said_grown ∙ order

-- with types alone a statement is still that of its line
pub placed_grown : (r : Reader) (t : BodyTypes) → AddsTypes r.variables.types t → IsReady r
    → (i : Statement WrittenName WrittenType) (flat : Stmt) (fits : Bool) → IsPlaced r i flat fits
    → IsPlaced (grown r t r.points.statements r.resolving) i flat fits
placed_grown r t grows ready i flat fits p = record {
  order = order_grown r t r.points.statements r.resolving grows refl ready i p.order;
  of = record {
    within = p.of.within;
    of = statement_later r.variables.types t grows (scope_in r.regions r.structs) i _ p.of.of;
  };
  fits = p.fits;
}

-- a reader that says what it said is still prepared for a line
pub due_grown : (old new : Reader) (f : Form) → IsGrown old new → IsDue old f → IsDue new f
due_grown old new f g h = grind arith

-- a table with more shapes
pub adds_table : (types : BodyTypes) (t : Tables) → AddsShapes types.table t
    → AddsTypes types (record types { table = t })
adds_table types t grows = record { table = grows; regions = prefix_same types.regions.items }

-- a statement that is made of a line that is in order
pub placed_of : (r : Reader) (t : BodyTypes) (l : StatementLists) (m : Resolving)
    (i : Statement WrittenName WrittenType) (k : Stmt) (fits : Bool) → AddsTypes r.variables.types t
    → statements_in l ≡ statements_in r.points.statements → IsReady r
    → is_in_order (said_by r) (at_point i) ≡ true → IsFlatOf (scope_in r.regions r.structs) i t l k
    → fits ≡ list_all (has_arguments (scope_in r.regions r.structs)) (types_written i)
    → IsPlaced (grown r t l m) i k fits
placed_of r t l m i k fits adds same ready order made fit =
    record { order = order_grown r t l m adds same ready i order; of = made; fits = fit }
