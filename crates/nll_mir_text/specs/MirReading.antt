-- What a reader of MIR texts holds, and how a line changes it.
-- Source: project's choice. Only private contracts cite this file.
use Rattle.std.specs.Prelude.{◌≡◌, ◌⊎◌, ℕ, ◌+◌, ◌<◌, ◌≤◌, Bool, true, false, List, [], ◌∷◌, map}
use Rattle.std.specs.Prelude.{length, slice_index_or, Some, None}
use Rattle.std.specs.List.{AllByRecursion}
use Rattle.std.specs.Str.{IsUtf8}
use Rattle.nll_problem.specs.Limits.{most_points, most_edges, most_universals, most_regions}
use Rattle.nll_problem.specs.Limits.{most_variables, most_structs, most_bytes}
use Rattle.nll_types.specs.Declarations.{structs_of}
use Rattle.nll_types.specs.Structs.{Struct, struct_at}
use Rattle.nll_body.specs.Statements.{Statement, is_terminator}
use Rattle.nll_body.specs.Exits.{edges_from, edge_count}
use Rattle.nll_body.specs.declared.exits.Exits.{Exits}
use Rattle.nll_body.specs.Flat.{statements_in}
use Rattle.nll_body.specs.Typed.{HaveRows, meant_statement, trees_at}
use Rattle.nll_format.specs.Text.{IsText}
use Rattle.nll_format.specs.declared.error.TextKind.{TextKind}
use Rattle.nll_format.specs.declared.error.TextKind.TheVariants.{Memory}
use Rattle.nll_mir_grammar.specs.MirForms.{Form, universal, further, struct_line, at_point}
use Rattle.nll_mir_grammar.specs.MirForms.{WrittenParameter, region_parameter, type_parameter}
pub use Rattle.nll_mir_grammar.specs.Lines.{struct_form}
use Rattle.nll_mir_grammar.specs.declared.version.Version.{Version}
use Rattle.nll_mir_grammar.specs.WrittenTypes.{WrittenName, WrittenType}
use Rattle.nll_mir_text.specs.Naming.{Scope}
use Rattle.nll_mir_text.specs.declared.tables.Regions.{Regions}
use Rattle.nll_mir_text.specs.declared.tables.StructNames.{StructNames}
use Rattle.nll_mir_text.specs.MirSaid.{Said, said, group}
use Rattle.nll_mir_text.specs.MirSteps.{says, rank}
use Rattle.nll_mir_text.specs.MirFaults.{is_in_order, first_fault}
use Rattle.nll_mir_text.specs.MirText.{mir}
use Rattle.nll_mir_text.specs.declared.reader.Reader.{Reader}

-- ---- what a reader holds

-- what names mean in the types of variables and of statements
abbrev pub scope_in : Regions → StructNames → Scope
scope_in regions structs = record {
  regions = regions.names;
  parameters = [];
  structs = structs.names;
  kinds = map (λ ks. ks.items) structs.kinds.items;
}

-- what the reader's lines say
abbrev pub said_by : Reader → Said
said_by r = record {
  reached = rank r.reached;
  scope = scope_in r.regions r.structs;
  universals = r.regions.universals;
  outlives = r.regions.outlives.keys;
  asserts = r.regions.asserts.keys;
  structs = structs_of r.variables.types.table.structs;
  variables = trees_at r.variables.types r.variables.typed.items;
  blocks = r.points.blocks;
  starts = r.points.starts.items;
  points = map (meant_statement r.variables.types) (statements_in r.points.statements);
  owes = r.points.owes;
}

-- the reader holds what lines of these forms say
abbrev pub HoldsForms : Reader → List Form → Type 0
HoldsForms r forms = said forms ≡ said_by r

-- how many of the kinds are that of a region
abbrev pub region_count : List Bool → ℕ
region_count [] = 0
region_count (true ∷ ks) = region_count ks + 1
region_count (false ∷ ks) = region_count ks

-- how many of the kinds are not that of a region
abbrev pub other_count : List Bool → ℕ
other_count [] = 0
other_count (true ∷ ks) = other_count ks
other_count (false ∷ ks) = other_count ks + 1

-- The kinds are those of the arguments that the structs take.
pub record AreKinds (kinds : List (List Bool)) (structs : List Struct) : Type 0 where
  pub regions : (n : ℕ) → n < length structs
      → region_count (slice_index_or kinds n []) ≡ length (struct_at structs n).regions
  pub types : (n : ℕ) → n < length structs
      → other_count (slice_index_or kinds n []) ≡ length (struct_at structs n).types

-- The reader's tables agree, and are within the limits.
pub record IsReady (r : Reader) : Type 0 where
  pub static : 0 < r.regions.universals
  pub universals : r.regions.universals ≤ length r.regions.names
  pub few_universals : r.regions.universals ≤ most_universals
  pub few_regions : length r.regions.names ≤ most_regions
  pub no_parameter : r.structs.none ≡ []
  pub named_structs : length r.structs.names ≡ length r.variables.types.table.structs
  pub counted_kinds : length r.structs.kinds.items ≡ length r.variables.types.table.structs
  pub kinds :
      AreKinds (map (λ ks. ks.items) r.structs.kinds.items)
      (structs_of r.variables.types.table.structs)
  pub few_structs : length r.variables.types.table.structs ≤ most_structs
  pub few_variables : length r.variables.typed.items ≤ most_variables
  pub rows : HaveRows r.variables.types r.variables.typed.items (statements_in r.points.statements)
  pub few_blocks : r.points.blocks ≤ most_points
  pub no_start : rank r.reached < 7 → length r.points.starts.items ≡ 0
  pub starts : length r.points.starts.items ≤ r.points.blocks
  pub few_points : length (statements_in r.points.statements) ≤ most_points
  pub edges : r.points.edges ≡ edge_count (statements_in r.points.statements)
  pub few_edges : r.points.edges ≤ most_edges

-- ---- one line

-- the name of a parameter is UTF-8
abbrev pub IsNamed : WrittenParameter → Type 0
IsNamed (region_parameter a p) = IsUtf8 a
IsNamed (type_parameter n p) = IsUtf8 n

-- the names that a line of the form declares are UTF-8
abbrev pub HasTexts : Form → Type 0
HasTexts (universal a) = IsUtf8 a
HasTexts (further x) = IsUtf8 x
HasTexts (struct_line n ps has_drop fields) = IsUtf8 n × AllByRecursion IsNamed ps
HasTexts _ = Unit {0}

-- a line of the form has no more parameters than a text may have bytes
abbrev pub HasFewParameters : Form → Type 0
HasFewParameters (struct_line n ps has_drop fields) = length ps ≤ most_bytes
HasFewParameters _ = Unit {0}

-- The reader is prepared for a line of the form: it is in order, the names that it declares are
-- texts, it has few enough parameters, and the tables agree.
pub record IsDue (r : Reader) (f : Form) : Type 0 where
  pub ready : IsReady r
  pub order : is_in_order (said_by r) f ≡ true
  pub follows : rank r.reached ≤ group f
  pub texts : HasTexts f
  pub few : HasFewParameters f

-- A line of the form is taken after lines that say s: it had no fault, what it says came, and the
-- tables agree.
pub record IsTaken (s : Said) (f : Form) (r : Reader) : Type 0 where
  pub fine : first_fault s f ≡ None
  pub says : said_by r ≡ says s f
  pub ready : IsReady r

-- A statement with these exits is admitted after lines that say s: its line has no fault, the
-- reader holds what they say, and there is room for a point and for the edges.
pub record IsAdmitted (s : Said) (i : Statement WrittenName WrittenType) (e : Exits) (r : Reader)
    : Type 0 where
  pub fine : first_fault s (at_point i) ≡ None
  pub same : said_by r ≡ s
  pub ready : IsReady r
  pub few : length (statements_in r.points.statements) < most_points
  pub counted : e.edges ≡ edges_from i
  pub few_edges : r.points.edges + e.edges ≤ most_edges
  pub ends : e.ends ≡ is_terminator i

-- a line of the form is refused after lines that say s: for a failed allocation, or with its first
-- kind of fault
abbrev pub IsRefused : Said → Form → TextKind → Type 0
IsRefused s f kind = (kind ≡ Memory) ⊎ (first_fault s f ≡ Some kind)

-- t is what is said after a line of the form, where s was said before
abbrev pub Adds : Said → Form → Said → Type 0
Adds s f t = t ≡ says s f

-- ---- all lines

-- the text fits in a version, and the reader holds what its lines say
abbrev pub Holds : List ℕ → Reader → Type 0
Holds text r =
    (version : Version) × (forms : List Form) × IsText (mir version) text forms × HoldsForms r forms
