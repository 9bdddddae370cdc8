-- What the lines of a MIR text say together. Source: project's choice; docs/FORMATS.md says the
-- same in prose. The code keeps tables; this speaks of whole lists of lines.
use Rattle.std.specs.Prelude.{ℕ, max, Bool, true, false, not, List, [], ◌∷◌, ◌++◌, length, map}
use Rattle.std.specs.Prelude.{codes, get_or, Option, Some, None, is_some, unwrap_or}
use Rattle.std.specs.List.{filter_map, last_or}
use Rattle.indexmap.specs.IndexSet.{insert_all}
use Rattle.nll_problem.specs.Building.{same_pair}
use Rattle.nll_format.specs.Names.{number_of}
use Rattle.nll_types.specs.Types.{TypeTree}
use Rattle.nll_types.specs.Structs.{Struct}
use Rattle.nll_types.specs.declared.parameter.Parameter.{Parameter}
use Rattle.nll_mir_grammar.specs.WrittenTypes.{WrittenName, WrittenType, WrittenTypes}
use Rattle.nll_body.specs.Statements.{Statement, is_terminator, map_statement}
use Rattle.nll_mir_grammar.specs.MirForms.{WrittenParameter, region_parameter, type_parameter}
use Rattle.nll_mir_grammar.specs.MirForms.{Form, universal, outlives, further, assert_line}
use Rattle.nll_mir_grammar.specs.MirForms.{struct_line, variable, blocks, block, at_point, end}
use Rattle.nll_mir_text.specs.Naming.{Scope, meant, all_meant}

-- ---- the parameters of a struct

-- the region parameter
abbrev pub region_parameter_in : WrittenParameter → Option (WrittenName × Parameter)
region_parameter_in (region_parameter a p) = Some (a, p)
region_parameter_in (type_parameter n p) = None

-- the type parameter
abbrev pub type_in : WrittenParameter → Option (WrittenName × Parameter)
type_in (region_parameter a p) = None
type_in (type_parameter n p) = Some (n, p)

-- ---- the groups of lines

-- the group of a line of the form, by the word that its first line begins with
abbrev pub group_of : Form → WrittenName
group_of (universal a) = codes "universal"
group_of (outlives a b) = codes "outlives"
group_of (further x) = codes "region"
group_of (assert_line a b) = codes "assert"
group_of (struct_line n ps has_drop fields) = codes "struct"
group_of (variable x t) = codes "let"
group_of (blocks n) = codes "blocks"
group_of (block n) = codes "block"
group_of (at_point i) = codes "block"
group_of end = codes "end"

-- the groups in their order in a text, that of the header first
abbrev pub groups : List WrittenName
groups =
    codes "nll-mir" ∷ codes "universal" ∷ codes "outlives" ∷ codes "region" ∷ codes "assert"
    ∷ codes "struct" ∷ codes "let" ∷ codes "blocks" ∷ codes "block" ∷ codes "end" ∷ []

-- the place of a form's group in this order
abbrev pub group : Form → ℕ
group f = number_of groups (group_of f)

-- the place of the last group, in this order, that has a line; the header has one
abbrev pub reached : List Form → ℕ
reached [] = 0
reached (f ∷ forms) = max (group f) (reached forms)

-- ---- what one line says

-- the universal region that a line declares
abbrev pub universal_in : Form → Option WrittenName
universal_in (universal a) = Some a
universal_in _ = None

-- the further region that a line declares
abbrev pub further_in : Form → Option WrittenName
further_in (further x) = Some x
further_in _ = None

-- the regions of an `outlives` line
abbrev pub outlives_in : Form → Option (WrittenName × WrittenName)
outlives_in (outlives a b) = Some (a, b)
outlives_in _ = None

-- the regions of an `assert` line
abbrev pub assert_in : Form → Option (WrittenName × WrittenName)
assert_in (assert_line a b) = Some (a, b)
assert_in _ = None

-- the name and the parameters of the struct that a line declares
abbrev pub struct_in : Form → Option (WrittenName × List WrittenParameter)
struct_in (struct_line n ps has_drop fields) = Some (n, ps)
struct_in _ = None

-- the type of the variable that a line declares
abbrev pub variable_in : Form → Option WrittenType
variable_in (variable x t) = Some t
variable_in _ = None

-- the number of blocks, in a `blocks` line
abbrev pub blocks_in : Form → Option ℕ
blocks_in (blocks n) = Some n
blocks_in _ = None

-- the statement or terminator of a line
abbrev pub statement_of_form : Form → Option (Statement WrittenName WrittenType)
statement_of_form (at_point i) = Some i
statement_of_form _ = None

-- whether the block still lacks its terminator, after a line of it
abbrev pub owes_in : Form → Option Bool
owes_in (block n) = Some true
owes_in (at_point i) = Some (not (is_terminator i))
owes_in _ = None

-- ---- what names mean

-- the regions' numbers
abbrev pub region_numbers : List WrittenName → WrittenName × WrittenName → ℕ × ℕ
region_numbers names p = (number_of names p.0, number_of names p.1)

-- the universal regions in order, 'static first
abbrev pub universals_said : List Form → List WrittenName
universals_said forms = codes "static" ∷ filter_map universal_in forms

-- the regions in order: the universal ones, then the further ones
abbrev pub names_said : List Form → List WrittenName
names_said forms = universals_said forms ++ filter_map further_in forms

-- what names mean in the types of variables and of statements
abbrev pub scope_said : List Form → Scope
scope_said forms = record {
  regions = names_said forms;
  parameters = [];
  structs = map (λ d. d.0) (filter_map struct_in forms);
  kinds = map (λ d. map (λ p. is_some (region_parameter_in p)) d.1) (filter_map struct_in forms);
}

-- what names mean in the fields of a struct with these parameters: 'static, the struct's own
-- parameters, and the structs that are declared
abbrev pub scope_inside : Scope → List WrittenParameter → Scope
scope_inside s ps = record s {
  regions = codes "static" ∷ map (λ p. p.0) (filter_map region_parameter_in ps);
  parameters = map (λ p. p.0) (filter_map type_in ps);
}

-- the struct that a line declares, where names mean this in its fields
abbrev pub struct_meant : Scope → List WrittenParameter → Bool → WrittenTypes → Struct
struct_meant s ps has_drop fields = record {
  regions = map (λ p. p.1) (filter_map region_parameter_in ps);
  types = map (λ p. p.1) (filter_map type_in ps);
  has_drop = has_drop;
  fields = all_meant s fields;
}

-- a statement with its regions and types as they are meant
abbrev pub meant_in : Scope → Statement WrittenName WrittenType → Statement ℕ TypeTree
meant_in s i = map_statement (number_of s.regions) (meant s) i

-- ---- what a line says after others

-- each line, with the lines that come before it
abbrev pub with_fronts : List Form → List (List Form × Form)
with_fronts [] = []
with_fronts (f ∷ forms) = ([], f) ∷ map (λ p. (f ∷ p.0, p.1)) (with_fronts forms)

-- the struct that a line declares: in its fields the structs before it may be named
abbrev pub declared_in : List Form × Form → Option Struct
declared_in (front, struct_line n ps has_drop fields) =
    Some (struct_meant (scope_inside (scope_said front) ps) ps has_drop fields)
declared_in _ = None

-- the first point of the block that begins with a line: as many statements come before it
abbrev pub start_in : List Form × Form → Option ℕ
start_in (front, block n) = Some (length (filter_map statement_of_form front))
start_in _ = None

-- ---- what lines say together

-- What lines say together.
pub record Said : Type 0 where
  -- the place of the last group that has a line
  pub reached : ℕ
  -- what names mean in the types of variables and of statements
  pub scope : Scope
  -- how many of the regions are universal, 'static among them
  pub universals : ℕ
  -- of each pair of regions the first is known to outlive the second; each pair once
  pub outlives : List (ℕ × ℕ)
  -- of each pair of regions the first must hold, at all points, what the second holds; each pair
  -- once
  pub asserts : List (ℕ × ℕ)
  -- what the structs declare
  pub structs : List Struct
  -- the types of the variables
  pub variables : List TypeTree
  -- how many blocks there must be, and the first point of each that is there
  pub blocks : ℕ
  pub starts : List ℕ
  -- the statement or terminator at each point
  pub points : List (Statement ℕ TypeTree)
  -- the last block still lacks its terminator
  pub owes : Bool

-- what lines of these forms say
abbrev pub said : List Form → Said
said forms = record {
  reached = reached forms;
  scope = scope_said forms;
  universals = length (universals_said forms);
  outlives =
      insert_all same_pair []
      (map (region_numbers (universals_said forms)) (filter_map outlives_in forms));
  asserts =
      insert_all same_pair [] (map (region_numbers (names_said forms))
      (filter_map assert_in forms));
  structs = filter_map declared_in (with_fronts forms);
  variables = map (meant (scope_said forms)) (filter_map variable_in forms);
  blocks = get_or (filter_map blocks_in forms) 0 0;
  starts = filter_map start_in (with_fronts forms);
  points = map (meant_in (scope_said forms)) (filter_map statement_of_form forms);
  owes = unwrap_or (last_or None (filter_map owes_in forms)) false;
}
