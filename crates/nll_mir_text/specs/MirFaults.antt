-- What is wrong with a further line of a MIR text. Source: project's choice; docs/FORMATS.md says
-- the same in prose.
use Rattle.std.specs.Prelude.{ℕ, ◌+◌, Bool, false, not, ◌&&◌, ◌||◌, ◌==◌, nat_lt, nat_le}
use Rattle.std.specs.Prelude.{List, [], ◌∷◌, length, find, Option}
use Rattle.std.specs.List.{list_all, list_any}
use Rattle.nll_problem.specs.Limits.{most_points, most_edges, most_universals, most_regions}
use Rattle.nll_problem.specs.Limits.{most_variables, most_structs}
use Rattle.nll_problem.specs.declared.error.Kind.TheVariants.{Points, Edges, Universals, Regions}
use Rattle.nll_problem.specs.declared.error.Kind.TheVariants.{Variables, Structs}
use Rattle.nll_format.specs.Names.{number_of}
use Rattle.nll_format.specs.Kinds.{kinds}
use Rattle.nll_format.specs.declared.error.TextKind.{TextKind}
use Rattle.nll_format.specs.declared.error.TextKind.TheVariants.{Syntax, Unknown, Duplicate, Range}
use Rattle.nll_format.specs.declared.error.TextKind.TheVariants.{Shape, TypeSize, Limit}
use Rattle.nll_types.specs.Shapes.{is_small}
use Rattle.nll_mir_grammar.specs.WrittenTypes.{WrittenName, WrittenType, tuple}
use Rattle.nll_body.specs.Statements.{Statement, types_written}
use Rattle.nll_body.specs.Effects.{targets}
use Rattle.nll_body.specs.Written.{regions_written, variables_written}
use Rattle.nll_body.specs.Exits.{edges_from, edge_count}
use Rattle.nll_body.specs.Typing.{types_agree, types_are_small, are_small}
use Rattle.nll_mir_grammar.specs.MirForms.{WrittenParameter}
use Rattle.nll_mir_grammar.specs.MirForms.{Form, universal, outlives, further, assert_line}
use Rattle.nll_mir_grammar.specs.MirForms.{struct_line, variable, blocks, block, at_point, end}
use Rattle.nll_mir_text.specs.Naming.{Scope, is_name_among, is_known, has_arguments, meant}
use Rattle.nll_mir_text.specs.Naming.{all_meant}
use Rattle.nll_mir_text.specs.MirSaid.{Said, group, scope_inside, meant_in}

-- ---- order

-- the `blocks` line is there, and no `end` line
abbrev pub is_in_body : Said → Bool
is_in_body s = nat_le (group (blocks 0)) s.reached && not (nat_le (group end) s.reached)

-- The line is in order: no line of a later group is there, a text has a `let` line before the one
-- `blocks` line, then blocks, each a `block` line, statements and one terminator, then `end`.
abbrev pub is_in_order : Said → Form → Bool
is_in_order s (blocks n) = s.reached + 1 == group (blocks n)
is_in_order s (block n) = is_in_body s && not s.owes
is_in_order s (at_point i) = is_in_body s && s.owes
is_in_order s end = is_in_body s && not s.owes
is_in_order s f = nat_le s.reached (group f)

-- ---- names

-- the name is that of a universal region
abbrev pub is_universal_in : Said → WrittenName → Bool
is_universal_in s a = nat_lt (number_of s.scope.regions a) s.universals

-- a name occurs in the row twice
abbrev pub has_repeats : List WrittenName → Bool
has_repeats [] = false
has_repeats (x ∷ xs) = is_name_among xs x || has_repeats xs

-- A name of the struct's own is declared already: the struct's, a parameter's that occurs twice or
-- is 'static, or a type parameter's that is a struct's.
abbrev pub redeclares : Scope → WrittenName → List WrittenParameter → Bool
redeclares s n ps =
    is_name_among s.structs n
    || has_repeats (scope_inside s ps).regions
    || has_repeats (scope_inside s ps).parameters
    || list_any (is_name_among (n ∷ s.structs)) (scope_inside s ps).parameters

-- the variables are declared
abbrev pub knows_variables : Said → List ℕ → Bool
knows_variables s xs = list_all (λ x. nat_lt x (length s.variables)) xs

-- each name and each variable in the statement is declared
abbrev pub knows : Said → Statement WrittenName WrittenType → Bool
knows s i =
    knows_variables s (variables_written i)
    && list_all (is_name_among s.scope.regions) (regions_written i)
    && list_all (is_known s.scope) (types_written i)

-- ---- blocks

-- each target is one of the blocks
abbrev pub has_targets : {R T : Type 0} → Said → Statement R T → Bool
has_targets s i = list_all (λ b. nat_lt b s.blocks) (targets i)

-- ---- types

-- the statement's types agree, and those that are written have arguments of the right kinds
abbrev pub shapes_fit : Said → Statement WrittenName WrittenType → Bool
shapes_fit s i =
    list_all (has_arguments s.scope) (types_written i)
    && types_agree s.structs s.variables (meant_in s.scope i)

-- ---- faults

-- Whether a line of the form has a fault of the kind, after lines that say s.
abbrev pub has_fault : Said → Form → TextKind → Bool
has_fault s f Syntax = not (is_in_order s f)
has_fault s (universal a) Duplicate = is_name_among s.scope.regions a
has_fault s (universal a) (Limit Universals) = nat_le most_universals s.universals
has_fault s (universal a) (Limit Regions) = nat_le most_regions (length s.scope.regions)
has_fault s (outlives a b) Unknown = not (is_universal_in s a && is_universal_in s b)
has_fault s (further x) Duplicate = is_name_among s.scope.regions x
has_fault s (further x) (Limit Regions) = nat_le most_regions (length s.scope.regions)
has_fault s (assert_line a b) Unknown =
    not (is_name_among s.scope.regions a && is_name_among s.scope.regions b)
has_fault s (struct_line n ps has_drop fields) Unknown =
    not (is_known (scope_inside s.scope ps) (tuple fields))
has_fault s (struct_line n ps has_drop fields) Duplicate = redeclares s.scope n ps
has_fault s (struct_line n ps has_drop fields) Shape =
    not (has_arguments (scope_inside s.scope ps) (tuple fields))
has_fault s (struct_line n ps has_drop fields) TypeSize =
    not (are_small (all_meant (scope_inside s.scope ps) fields))
has_fault s (struct_line n ps has_drop fields) (Limit Structs) =
    nat_le most_structs (length s.structs)
has_fault s (variable x t) Unknown = not (is_known s.scope t)
has_fault s (variable x t) Range = not (x == length s.variables)
has_fault s (variable x t) Shape = not (has_arguments s.scope t)
has_fault s (variable x t) TypeSize = not (is_small (meant s.scope t))
has_fault s (variable x t) (Limit Variables) = nat_le most_variables (length s.variables)
has_fault s (blocks n) Range = n == 0
has_fault s (blocks n) (Limit Points) = nat_lt most_points n
has_fault s (block n) Range = not (n == length s.starts && nat_lt n s.blocks)
has_fault s (at_point i) Unknown = not (knows s i)
has_fault s (at_point i) Range = not (has_targets s i)
has_fault s (at_point i) Shape = not (shapes_fit s i)
has_fault s (at_point i) TypeSize =
    not (types_are_small s.structs s.variables (meant_in s.scope i))
has_fault s (at_point i) (Limit Points) = nat_le most_points (length s.points)
has_fault s (at_point i) (Limit Edges) = nat_lt most_edges (edge_count s.points + edges_from i)
has_fault s end Range = nat_lt (length s.starts) s.blocks
has_fault s _ _ = false

-- the first kind of fault that a line of the form has, by the order of kinds
abbrev pub first_fault : Said → Form → Option TextKind
first_fault s f = find (has_fault s f) kinds
