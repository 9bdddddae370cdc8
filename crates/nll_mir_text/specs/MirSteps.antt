-- What is said once there is one more line.
-- Source: project's choice. Only private contracts cite this file.
use Rattle.std.specs.Prelude.{ℕ, ◌+◌, Bool, true, not, nat_le, List, [], ◌∷◌, ◌++◌, length, map}
use Rattle.indexmap.specs.IndexSet.{insert_all}
use Rattle.nll_problem.specs.Building.{same_pair}
use Rattle.nll_types.specs.Types.{TypeTree}
use Rattle.nll_types.specs.Structs.{Struct}
use Rattle.nll_mir_grammar.specs.WrittenTypes.{WrittenName, WrittenType, WrittenTypes}
use Rattle.nll_body.specs.Statements.{Statement, is_terminator}
use Rattle.nll_mir_grammar.specs.MirForms.{WrittenParameter}
use Rattle.nll_mir_grammar.specs.MirForms.{Form, universal, outlives, further, assert_line}
use Rattle.nll_mir_grammar.specs.MirForms.{struct_line, variable, blocks, block, at_point, end}
use Rattle.nll_mir_text.specs.Naming.{meant}
use Rattle.nll_mir_text.specs.declared.groups.Group.{Group}
use Rattle.nll_mir_text.specs.declared.groups.Group.TheVariants.{Header, Universals, Outlives}
use Rattle.nll_mir_text.specs.declared.groups.Group.TheVariants.{Regions, Asserts, Structs}
use Rattle.nll_mir_text.specs.declared.groups.Group.TheVariants.{Variables, BlockCount, Blocks, End}
use Rattle.nll_mir_text.specs.MirSaid.{Said, said, group, region_numbers, scope_inside}
use Rattle.nll_mir_text.specs.StructLines.{is_region_parameter}
use Rattle.nll_mir_text.specs.MirSaid.{struct_meant, meant_in}

-- the number of a group of the code
abbrev pub rank : Group → ℕ
rank Header = 0
rank Universals = 1
rank Outlives = 2
rank Regions = 3
rank Asserts = 4
rank Structs = 5
rank Variables = 6
rank BlockCount = 7
rank Blocks = 8
rank End = 9

-- a line of the group or of a later one is there
abbrev pub has_reached : Said → Group → Bool
has_reached s g = nat_le (rank g) s.reached

-- no line says anything
abbrev pub nothing_said : Said
nothing_said = said []

-- the struct that a further line declares
abbrev pub declared_struct : Said → List WrittenParameter → Bool → WrittenTypes → Struct
declared_struct s ps has_drop fields = struct_meant (scope_inside s.scope ps) ps has_drop fields

-- a statement as it is meant after lines that say s
abbrev pub statement_meant : Said → Statement WrittenName WrittenType → Statement ℕ TypeTree
statement_meant s i = meant_in s.scope i

-- What is said after a further line of the form, which is in order.
abbrev pub says : Said → Form → Said
says s (universal a) = record s {
  reached = group (universal a);
  scope = record s.scope { regions = s.scope.regions ++ a ∷ [] };
  universals = s.universals + 1;
}
says s (outlives a b) = record s {
  reached = group (outlives a b);
  outlives = insert_all same_pair s.outlives (region_numbers s.scope.regions (a, b) ∷ []);
}
says s (further x) = record s {
  reached = group (further x);
  scope = record s.scope { regions = s.scope.regions ++ x ∷ [] };
}
says s (assert_line a b) = record s {
  reached = group (assert_line a b);
  asserts = insert_all same_pair s.asserts (region_numbers s.scope.regions (a, b) ∷ []);
}
says s (struct_line n ps has_drop fields) = record s {
  reached = group (struct_line n ps has_drop fields);
  scope = record s.scope {
    structs = s.scope.structs ++ n ∷ [];
    kinds = s.scope.kinds ++ map is_region_parameter ps ∷ [];
  };
  structs = s.structs ++ declared_struct s ps has_drop fields ∷ [];
}
says s (variable x t) = record s {
  reached = group (variable x t);
  variables = s.variables ++ meant s.scope t ∷ [];
}
says s (blocks n) = record s { reached = group (blocks n); blocks = n }
says s (block n) = record s {
  reached = group (block n);
  starts = s.starts ++ length s.points ∷ [];
  owes = true;
}
says s (at_point i) = record s {
  reached = group (at_point i);
  points = s.points ++ statement_meant s i ∷ [];
  owes = not (is_terminator i);
}
says s end = record s { reached = group end }
