-- What is known of the names in types and arguments in a row. Source: project's choice. Only
-- private contracts cite this file.
use Rattle.std.specs.Prelude.{Bool, true, ◌||◌}
use Rattle.nll_mir_grammar.specs.WrittenTypes.{WrittenTypes, Arguments, tuple}
use Rattle.nll_mir_text.specs.Naming.{Scope, is_name_among, is_known, has_arguments}
use Rattle.nll_mir_text.specs.Naming.{each_name_among}
use Rattle.nll_mir_text.specs.Naming.{kinds_of, kinds_taken, same_kinds}

-- each name in the types is known
abbrev pub are_known : Scope → WrittenTypes → Bool
are_known s ts = is_known s (tuple ts)

-- each name in the types has arguments of the kinds that it takes
abbrev pub have_arguments : Scope → WrittenTypes → Bool
have_arguments s ts = has_arguments s (tuple ts)

-- each name among arguments is known
abbrev pub arguments_are_known : Scope → Arguments → Bool
arguments_are_known s args =
    each_name_among (is_name_among s.regions)
    (λ n args. is_name_among s.parameters n || is_name_among s.structs n) args

-- each name among arguments has arguments of the kinds that it takes
abbrev pub arguments_have_arguments : Scope → Arguments → Bool
arguments_have_arguments s args =
    each_name_among (λ r. true) (λ n args. same_kinds (kinds_of args) (kinds_taken s n)) args
