-- Which lines a MIR text of each version has: version 2 has all forms, and version 1 those without
-- a function type, without a contravariant parameter and without a constraint at all points.
-- Source: project's choice; docs/FORMATS.md says the same in prose.
use Rattle.std.specs.Prelude.{◌≡◌, ℕ, Bool, true, false, not, ◌&&◌, List, codes}
use Rattle.std.specs.List.{list_all}
use Rattle.nll_text.specs.Tokens.{Token}
use Rattle.nll_types.specs.declared.parameter.Sign.{Sign}
use Rattle.nll_types.specs.declared.parameter.Sign.TheVariants.{Covariant, Contravariant, Invariant}
use Rattle.nll_mir_grammar.specs.Functions.{has_function, have_function}
use Rattle.nll_body.specs.Statements.{types_written}
use Rattle.nll_mir_grammar.specs.MirForms.{WrittenParameter, region_parameter, type_parameter}
use Rattle.nll_mir_grammar.specs.MirForms.{Form, assert_line, struct_line, variable, at_point}
use Rattle.nll_mir_grammar.specs.MirForms.{HasForm, IsSpelled}
use Rattle.nll_mir_grammar.specs.declared.version.Version.{Version}
use Rattle.nll_mir_grammar.specs.declared.version.Version.TheVariants.{First, Second}

-- the version as its header says it
abbrev pub version_codes : Version → List ℕ
version_codes First = codes "1"
version_codes Second = codes "2"

-- version 1 knows `+` and `=` alone
abbrev pub is_first_sign : Sign → Bool
is_first_sign Covariant = true
is_first_sign Contravariant = false
is_first_sign Invariant = true

-- the parameter's sign is one of version 1
abbrev pub is_first_parameter : WrittenParameter → Bool
is_first_parameter (region_parameter a p) = is_first_sign p.sign
is_first_parameter (type_parameter n p) = is_first_sign p.sign

-- a line of the form has no function type and no contravariant parameter, and is no constraint at
-- all points
abbrev pub is_of_first : Form → Bool
is_of_first (assert_line a b) = false
is_of_first (struct_line n ps has_drop fields) =
    list_all is_first_parameter ps && not (have_function fields)
is_of_first (variable x t) = not (has_function t)
is_of_first (at_point i) = list_all (λ t. not (has_function t)) (types_written i)
is_of_first _ = true

-- a line of the form may be in a text of the version
abbrev pub is_of_version : Version → Form → Bool
is_of_version First f = is_of_first f
is_of_version Second f = true

-- the tokens are those of the form, which may be in a text of the version
abbrev pub IsSpelledIn : Version → List Token → Form → Type 0
IsSpelledIn version tokens f = IsSpelled tokens f × (is_of_version version f ≡ true)

-- the line has the form in a text of the version
abbrev pub HasFormIn : Version → List ℕ → Form → Type 0
HasFormIn version line f = HasForm line f × (is_of_version version f ≡ true)
