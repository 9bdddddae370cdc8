-- What a reader makes of a struct line.
-- Source: project's choice. Only private contracts cite this file.
use Rattle.std.specs.Prelude.{◌≡◌, ◌≤◌, ◌+◌, Bool, false, ◌||◌, List, ◌∷◌, map, length, codes}
use Rattle.std.specs.Prelude.{is_some}
use Rattle.std.specs.List.{filter_map}
use Rattle.nll_mir_grammar.specs.WrittenTypes.{WrittenName}
use Rattle.nll_mir_grammar.specs.MirForms.{WrittenParameter}
use Rattle.nll_types.specs.declared.parameter.Parameter.{Parameter}
use Rattle.nll_mir_grammar.specs.declared.line.ParameterText.{ParameterText}
use Rattle.nll_mir_grammar.specs.declared.line.ParameterText.TheVariants as parameters
use Rattle.nll_mir_text.specs.Naming.{Scope, is_name_among}
use Rattle.nll_mir_text.specs.MirSaid.{region_parameter_in, type_in}
use Rattle.nll_mir_text.specs.MirFaults.{has_repeats}
use Rattle.nll_mir_text.specs.declared.tables.StructNames.{StructNames}
use Rattle.nll_mir_text.specs.declared.own_names.OwnNames.{OwnNames}

-- the region parameters, by name and mark
abbrev pub regions_in : List WrittenParameter → List (WrittenName × Parameter)
regions_in ps = filter_map region_parameter_in ps

-- the type parameters, by name and mark
abbrev pub types_in : List WrittenParameter → List (WrittenName × Parameter)
types_in ps = filter_map type_in ps

-- the parameter is one of a region
abbrev pub is_region_parameter : WrittenParameter → Bool
is_region_parameter p = is_some (region_parameter_in p)

-- the names of the regions that a struct's fields may name: 'static and its region parameters
abbrev pub region_names : List WrittenParameter → List WrittenName
region_names ps = codes "static" ∷ map (λ p. p.0) (regions_in ps)

-- the names of its type parameters
abbrev pub type_names : List WrittenParameter → List WrittenName
type_names ps = map (λ p. p.0) (types_in ps)

-- what is marked of the region parameters
abbrev pub region_marks : List WrittenParameter → List Parameter
region_marks ps = map (λ p. p.1) (regions_in ps)

-- what is marked of the type parameters
abbrev pub type_marks : List WrittenParameter → List Parameter
type_marks ps = map (λ p. p.1) (types_in ps)

-- The names are those of the row, each once.
pub record AreNamesOf (row names : List WrittenName) : Type 0 where
  pub same : has_repeats row ≡ false → names ≡ row
  pub members : (x : WrittenName) → is_name_among names x ≡ is_name_among row x

-- The names are the own ones of a struct with these parameters, and the result says whether one of
-- them occurs twice.
pub record AreOwn (ps : List WrittenParameter) (own : OwnNames) : Type 0 where
  pub regions : AreNamesOf (region_names ps) own.regions
  pub types : AreNamesOf (type_names ps) own.types
  pub repeats : own.repeats ≡ has_repeats (region_names ps) || has_repeats (type_names ps)
  pub few : length own.regions ≤ length ps + 1

-- the parameter is of a type, and its name is one of these
abbrev pub takes_name : List WrittenName → ParameterText → Bool
takes_name names (parameters.Region a p) = false
takes_name names (parameters.Type n p) = is_name_among names n.now

-- what names mean in the fields of a struct with these names of its own
abbrev pub own_scope : OwnNames → StructNames → Scope
own_scope own structs = record {
  regions = own.regions;
  parameters = own.types;
  structs = structs.names;
  kinds = map (λ ks. ks.items) structs.kinds.items;
}
