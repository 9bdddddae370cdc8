-- Whether names are known and have the arguments that they take, form by form of a type.
use Rattle.std.proofs.Common.{◌≡◌, Bool, true, ◌&&◌, refl}
use Rattle.std.specs.Prelude.{◌||◌}
use Rattle.nll_mir_grammar.specs.WrittenTypes.{WrittenName, WrittenType, WrittenTypes, Arguments, int, reference, tuple, named, function, none, more, region_argument, type_argument}
use Rattle.nll_mir_text.specs.Naming.{Scope, is_name_among, is_known, has_arguments, kinds_of, kinds_taken, same_kinds}
use Rattle.nll_mir_text.specs.ToldTypes.{arguments_are_known, arguments_have_arguments}

module _ (s : Scope) where
  -- each name is known
  pub known_int : is_known s int ≡ true
  known_int = refl

  pub known_reference : (r : WrittenName) (m : Bool) (t : WrittenType)
      → is_known s (reference r m t) ≡ is_name_among s.regions r && is_known s t
  known_reference r m t = refl

  pub known_nothing : is_known s (tuple none) ≡ true
  known_nothing = refl

  pub known_tuple : (t : WrittenType) (ts : WrittenTypes)
      → is_known s (tuple (more t ts)) ≡ is_known s t && is_known s (tuple ts)
  known_tuple t ts = refl

  pub known_name : (n : WrittenName) (args : Arguments)
      → is_known s (named n args) ≡ (is_name_among s.parameters n || is_name_among s.structs n) && arguments_are_known
      s args
  known_name n args = refl

  pub known_function : (ts : WrittenTypes) (t : WrittenType)
      → is_known s (function ts t) ≡ is_known s (tuple ts) && is_known s t
  known_function ts t = refl

  pub known_region : (r : WrittenName) (args : Arguments)
      → arguments_are_known s (region_argument r args) ≡ is_name_among s.regions r && arguments_are_known s args
  known_region r args = refl

  pub known_type : (t : WrittenType) (args : Arguments)
      → arguments_are_known s (type_argument t args) ≡ is_known s t && arguments_are_known s args
  known_type t args = refl

  -- each name has the arguments that it takes
  pub fits_int : has_arguments s int ≡ true
  fits_int = refl

  pub fits_reference : (r : WrittenName) (m : Bool) (t : WrittenType)
      → has_arguments s (reference r m t) ≡ has_arguments s t
  fits_reference r m t = refl

  pub fits_nothing : has_arguments s (tuple none) ≡ true
  fits_nothing = refl

  pub fits_tuple : (t : WrittenType) (ts : WrittenTypes)
      → has_arguments s (tuple (more t ts)) ≡ has_arguments s t && has_arguments s (tuple ts)
  fits_tuple t ts = refl

  pub fits_name : (n : WrittenName) (args : Arguments) → has_arguments s (named n args)
      ≡ same_kinds (kinds_of args) (kinds_taken s n) && arguments_have_arguments s args
  fits_name n args = refl

  pub fits_function : (ts : WrittenTypes) (t : WrittenType)
      → has_arguments s (function ts t) ≡ has_arguments s (tuple ts) && has_arguments s t
  fits_function ts t = refl

  pub fits_region : (r : WrittenName) (args : Arguments)
      → arguments_have_arguments s (region_argument r args) ≡ arguments_have_arguments s args
  fits_region r args = refl

  pub fits_type : (t : WrittenType) (args : Arguments)
      → arguments_have_arguments s (type_argument t args) ≡ has_arguments s t && arguments_have_arguments s args
  fits_type t args = refl
