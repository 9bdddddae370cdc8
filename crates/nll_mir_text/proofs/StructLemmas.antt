-- One more struct: the kinds of its arguments, and that its fields keep to what is declared.
use Rattle.std.proofs.Common.{◌≡◌, ℕ, Some, None, ◌+◌, ◌<◌, Bool, true, false, List, [], ◌∷◌, ◌++◌, length, map, refl, sym, ◌∙◌, subst, ⊎_elim, arith, length-append}
use Rattle.std.specs.Prelude.{◌||◌}
use Rattle.std.proofs.lemmas.Bool.{cases_lt, not-false, leb-false, lt-leb}
use Rattle.std.proofs.lemmas.List.{get_or_append_left, get_or_at, length-map, take-append-le}
use Rattle.std.proofs.Math.Seq.{take-length}
use Rattle.nll_problem.specs.Limits.{most_structs}
use Rattle.nll_format.specs.declared.error.TextKind.TheVariants.{Unknown, Duplicate, Shape, TypeSize}
use Rattle.nll_body.specs.Typing.{are_small}
use Rattle.nll_types.specs.Structs.{Struct, HasGoodFields, AreWellFormed, AreInOrder}
use Rattle.nll_mir_grammar.specs.WrittenTypes.{WrittenName, WrittenTypes}
use Rattle.nll_mir_grammar.specs.MirForms.{WrittenParameter, region_parameter, type_parameter, struct_line}
use Rattle.nll_mir_text.specs.Naming.{is_name_among, all_meant}
use Rattle.nll_mir_text.specs.ToldTypes.{are_known, have_arguments}
use Rattle.nll_mir_text.specs.MirSaid.{Said, scope_inside}
use Rattle.nll_mir_text.specs.StructLines.{is_region_parameter, regions_in, types_in, region_names, type_names}
use Rattle.nll_mir_text.specs.MirSteps.{declared_struct}
use Rattle.nll_mir_text.specs.MirFaults.{has_repeats, redeclares, is_in_order, first_fault}
use Rattle.nll_mir_text.specs.MirReading.{AreKinds, region_count, other_count}
use Rattle.nll_mir_text.proofs.FaultLemmas.{faultless}
use Rattle.nll_mir_text.proofs.GoodFieldLemmas.{all_well_formed}

regions_counted : (ps : List WrittenParameter) → region_count (map is_region_parameter ps) ≡ length (regions_in ps)
regions_counted [] = refl
regions_counted (region_parameter a p ∷ ps) = omega (arith, regions_counted ps)
regions_counted (type_parameter n p ∷ ps) = regions_counted ps

types_counted : (ps : List WrittenParameter) → other_count (map is_region_parameter ps) ≡ length (types_in ps)
types_counted [] = refl
types_counted (region_parameter a p ∷ ps) = types_counted ps
types_counted (type_parameter n p ∷ ps) = omega (arith, types_counted ps)

split : (k n : ℕ) → k < n + 1 → (P : Type 0) → (k < n → P) → (k ≡ n → P) → P
split k n h P low high = ⊎_elim low (λ l. high (omega arith)) (cases_lt k n)

-- the kinds of one more struct's arguments
pub kinds_pushed : (kinds : List (List Bool)) (structs : List Struct) (ks : List Bool) (d : Struct)
    → length kinds ≡ length structs → AreKinds kinds structs
    → region_count ks ≡ length d.regions → other_count ks ≡ length d.types
    → AreKinds (kinds ++ ks ∷ []) (structs ++ d ∷ [])
kinds_pushed kinds structs ks d counted kept regions types =
    grind (arith, split, length-append, get_or_append_left, get_or_at)

-- one more struct in order
pub order_push : (structs : List Struct) (d : Struct) → AreInOrder structs → HasGoodFields structs d
    → AreInOrder (structs ++ d ∷ [])
order_push structs d order good s l =
    grind (arith, split, length-append, take-append-le, get_or_append_left, take-length, get_or_at)

-- ---- a struct line with which nothing is wrong

four : (a b c d : Bool) → a || b || c || d ≡ false → (a ≡ false) × (b ≡ false) × (c ≡ false) × (d ≡ false)
four true b c d h = absurd cc
four false true c d h = absurd cc
four false false true d h = absurd cc
four false false false d h = (refl, refl, refl, h)

-- What is right of a struct line with which nothing is wrong.
pub record IsFine (s : Said) (n : WrittenName) (ps : List WrittenParameter) (fields : WrittenTypes) : Type 0 where
  pub known : are_known (scope_inside s.scope ps) fields ≡ true
  pub new : is_name_among s.scope.structs n ≡ false
  pub regions : has_repeats (region_names ps) ≡ false
  pub types : has_repeats (type_names ps) ≡ false
  pub has : have_arguments (scope_inside s.scope ps) fields ≡ true
  pub few : length s.structs < most_structs

pub struct_fine : (s : Said) (n : WrittenName) (ps : List WrittenParameter) (has_drop : Bool) (fields : WrittenTypes)
    → first_fault s (struct_line n ps has_drop fields) ≡ None → IsFine s n ps fields
struct_fine s n ps has_drop fields e = grind (arith, faultless, four, not-false, leb-false)

-- no name of its own stands twice in a struct line that declares none again
pub once_each : (s : Said) (n : WrittenName) (ps : List WrittenParameter) → redeclares s.scope n ps ≡ false
    → (has_repeats (region_names ps) ≡ false) × (has_repeats (type_names ps) ≡ false)
once_each s n ps once = grind (arith, four)

-- ---- the first fault of a struct line that stands in order

module _ (s : Said) (n : WrittenName) (ps : List WrittenParameter) (has_drop : Bool) (fields : WrittenTypes)
    (order : is_in_order s (struct_line n ps has_drop fields) ≡ true) where
  pub struct_unknown : are_known (scope_inside s.scope ps) fields ≡ false
      → first_fault s (struct_line n ps has_drop fields) ≡ Some Unknown
  struct_unknown known = rw (order, known) refl

  pub struct_duplicate : are_known (scope_inside s.scope ps) fields ≡ true → redeclares s.scope n ps ≡ true
      → first_fault s (struct_line n ps has_drop fields) ≡ Some Duplicate
  struct_duplicate known again = rw (order, known, again) refl

  module _ (known : are_known (scope_inside s.scope ps) fields ≡ true) (once : redeclares s.scope n ps ≡ false) where
    pub struct_unfit : have_arguments (scope_inside s.scope ps) fields ≡ false
        → first_fault s (struct_line n ps has_drop fields) ≡ Some Shape
    struct_unfit fit = rw (order, known, once, fit) refl

    module _ (fit : have_arguments (scope_inside s.scope ps) fields ≡ true) where
      pub struct_too_large : are_small (all_meant (scope_inside s.scope ps) fields) ≡ false
          → first_fault s (struct_line n ps has_drop fields) ≡ Some TypeSize
      struct_too_large small = rw (order, known, once, fit, small) refl

      module _ (small : are_small (all_meant (scope_inside s.scope ps) fields) ≡ true) where
        pub no_struct_fault : length s.structs < most_structs → first_fault s (struct_line n ps has_drop fields) ≡ None
        no_struct_fault few = rw (order, known, once, fit, small, lt-leb _ _ few) refl

-- ---- what a struct line declares

module _ (s : Said) (ps : List WrittenParameter) (has_drop : Bool) (fields : WrittenTypes) where
  -- the kinds are those of the parameters
  pub regions_declared : region_count (map is_region_parameter ps) ≡ length
      (declared_struct s ps has_drop fields).regions
  regions_declared = regions_counted ps ∙ sym (length-map (regions_in ps) (λ p. p.1))

  pub types_declared : other_count (map is_region_parameter ps) ≡ length (declared_struct s ps has_drop fields).types
  types_declared = types_counted ps ∙ sym (length-map (types_in ps) (λ p. p.1))

  -- the fields keep to what is declared, where their names are known and have arguments
  pub good_fields : AreKinds s.scope.kinds s.structs → length s.scope.structs ≡ length s.structs
      → are_known (scope_inside s.scope ps) fields ≡ true → have_arguments (scope_inside s.scope ps) fields ≡ true
      → HasGoodFields s.structs (declared_struct s ps has_drop fields)
  good_fields kinds named known has =
      let good = all_well_formed (scope_inside s.scope ps) s.structs kinds named fields known has in
      let regions : length (scope_inside s.scope ps).regions ≡ length
      (declared_struct s ps has_drop fields).regions + 1 =
      omega (arith, length-map (regions_in ps) (λ p. p.0), length-map (regions_in ps) (λ p. p.1)) in
      let types : length (scope_inside s.scope ps).parameters ≡ length (declared_struct s ps has_drop fields).types =
      length-map (types_in ps) (λ p. p.0) ∙ sym (length-map (types_in ps) (λ p. p.1)) in
      subst (λ (n : ℕ). AreWellFormed s.structs (length (declared_struct s ps has_drop fields).regions + 1) n
      (declared_struct s ps has_drop fields).fields) types
      (subst (λ (n : ℕ). AreWellFormed s.structs n (length (scope_inside s.scope ps).parameters)
      (declared_struct s ps has_drop fields).fields) regions good)
