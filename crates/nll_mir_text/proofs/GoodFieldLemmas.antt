-- The fields of a struct keep to what is declared, where their names are known and have arguments.
use Rattle.std.proofs.Common.{◌≡◌, ℕ, ◌<◌, Bool, true, false, cond, List, [], ◌∷◌, length, refl, ap, ◌∙◌, arith}
use Rattle.std.specs.Prelude.{◌&&◌, ◌||◌, nat_lt, slice_index_or}
use Rattle.std.specs.List.{AllByRecursion}
use Rattle.std.proofs.lemmas.Bool.Decides.{nat_tests}
use Rattle.std.proofs.lemmas.List.Elements.{All-from_recursion}
use Rattle.nll_format.specs.Names.{number_of}
use Rattle.nll_types.specs.Types.{parameter, named, type_count}
use Rattle.nll_types.specs.Structs.{Struct, IsWellFormed, AreWellFormed}
use Rattle.nll_mir_grammar.specs.WrittenTypes.{WrittenName, WrittenType, WrittenTypes, Arguments, no_argument, region_argument, type_argument}
use Rattle.nll_mir_grammar.specs.WrittenTypes as written
use Rattle.nll_mir_text.specs.Naming.{Scope, is_name_among, meant, all_meant, regions_meant, types_meant, is_known, kinds_of, same_kinds, has_arguments}
use Rattle.nll_mir_text.specs.ToldTypes.{are_known, arguments_are_known, have_arguments, arguments_have_arguments}
use Rattle.nll_mir_text.specs.MirReading.{region_count, other_count, AreKinds}

true_both : (a b : Bool) → a && b ≡ true → (a ≡ true) × (b ≡ true)
true_both true b h = (refl, h)
true_both false b h = absurd cc

below : (m n : ℕ) → nat_lt m n ≡ true → m < n
below m n h = grind (arith, nat_tests)

-- rows of kinds that are found the same are the same
kinds_same : (ks ls : List Bool) → same_kinds ks ls ≡ true → ks ≡ ls
kinds_same [] [] h = refl
kinds_same [] (l ∷ ls) h = absurd cc
kinds_same (true ∷ ks) [] h = absurd cc
kinds_same (false ∷ ks) [] h = absurd cc
kinds_same (true ∷ ks) (true ∷ ls) h = ap (λ (r : List Bool). true ∷ r) (kinds_same ks ls h)
kinds_same (true ∷ ks) (false ∷ ls) h = absurd cc
kinds_same (false ∷ ks) (true ∷ ls) h = absurd cc
kinds_same (false ∷ ks) (false ∷ ls) h = ap (λ (r : List Bool). false ∷ r) (kinds_same ks ls h)

regions_counted : (s : Scope) (args : Arguments) → length (regions_meant s args) ≡ region_count (kinds_of args)
regions_counted s no_argument = refl
regions_counted s (region_argument r args) = omega (arith, regions_counted s args)
regions_counted s (type_argument t args) = regions_counted s args

types_counted : (s : Scope) (args : Arguments) → type_count (types_meant s args) ≡ other_count (kinds_of args)
types_counted s no_argument = refl
types_counted s (region_argument r args) = types_counted s args
types_counted s (type_argument t args) = omega (arith, types_counted s args)

regions_known : (s : Scope) (args : Arguments) → arguments_are_known s args ≡ true
    → AllByRecursion (λ r. r < length s.regions) (regions_meant s args)
regions_known s no_argument k = tt
regions_known s (region_argument r args) k =
    let both = true_both _ _ k in (below _ _ both.0, regions_known s args both.1)
regions_known s (type_argument t args) k = regions_known s args (true_both _ _ k).1

module _ (s : Scope) (structs : List Struct) (kept : AreKinds s.kinds structs)
    (counted : length s.structs ≡ length structs) where
  by_name : (n : WrittenName) (args : Arguments) (b : Bool) → is_name_among s.parameters n ≡ b
      → (b || is_name_among s.structs n) && arguments_are_known s args ≡ true
      → same_kinds (kinds_of args) (cond b [] (slice_index_or s.kinds (number_of s.structs n) []))
      && arguments_have_arguments s args ≡ true
      → (arguments_are_known s args ≡ true → arguments_have_arguments s args ≡ true
      → AreWellFormed structs (length s.regions) (length s.parameters) (types_meant s args))
      → IsWellFormed structs (length s.regions) (length s.parameters)
      (cond b (parameter (number_of s.parameters n))
      (named (number_of s.structs n) (regions_meant s args) (types_meant s args)))
  by_name n args true e k h parts = below _ _ e
  by_name n args false e k h parts =
      let taken = slice_index_or s.kinds (number_of s.structs n) [] in
      let known = true_both (is_name_among s.structs n) (arguments_are_known s args) k in
      let has = true_both (same_kinds (kinds_of args) taken) (arguments_have_arguments s args) h in
      let known_struct : number_of s.structs n < length s.structs =
      below (number_of s.structs n) (length s.structs) known.0 in
      let within : number_of s.structs n < length structs = omega (arith, known_struct, counted) in
      let kinds = kinds_same (kinds_of args) taken has.0 in (
        within,
        regions_counted s args ∙ (ap region_count kinds ∙ kept.regions (number_of s.structs n) within),
        types_counted s args ∙ (ap other_count kinds ∙ kept.types (number_of s.structs n) within),
        All-from_recursion (λ r. r < length s.regions) (regions_meant s args) (regions_known s args known.1),
        parts known.1 has.1,
      )

  mutual
    -- a type whose names are known and have arguments keeps to what is declared
    pub well_formed : (t : WrittenType) → is_known s t ≡ true → has_arguments s t ≡ true
        → IsWellFormed structs (length s.regions) (length s.parameters) (meant s t)
    well_formed written.int k h = tt
    well_formed (written.reference r m t) k h =
        let both = true_both _ _ k in (below _ _ both.0, well_formed t both.1 h)
    well_formed (written.tuple ts) k h = all_well_formed ts k h
    well_formed (written.function ts t) k h =
        let known = true_both _ _ k in
        let has = true_both _ _ h in
        (all_well_formed ts known.0 has.0, well_formed t known.1 has.1)
    well_formed (written.named n args) k h =
        by_name n args (is_name_among s.parameters n) refl k h (λ known has. arguments_well_formed args known has)

    pub all_well_formed : (ts : WrittenTypes) → are_known s ts ≡ true → have_arguments s ts ≡ true
        → AreWellFormed structs (length s.regions) (length s.parameters) (all_meant s ts)
    all_well_formed written.none k h = tt
    all_well_formed (written.more t ts) k h =
        let known = true_both _ _ k in
        let has = true_both _ _ h in
        (well_formed t known.0 has.0, all_well_formed ts known.1 has.1)

    arguments_well_formed : (args : Arguments) → arguments_are_known s args ≡ true
        → arguments_have_arguments s args ≡ true
        → AreWellFormed structs (length s.regions) (length s.parameters) (types_meant s args)
    arguments_well_formed no_argument k h = tt
    arguments_well_formed (region_argument r args) k h = arguments_well_formed args (true_both _ _ k).1 h
    arguments_well_formed (type_argument t args) k h =
        let known = true_both _ _ k in
        let has = true_both _ _ h in
        (well_formed t known.0 has.0, arguments_well_formed args known.1 has.1)
