-- A line of the head keeps what holds of what lines say.
use Rattle.std.proofs.Common.{◌≡◌, ℕ, ◌+◌, ◌<◌, ◌≤◌, Bool, true, List, [], ◌∷◌, ◌++◌, None, length, map, subst, ⊎_elim, arith, length-append}
use Rattle.std.specs.Prelude.{◌&&◌, All, Contains}
use Rattle.std.specs.List.{list_any}
use Rattle.std.proofs.lemmas.Bool.{and_parts, not-false, leb-false, ltb-true}
use Rattle.std.proofs.lemmas.List.Elements.{All-push}
use Rattle.nll_problem.specs.Building.{same_pair}
use Rattle.nll_format.specs.Names.{number_of}
use Rattle.nll_problem.specs.Limits.{most_universals, most_regions, most_variables}
use Rattle.nll_types.specs.Structs.{IsWellFormed}
use Rattle.nll_mir_grammar.specs.WrittenTypes.{WrittenName, WrittenType, WrittenTypes}
use Rattle.nll_mir_grammar.specs.MirForms.{WrittenParameter, universal, outlives, further, assert_line, struct_line, variable, blocks}
use Rattle.nll_mir_text.specs.Naming.{meant, is_name_among, has_arguments, is_known}
use Rattle.nll_mir_text.specs.ToldTypes.{have_arguments, are_known}
use Rattle.nll_mir_text.specs.MirSaid.{Said, scope_inside}
use Rattle.nll_mir_text.specs.StructLines.{is_region_parameter}
use Rattle.nll_mir_text.specs.MirSteps.{says, declared_struct}
use Rattle.nll_mir_text.specs.MirFaults.{is_universal_in, first_fault}
use Rattle.nll_mir_text.proofs.FaultLemmas.{faultless}
use Rattle.nll_mir_text.proofs.LineLemmas.{positive, nothing_at, inserted}
use Rattle.nll_mir_text.proofs.GoodFieldLemmas.{well_formed}
use Rattle.nll_mir_text.proofs.GroupLemmas.{follows, before_blocks}
use Rattle.nll_mir_text.proofs.SaidLemmas.{in_order}
use Rattle.nll_mir_text.proofs.StructLemmas.{order_push, kinds_pushed, regions_declared, types_declared, good_fields}
use Rattle.nll_mir_text.proofs.WellLemmas.{asserted_more, IsWell, written_early, places_early, declares_late, keeps_none}

module _ (s : Said) (w : IsWell s) where
  -- no type parameter may be named outside structs
  pub unnamed : (t : WrittenType)
      → IsWellFormed s.structs (length s.scope.regions) (length s.scope.parameters) (meant s.scope t)
      → IsWellFormed s.structs (length s.scope.regions) 0 (meant s.scope t)
  unnamed t = subst (λ (ps : List WrittenName). IsWellFormed s.structs (length s.scope.regions) (length ps)
      (meant s.scope t))
      w.plain

  pub well_universal : (a : WrittenName) → first_fault s (universal a) ≡ None → IsWell (says s (universal a))
  well_universal a e =
      let no = faultless s (universal a) e in
      let le : s.reached ≤ 1 = (follows s (universal a) (in_order s (universal a) e)).0 in
      let few : s.universals < most_universals = leb-false most_universals s.universals no.universals in
      let regions : length s.scope.regions < most_regions =
      leb-false most_regions (length s.scope.regions) no.regions in
      let d = w.declares in
      let known : (x y : ℕ) → Contains s.outlives (x, y) → (x < s.universals + 1) × (y < s.universals + 1) =
      λ x y c. (let k = d.known x y c in (omega (arith, k.0), omega (arith, k.1))) in
      record {
        plain = w.plain;
        asserted =
            asserted_more s.scope.regions (s.scope.regions ++ a ∷ []) s.asserts
            (omega (arith, length-append s.scope.regions (a ∷ []))) w.asserted;
        declares = grind (arith, length-append, keeps_none);
        places = places_early _ _ _ _ _ 1 w.places le (omega arith);
        written = written_early _ _ _ _ _ w.places (omega (arith, le)) (s.scope.regions ++ a ∷ []) s.structs;
      }

  pub well_outlives : (a b : WrittenName) → first_fault s (outlives a b) ≡ None → IsWell (says s (outlives a b))
  well_outlives a b e =
      let no = faultless s (outlives a b) e in
      let le : s.reached ≤ 2 = (follows s (outlives a b) (in_order s (outlives a b) e)).0 in
      let both =
      and_parts (is_universal_in s a) (is_universal_in s b)
      (not-false (is_universal_in s a && is_universal_in s b) no.unknown) in
      let d = w.declares in
      let known : (x y : ℕ) → Contains (says s (outlives a b)).outlives (x, y)
      → (x < s.universals) × (y < s.universals) =
      λ x y c. ⊎_elim (d.known x y)
      (λ same. subst (λ (p : ℕ × ℕ). (p.0 < s.universals) × (p.1 < s.universals)) same (
        ltb-true (number_of s.scope.regions a) s.universals both.0,
        ltb-true (number_of s.scope.regions b) s.universals both.1,
      ))
      (inserted (list_any (same_pair (number_of s.scope.regions a, number_of s.scope.regions b)) s.outlives)
      s.outlives
      (number_of s.scope.regions a, number_of s.scope.regions b) (x, y) c) in
      record {
        plain = w.plain;
        asserted = w.asserted;
        declares = grind arith;
        places = places_early _ _ _ _ _ 2 w.places le (omega arith);
        written = written_early _ _ _ _ _ w.places (omega (arith, le)) s.scope.regions s.structs;
      }

  pub well_further : (x : WrittenName) → first_fault s (further x) ≡ None → IsWell (says s (further x))
  well_further x e =
      let no = faultless s (further x) e in
      let le : s.reached ≤ 3 = (follows s (further x) (in_order s (further x) e)).0 in
      let regions : length s.scope.regions < most_regions =
      leb-false most_regions (length s.scope.regions) no.regions in
      let d = w.declares in
      record {
        plain = w.plain;
        asserted =
            asserted_more s.scope.regions (s.scope.regions ++ x ∷ []) s.asserts
            (omega (arith, length-append s.scope.regions (x ∷ []))) w.asserted;
        declares = grind (arith, length-append, keeps_none);
        places = places_early _ _ _ _ _ 3 w.places le (omega arith);
        written = written_early _ _ _ _ _ w.places (omega (arith, le)) (s.scope.regions ++ x ∷ []) s.structs;
      }

  pub well_assert : (a b : WrittenName) → first_fault s (assert_line a b) ≡ None → IsWell (says s (assert_line a b))
  well_assert a b e =
      let no = faultless s (assert_line a b) e in
      let le : s.reached ≤ 4 = (follows s (assert_line a b) (in_order s (assert_line a b) e)).0 in
      let both =
      and_parts (is_name_among s.scope.regions a) (is_name_among s.scope.regions b)
      (not-false (is_name_among s.scope.regions a && is_name_among s.scope.regions b) no.unknown) in
      let d = w.declares in
      record {
        plain = w.plain;
        asserted =
            λ x y c. ⊎_elim (w.asserted x y) (λ same.
            subst (λ (p : ℕ × ℕ). (p.0 < length s.scope.regions) × (p.1 < length s.scope.regions)) same (
              ltb-true (number_of s.scope.regions a) (length s.scope.regions) both.0,
              ltb-true (number_of s.scope.regions b) (length s.scope.regions) both.1,
            ))
            (inserted (list_any (same_pair (number_of s.scope.regions a, number_of s.scope.regions b)) s.asserts)
            s.asserts
            (number_of s.scope.regions a, number_of s.scope.regions b) (x, y) c);
        declares = grind arith;
        places = places_early _ _ _ _ _ 4 w.places le (omega arith);
        written = written_early _ _ _ _ _ w.places (omega (arith, le)) s.scope.regions s.structs;
      }

  pub well_struct : (n : WrittenName) (ps : List WrittenParameter) (has_drop : Bool) (fields : WrittenTypes)
      → first_fault s (struct_line n ps has_drop fields) ≡ None → IsWell (says s (struct_line n ps has_drop fields))
  well_struct n ps has_drop fields e =
      let no = faultless s (struct_line n ps has_drop fields) e in
      let le : s.reached ≤ 5 =
      (follows s (struct_line n ps has_drop fields) (in_order s (struct_line n ps has_drop fields) e)).0 in
      let known : are_known (scope_inside s.scope ps) fields ≡ true = not-false _ no.unknown in
      let has : have_arguments (scope_inside s.scope ps) fields ≡ true = not-false _ no.shape in
      let d = w.declares in
      let more = declared_struct s ps has_drop fields in
      record {
        plain = w.plain;
        asserted = w.asserted;
        declares = record {
          some = d.some;
          few = d.few;
          all = d.all;
          few_names = d.few_names;
          few_variables = d.few_variables;
          known = d.known;
          named = omega (arith, d.named, length-append s.scope.structs (n ∷ []), length-append s.structs (more ∷ []));
          counted =
              omega (
                arith,
                d.counted,
                length-append s.scope.kinds (map is_region_parameter ps ∷ []),
                length-append s.structs (more ∷ []),
              );
          takes = kinds_pushed s.scope.kinds s.structs (map is_region_parameter ps) more d.counted d.takes
              (regions_declared s ps has_drop fields) (types_declared s ps has_drop fields);
          order = order_push s.structs more d.order (good_fields s ps has_drop fields d.takes d.named known has);
          none_yet = λ _. d.none_yet (omega (arith, le));
          keep = keeps_none _ _ _ _ _ _ _ _ (omega (arith, le)) d
              (IsWellFormed (s.structs ++ more ∷ []) (length s.scope.regions) 0);
        };
        places = places_early _ _ _ _ _ 5 w.places le (omega arith);
        written = written_early _ _ _ _ _ w.places (omega (arith, le)) s.scope.regions (s.structs ++ more ∷ []);
      }

  pub well_variable : (x : ℕ) (t : WrittenType) → first_fault s (variable x t) ≡ None → IsWell (says s (variable x t))
  well_variable x t e =
      let no = faultless s (variable x t) e in
      let le : s.reached ≤ 6 = (follows s (variable x t) (in_order s (variable x t) e)).0 in
      let known : is_known s.scope t ≡ true = not-false _ no.unknown in
      let has : has_arguments s.scope t ≡ true = not-false _ no.shape in
      let limit : length s.variables < most_variables = leb-false most_variables (length s.variables) no.variables in
      let d = w.declares in
      let keep : All (IsWellFormed s.structs (length s.scope.regions) 0) (s.variables ++ meant s.scope t ∷ []) =
      All-push (IsWellFormed s.structs (length s.scope.regions) 0) s.variables (meant s.scope t) d.keep
      (unnamed t (well_formed s.scope s.structs d.takes d.named t known has)) in
      record {
        plain = w.plain;
        asserted = w.asserted;
        declares = grind (arith, length-append);
        places = places_early _ _ _ _ _ 6 w.places le (omega arith);
        written = written_early _ _ _ _ _ w.places (omega (arith, le)) s.scope.regions s.structs;
      }

  pub well_blocks : (n : ℕ) → first_fault s (blocks n) ≡ None → IsWell (says s (blocks n))
  well_blocks n e = grind (arith, faultless, before_blocks, in_order, positive, declares_late, nothing_at)
