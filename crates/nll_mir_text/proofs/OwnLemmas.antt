-- The names of a struct's own, each once, and what depends on which names there are.
use Rattle.std.proofs.Common.{Option, Some, None, ◌≡◌, ℕ, suc, ◌+◌, ◌<◌, ◌≤◌, Bool, true, false, not, cond, List, [], ◌∷◌, ◌++◌, length, map, refl, sym, ap, ◌∙◌, subst, arith}
use Rattle.std.specs.Prelude.{◌&&◌, ◌||◌, nat_lt, codes, is_some, MatchOption}
use Rattle.std.specs.List.{AllByRecursion, list_any}
use Rattle.std.specs.Str.{bytes_eq}
use Rattle.std.proofs.lemmas.Bool.{cases_lt, cases_Bool, lt-ltb, le-ltb, ltb-false, or_parts, or_right, false_from_ne_true, false≢true}
use Rattle.std.proofs.lemmas.List.{append-nil, length-append, map_push}
use Rattle.std.proofs.lemmas.List.Elements.{filter_map-append}
use Rattle.std.proofs.lemmas.Slice.Eq.{bytes_eq-Decides}
use Rattle.nll_format.specs.Names.{number_of}
use Rattle.nll_format.proofs.NameLemmas.{number_of_within}
use Rattle.nll_types.specs.declared.parameter.Parameter.{Parameter}
use Rattle.nll_mir_grammar.specs.WrittenTypes.{WrittenName, WrittenType, WrittenTypes, Arguments, no_argument, region_argument, type_argument}
use Rattle.nll_mir_grammar.specs.WrittenTypes as written
use Rattle.nll_mir_grammar.specs.MirForms.{WrittenParameter, region_parameter, type_parameter}
use Rattle.nll_mir_grammar.specs.Lines.{parameter_of}
use Rattle.nll_mir_grammar.specs.declared.line.ParameterText.{ParameterText}
use Rattle.nll_mir_grammar.specs.declared.line.ParameterText.TheVariants as parameters
use Rattle.nll_mir_text.specs.Naming.{Scope, is_name_among, is_known}
use Rattle.nll_mir_text.specs.ToldTypes.{are_known, arguments_are_known}
use Rattle.nll_mir_text.specs.MirSaid.{Said, scope_inside, region_parameter_in, type_in}
use Rattle.nll_mir_text.specs.StructLines.{regions_in, types_in, AreNamesOf, AreOwn, region_names, type_names, takes_name, own_scope}
use Rattle.nll_mir_text.specs.MirFaults.{has_repeats}
use Rattle.nll_mir_text.specs.MirReading.{IsNamed}
use Rattle.nll_mir_text.specs.declared.tables.StructNames.{StructNames}
use Rattle.nll_mir_text.specs.declared.own_names.OwnNames.{OwnNames}

-- ---- tests

or_none : (a : Bool) → a || false ≡ a
or_none true = refl
or_none false = refl

or_group : (a b c : Bool) → (a || b) || c ≡ a || (b || c)
or_group true b c = refl
or_group false b c = refl

or_late : (a b c : Bool) → (a || b) || c ≡ (a || c) || b
or_late true b c = refl
or_late false true true = refl
or_late false true false = refl
or_late false false c = sym (or_none c)

or_cross : (a e r b : Bool) → (a || e) || (r || b) ≡ (a || r) || (e || b)
or_cross true e r b = refl
or_cross false true true b = refl
or_cross false true false b = refl
or_cross false false r b = refl

not_not : (a : Bool) → not (not a) ≡ a
not_not true = refl
not_not false = refl

-- ---- the name is among the names

first_or_later : (b : Bool) (n m : ℕ) → nat_lt (cond (not b) (1 + n) 0) (suc m) ≡ b || nat_lt n m
first_or_later true n m = lt-ltb 0 (suc m) (omega arith)
first_or_later false n m = grind (arith, lt-ltb, le-ltb, cases_lt)

pub among_cons : (y : WrittenName) (ys : List WrittenName) (x : WrittenName)
    → is_name_among (y ∷ ys) x ≡ bytes_eq x y || is_name_among ys x
among_cons y ys x = first_or_later (bytes_eq x y) (number_of ys x) (length ys)

among_push : (ys : List WrittenName) (y x : WrittenName)
    → is_name_among (ys ++ y ∷ []) x ≡ is_name_among ys x || bytes_eq x y
among_push [] y x = among_cons y [] x ∙ or_none (bytes_eq x y)
among_push (z ∷ ys) y x =
    among_cons z (ys ++ y ∷ []) x
    ∙ (ap (λ (b : Bool). bytes_eq x z || b) (among_push ys y x)
    ∙ (sym (or_group (bytes_eq x z) (is_name_among ys x) (bytes_eq x y))
    ∙ sym (ap (λ (b : Bool). b || bytes_eq x y) (among_cons z ys x))))

-- a name that isn't among them has the number behind the last
pub absent_number : (names : List WrittenName) (x : WrittenName) → is_name_among names x ≡ false
    → number_of names x ≡ length names
absent_number names x e = omega (arith, ltb-false (number_of names x) (length names) e, number_of_within names x)

equal_swapped : (x y : WrittenName) → bytes_eq x y ≡ bytes_eq y x
equal_swapped x y = grind (arith, bytes_eq-Decides, false_from_ne_true, false≢true, cases_Bool)

repeats_push : (xs : List WrittenName) (y : WrittenName)
    → has_repeats (xs ++ y ∷ []) ≡ has_repeats xs || is_name_among xs y
repeats_push [] y = refl
repeats_push (x ∷ xs) y =
    ap (λ (b : Bool). b || has_repeats (xs ++ y ∷ [])) (among_push xs y x)
    ∙ (ap (λ (b : Bool). (is_name_among xs x || bytes_eq x y) || b) (repeats_push xs y)
    ∙ (or_cross (is_name_among xs x) (bytes_eq x y) (has_repeats xs) (is_name_among xs y)
    ∙ ap (λ (b : Bool). (is_name_among xs x || has_repeats xs) || b)
    (ap (λ (b : Bool). b || is_name_among xs y) (equal_swapped x y) ∙ sym (among_cons x xs y))))

-- ---- one more name in a row

names_new : (row names : List WrittenName) (y : WrittenName) → AreNamesOf row names
    → AreNamesOf (row ++ y ∷ []) (names ++ y ∷ [])
names_new row names y h = record {
  same = λ none. ap (λ (xs : List WrittenName). xs ++ y
      ∷ []) (h.same (or_parts _ _ (sym (repeats_push row y) ∙ none)).0);
  members = λ x. among_push names y x ∙ (ap (λ (b : Bool). b || bytes_eq x y) (h.members x) ∙ sym (among_push row y x));
}

there_already : (row : List WrittenName) (y x : WrittenName) (b : Bool) → bytes_eq x y ≡ b → is_name_among row y ≡ true
    → is_name_among row x ≡ is_name_among row x || b
there_already row y x true e there = grind (arith, bytes_eq-Decides, or_right)
there_already row y x false e there = sym (or_none (is_name_among row x))

names_old : (row names : List WrittenName) (y : WrittenName) → AreNamesOf row names → is_name_among names y ≡ true
    → AreNamesOf (row ++ y ∷ []) names
names_old row names y h there = grind (arith, false≢true, repeats_push, or_right, there_already, among_push)

-- the names after one that is new or not
names_more : (row names after : List WrittenName) (y : WrittenName) (new : Bool) → AreNamesOf row names
    → new ≡ not (is_name_among names y)
    → after ≡ cond new (names ++ y ∷ []) names → AreNamesOf (row ++ y ∷ []) after
names_more row names after y true h e a = subst (AreNamesOf (row ++ y ∷ [])) (sym a) (names_new row names y h)
names_more row names after y false h e a =
    subst (AreNamesOf (row ++ y ∷ [])) (sym a) (names_old row names y h (sym (not_not _) ∙ ap not (sym e)))

-- a name that isn't new stands in the row
not_new : (row names : List WrittenName) (y : WrittenName) (new : Bool) → AreNamesOf row names
    → new ≡ not (is_name_among names y)
    → not new ≡ is_name_among row y
not_new row names y new h e = ap not e ∙ (not_not (is_name_among names y) ∙ h.members y)

-- at most one more
names_few : (names after : List WrittenName) (y : WrittenName) (new : Bool) → after ≡ cond new (names ++ y ∷ []) names
    → length after ≤ length names + 1
names_few names after y true a = omega (arith, ap length a, length-append names (y ∷ []))
names_few names after y false a = omega (arith, ap length a)

-- ---- one more parameter

regions_more : (ps : List WrittenParameter) (a : WrittenName) (p : Parameter)
    → region_names (ps ++ region_parameter a p ∷ []) ≡ region_names ps ++ a ∷ []
regions_more ps a p = grind (arith, filter_map-append, map_push)

regions_stay : (ps : List WrittenParameter) (n : WrittenName) (p : Parameter)
    → region_names (ps ++ type_parameter n p ∷ []) ≡ region_names ps
regions_stay ps n p =
    ap (λ (xs : List (WrittenName × Parameter)). codes "static" ∷ map (λ x. x.0) xs)
    (filter_map-append region_parameter_in ps (type_parameter n p ∷ []) ∙ append-nil (regions_in ps))

types_more : (ps : List WrittenParameter) (n : WrittenName) (p : Parameter)
    → type_names (ps ++ type_parameter n p ∷ []) ≡ type_names ps ++ n ∷ []
types_more ps n p =
    ap (λ (xs : List (WrittenName × Parameter)). map (λ x. x.0) xs) (filter_map-append type_in ps (type_parameter n p
    ∷ []))
    ∙ map_push (λ (x : WrittenName × Parameter). x.0) (types_in ps) (n, p)

types_stay : (ps : List WrittenParameter) (a : WrittenName) (p : Parameter)
    → type_names (ps ++ region_parameter a p ∷ []) ≡ type_names ps
types_stay ps a p =
    ap (λ (xs : List (WrittenName × Parameter)). map (λ x. x.0) xs)
    (filter_map-append type_in ps (region_parameter a p ∷ []) ∙ append-nil (types_in ps))

-- whether one stands twice, where the names in both rows are others by these
both_rows : (qs : List WrittenParameter) (row other : List WrittenName) → region_names qs ≡ row → type_names qs ≡ other
    → has_repeats (region_names qs) || has_repeats (type_names qs) ≡ has_repeats row || has_repeats other
both_rows qs row other regions types =
    ap (λ (xs : List WrittenName). has_repeats xs || has_repeats (type_names qs)) regions
    ∙ ap (λ (xs : List WrittenName). has_repeats row || has_repeats xs) types

module _ (ps : List WrittenParameter) (x : WrittenName) (p : Parameter) (old after : OwnNames) (new : Bool)
    (h : AreOwn ps old) where
  repeated : (a : Bool) → not new ≡ a → after.repeats ≡ old.repeats || not new
      → after.repeats ≡ (has_repeats (region_names ps) || has_repeats (type_names ps)) || a
  repeated a is repeats =
      repeats ∙ (ap (λ (b : Bool). b || not new) h.repeats
      ∙ ap (λ (b : Bool). (has_repeats (region_names ps) || has_repeats (type_names ps)) || b) is)

  pub own_region : new ≡ not (is_name_among old.regions x)
      → after.regions ≡ cond new (old.regions ++ x ∷ []) old.regions
      → after.types ≡ old.types → after.repeats ≡ old.repeats || not new
      → AreOwn (ps ++ region_parameter x p ∷ []) after
  own_region is regions types repeats =
      let qs = ps ++ region_parameter x p ∷ [] in
      record {
        few = omega (
          arith,
          names_few old.regions after.regions x new regions,
          length-append ps (region_parameter x p ∷ []),
          h.few,
        );
        regions =
            subst (λ (xs : List WrittenName). AreNamesOf xs after.regions) (sym (regions_more ps x p))
            (names_more (region_names ps) old.regions after.regions x new h.regions is regions);
        types = subst (λ (xs : List WrittenName). AreNamesOf xs after.types) (sym (types_stay ps x p))
            (subst (AreNamesOf (type_names ps)) (sym types) h.types);
        repeats =
            repeated (is_name_among (region_names ps) x) (not_new
            (region_names ps) old.regions x new h.regions is) repeats
            ∙ (or_late (has_repeats (region_names ps)) (has_repeats (type_names ps)) (is_name_among (region_names ps) x)
            ∙ (ap (λ (b : Bool). b || has_repeats (type_names ps)) (sym (repeats_push (region_names ps) x))
            ∙ sym (both_rows qs (region_names ps ++ x ∷ []) (type_names ps) (regions_more ps x p)
            (types_stay ps x p))));
      }

  pub own_type : new ≡ not (is_name_among old.types x) → after.types ≡ cond new (old.types ++ x ∷ []) old.types
      → after.regions ≡ old.regions → after.repeats ≡ old.repeats || not new
      → AreOwn (ps ++ type_parameter x p ∷ []) after
  own_type is types regions repeats =
      grind (
        arith,
        length-append,
        regions_stay,
        types_more,
        names_more,
        repeated,
        not_new,
        or_group,
        repeats_push,
        both_rows,
      )

-- ---- the parameters of the code

-- the names of all are texts
pub named_each : (ps : List ParameterText) → AllByRecursion IsNamed (map parameter_of ps)
    → AllByRecursion (λ p. IsNamed (parameter_of p)) ps
named_each [] h = tt
named_each (p ∷ ps) h = (h.0, named_each ps h.1)

-- the name of a type parameter is one of these
pub taken_any : (names : List WrittenName) (ps : List ParameterText)
    → list_any (takes_name names) ps ≡ list_any (is_name_among names) (type_names (map parameter_of ps))
taken_any names [] = refl
taken_any names (parameters.Region a p ∷ ps) = taken_any names ps
taken_any names (parameters.Type n p ∷ ps) = ap (λ (b : Bool). is_name_among names n.now || b) (taken_any names ps)

pub few_regions : (ps : List WrittenParameter) → length (regions_in ps) ≤ length ps
few_regions [] = omega arith
few_regions (region_parameter a p ∷ ps) = omega (arith, few_regions ps)
few_regions (type_parameter n p ∷ ps) = omega (arith, few_regions ps)

-- ---- whether names are known depends on which there are alone

module _ (s t : Scope) (regions : (x : WrittenName) → is_name_among s.regions x ≡ is_name_among t.regions x)
    (types : (x : WrittenName) → is_name_among s.parameters x ≡ is_name_among t.parameters x)
    (structs : (x : WrittenName) → is_name_among s.structs x ≡ is_name_among t.structs x) where
  both : (a b c d : Bool) → a ≡ b → c ≡ d → a && c ≡ b && d
  both a b c d e f = cc

  either : (a b c d : Bool) → a ≡ b → c ≡ d → a || c ≡ b || d
  either a b c d e f = cc

  mutual
    known_same : (w : WrittenType) → is_known s w ≡ is_known t w
    known_same written.int = refl
    known_same (written.reference r m w) = both _ _ _ _ (regions r) (known_same w)
    known_same (written.tuple ws) = all_known_same ws
    known_same (written.named n args) =
        both _ _ _ _ (either _ _ _ _ (types n) (structs n)) (arguments_known_same args)
    known_same (written.function ws w) = both _ _ _ _ (all_known_same ws) (known_same w)

    pub all_known_same : (ws : WrittenTypes) → are_known s ws ≡ are_known t ws
    all_known_same written.none = refl
    all_known_same (written.more w ws) = both _ _ _ _ (known_same w) (all_known_same ws)

    arguments_known_same : (args : Arguments) → arguments_are_known s args ≡ arguments_are_known t args
    arguments_known_same no_argument = refl
    arguments_known_same (region_argument r args) = both _ _ _ _ (regions r) (arguments_known_same args)
    arguments_known_same (type_argument w args) = both _ _ _ _ (known_same w) (arguments_known_same args)

-- ---- what is told of the code's names

-- a name that isn't found isn't among the names
pub not_among : (names : List WrittenName) (x : WrittenName) (o : Option ℕ)
    → MatchOption o (number_of names x ≡ length names) (λ n. (n ≡ number_of names x) × (n < length names))
    → is_some o ≡ false → is_name_among names x ≡ false
not_among names x None h e = le-ltb (number_of names x) (length names) (omega (arith, h))
not_among names x (Some n) h e = absurd cc

pub none_redeclared : (a b c d r : Bool) → a ≡ false → b ≡ false → c ≡ false → r ≡ d → r ≡ a || b || c || d
none_redeclared a b c d r ea eb ec e = rw (ea, eb, ec) e

-- the fields of a struct in which no name stands twice mean what they mean by its parameters
pub own_scope_is : (s : Said) (ps : List WrittenParameter) (own : OwnNames) (structs : StructNames) → AreOwn ps own
    → has_repeats (region_names ps) ≡ false → has_repeats (type_names ps) ≡ false → s.scope.structs ≡ structs.names
    → s.scope.kinds ≡ map (λ ks. ks.items) structs.kinds.items → own_scope own structs ≡ scope_inside s.scope ps
own_scope_is s ps own structs h regions types names kinds =
    rw (h.regions.same regions, h.types.same types, names, kinds) refl

-- whether names are known by them is whether they are by its parameters
pub own_known : (s : Said) (ps : List WrittenParameter) (own : OwnNames) (structs : StructNames) (fields : WrittenTypes)
    → AreOwn ps own → s.scope.structs ≡ structs.names
    → are_known (own_scope own structs) fields ≡ are_known (scope_inside s.scope ps) fields
own_known s ps own structs fields h names =
    all_known_same (own_scope own structs) (scope_inside s.scope ps) h.regions.members h.types.members
    (λ x. ap (λ (xs : List WrittenName). is_name_among xs x) (sym names)) fields
