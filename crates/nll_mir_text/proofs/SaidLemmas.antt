-- What lines say once there is one more line.
use Rattle.std.proofs.Common.{◌≡◌, ℕ, zero, suc, ◌+◌, ◌<◌, ◌≤◌, Bool, true, false, not, cond, List, [], ◌∷◌, ◌++◌, Option, Some, None, Contains, length, map, get_or, unwrap_or, refl, sym, ap, ◌∙◌, subst, ⊎_elim, arith, append_assoc, length-append}
use Rattle.std.specs.Prelude.{codes}
use Rattle.std.specs.List.{filter_map, last_or}
use Rattle.std.specs.Str.{bytes_eq}
use Rattle.std.proofs.lemmas.Bool.{and_parts, not-false, ltb-true}
use Rattle.std.proofs.lemmas.List.{append-nil, length-map, map_push}
use Rattle.std.proofs.lemmas.List.Elements.{filter_map-append}
use Rattle.indexmap.specs.IndexSet.{insert_all, insert_key}
use Rattle.nll_problem.specs.Building.{same_pair}
use Rattle.nll_format.specs.Names.{number_of}
use Rattle.nll_format.specs.Text.{Fits, skipped, of_form, Says}
use Rattle.nll_types.specs.Types.{TypeTree}
use Rattle.nll_types.specs.Structs.{Struct}
use Rattle.nll_mir_grammar.specs.WrittenTypes.{WrittenName, WrittenType, WrittenTypes}
use Rattle.nll_body.specs.Statements.{Statement, is_terminator}
use Rattle.nll_mir_text.specs.Naming.{Scope, meant}
use Rattle.nll_mir_grammar.specs.MirForms.{Form, WrittenParameter, universal, outlives, further, assert_line, struct_line, variable, blocks, block, at_point, end}
use Rattle.nll_mir_grammar.specs.declared.version.Version.{Version}
use Rattle.nll_mir_text.specs.declared.groups.Group.TheVariants.{End}
use Rattle.nll_mir_text.specs.MirSaid.{Said, said, group, reached, universal_in, further_in, outlives_in, assert_in, struct_in, variable_in, blocks_in, statement_of_form, owes_in, region_numbers, universals_said, names_said, meant_in, with_fronts, declared_in, start_in}
use Rattle.nll_mir_text.specs.StructLines.{is_region_parameter}
use Rattle.nll_mir_text.specs.MirSteps.{says, declared_struct, has_reached}
use Rattle.nll_mir_text.specs.MirFaults.{first_fault, is_in_order}
use Rattle.nll_mir_text.specs.MirReading.{Adds}
use Rattle.nll_mir_text.specs.MirText.{mir}
use Rattle.nll_mir_text.proofs.FaultLemmas.{faultless}
use Rattle.nll_mir_text.proofs.GroupLemmas.{follows, before_blocks, last_push, none_before, group_reached, reached_more, reached_at, is_reached, of_first_or_later, reached_most}

-- ---- the order of lines

-- a line without a fault stands in order
pub in_order : (s : Said) (f : Form) → first_fault s f ≡ None → is_in_order s f ≡ true
in_order s f fine = not-false _ (faultless s f fine).syntax'

-- it is of no group before the last one that has a line
in_place : (forms : List Form) (f : Form) → first_fault (said forms) f ≡ None → reached forms ≤ group f
in_place forms f fine = (follows (said forms) f (in_order (said forms) f fine)).0

-- ---- what lines say, from what each says

abbrev scope_from : List WrittenName → List WrittenName → List (WrittenName × List WrittenParameter) → Scope
scope_from us fs ds = record {
  regions = (codes "static" ∷ us) ++ fs;
  parameters = [];
  structs = map (λ d. d.0) ds;
  kinds = map (λ d. map is_region_parameter d.1) ds;
}

abbrev said_from : ℕ → List WrittenName → List WrittenName → List (WrittenName × WrittenName)
    → List (WrittenName × WrittenName)
    → List (WrittenName × List WrittenParameter) → List Struct → List WrittenType → List ℕ → List ℕ
    → List (Statement WrittenName WrittenType) → List Bool → Said
said_from r us fs os cs ds structs vs bs starts is ows = record {
  reached = r;
  scope = scope_from us fs ds;
  universals = length (codes "static" ∷ us);
  outlives = insert_all same_pair [] (map (region_numbers (codes "static" ∷ us)) os);
  asserts = insert_all same_pair [] (map (region_numbers ((codes "static" ∷ us) ++ fs)) cs);
  structs = structs;
  variables = map (meant (scope_from us fs ds)) vs;
  blocks = get_or bs 0 0;
  starts = starts;
  points = map (meant_in (scope_from us fs ds)) is;
  owes = unwrap_or (last_or None ows) false;
}

-- a list with one more element, or none
abbrev grown : {X : Type 0} → List X → Option X → List X
grown xs None = xs
grown xs (Some x) = xs ++ x ∷ []

pushed : {A X : Type 0} (g : A → Option X) (xs : List A) (a : A)
    → filter_map g (xs ++ a ∷ []) ≡ grown (filter_map g xs) (g a)
pushed g xs a = filter_map-append g xs (a ∷ []) ∙ alone (g a) refl
  where
    nothing : g a ≡ None → filter_map g (a ∷ []) ≡ []
    nothing e = rw e refl

    one : (x : _) → g a ≡ Some x → filter_map g (a ∷ []) ≡ x ∷ []
    one x e = rw e refl

    alone : (o : Option _) → g a ≡ o → filter_map g xs ++ filter_map g (a ∷ []) ≡ grown (filter_map g xs) o
    alone None e = ap (λ ys. filter_map g xs ++ ys) (nothing e) ∙ append-nil (filter_map g xs)
    alone (Some x) e = ap (λ ys. filter_map g xs ++ ys) (one x e)

fronts_push : (forms : List Form) (f : Form) → with_fronts (forms ++ f ∷ []) ≡ with_fronts forms ++ (forms, f) ∷ []
fronts_push [] f = refl
fronts_push (x ∷ forms) f =
    ap (λ (ps : List (List Form × Form)). ([], x) ∷ map (λ (p : List Form × Form). (x ∷ p.0, p.1)) ps)
    (fronts_push forms f)
    ∙ ap (λ (ps : List (List Form × Form)). ([], x) ∷ ps)
    (map_push (λ (p : List Form × Form). (x ∷ p.0, p.1)) (with_fronts forms) (forms, f))

same_from : (r : ℕ) (us us' fs fs' : List WrittenName) (os os' cs cs' : List (WrittenName × WrittenName))
    (ds ds' : List (WrittenName × List WrittenParameter)) (structs structs' : List Struct) (vs vs' : List WrittenType)
    (bs bs' starts starts' : List ℕ) (is is' : List (Statement WrittenName WrittenType)) (ows ows' : List Bool)
    → us ≡ us' → fs ≡ fs' → os ≡ os' → cs ≡ cs' → ds ≡ ds' → structs ≡ structs' → vs ≡ vs' → bs ≡ bs' → starts ≡ starts'
    → is ≡ is' → ows ≡ ows'
    → said_from r us fs os cs ds structs vs bs starts is ows
    ≡ said_from r us' fs' os' cs' ds' structs' vs' bs' starts' is' ows'
same_from r us us' fs fs' os os' cs cs' ds ds' structs structs' vs vs' bs bs' starts starts' is is' ows ows' a b c d e f
    g h i j k = rw (a, b, c, d, e, f, g, h, i, j, k) refl

-- what the lines and one more say, where r is the last group
abbrev more : List Form → Form → ℕ → Said
more forms f r =
    said_from r
    (grown (filter_map universal_in forms) (universal_in f))
    (grown (filter_map further_in forms) (further_in f))
    (grown (filter_map outlives_in forms) (outlives_in f))
    (grown (filter_map assert_in forms) (assert_in f))
    (grown (filter_map struct_in forms) (struct_in f))
    (grown (filter_map declared_in (with_fronts forms)) (declared_in (forms, f)))
    (grown (filter_map variable_in forms) (variable_in f))
    (grown (filter_map blocks_in forms) (blocks_in f))
    (grown (filter_map start_in (with_fronts forms)) (start_in (forms, f)))
    (grown (filter_map statement_of_form forms) (statement_of_form f))
    (grown (filter_map owes_in forms) (owes_in f))

all_pushed : (forms : List Form) (f : Form) → said (forms ++ f ∷ []) ≡ more forms f (reached (forms ++ f ∷ []))
all_pushed forms f = grind (arith, same_from, pushed, fronts_push)

-- ---- lines of later groups

outlives_early : (f : Form) → group f ≤ 1 → outlives_in f ≡ None
outlives_early (outlives a b) h = absurd (omega (arith, h))
outlives_early _ h = refl

further_early : (f : Form) → group f ≤ 2 → further_in f ≡ None
further_early (further x) h = absurd (omega (arith, h))
further_early _ h = refl

assert_early : (f : Form) → group f ≤ 3 → assert_in f ≡ None
assert_early (assert_line a b) h = absurd (omega (arith, h))
assert_early _ h = refl

variable_early : (f : Form) → group f ≤ 5 → variable_in f ≡ None
variable_early (variable x t) h = absurd (omega (arith, h))
variable_early _ h = refl

blocks_early : (f : Form) → group f ≤ 6 → blocks_in f ≡ None
blocks_early (blocks n) h = absurd (omega (arith, h))
blocks_early _ h = refl

statement_early : (f : Form) → group f ≤ 7 → statement_of_form f ≡ None
statement_early (at_point i) h = absurd (omega (arith, h))
statement_early _ h = refl

module _ (forms : List Form) (n : ℕ) (h : reached forms ≤ n) where
  no_outlives : n ≤ 1 → filter_map outlives_in forms ≡ []
  no_outlives e = none_before outlives_in 1 outlives_early forms (omega (arith, h, e))

  no_further : n ≤ 2 → filter_map further_in forms ≡ []
  no_further e = none_before further_in 2 further_early forms (omega (arith, h, e))

  no_asserts : n ≤ 3 → filter_map assert_in forms ≡ []
  no_asserts e = none_before assert_in 3 assert_early forms (omega (arith, h, e))

  no_variables : n ≤ 5 → filter_map variable_in forms ≡ []
  no_variables e = none_before variable_in 5 variable_early forms (omega (arith, h, e))

  no_blocks : n ≤ 6 → filter_map blocks_in forms ≡ []
  no_blocks e = none_before blocks_in 6 blocks_early forms (omega (arith, h, e))

  no_statements : n ≤ 7 → filter_map statement_of_form forms ≡ []
  no_statements e = none_before statement_of_form 7 statement_early forms (omega (arith, h, e))

-- ---- one more line, by its form

named_more : (s : Said) (r : ℕ) (xs ys : List WrittenName) (m n : ℕ) → xs ≡ ys → m ≡ n
    → record s { reached = r; scope = record s.scope { regions = xs }; universals = m }
    ≡ record s { reached = r; scope = record s.scope { regions = ys }; universals = n }
named_more s r xs ys m n e k = rw (e, k) refl

universal_more : (r : ℕ) (us fs : List WrittenName) (os cs : List (WrittenName
    × WrittenName)) (ds : List (WrittenName × List WrittenParameter))
    (structs : List Struct) (vs : List WrittenType) (bs starts : List ℕ) (is : List (Statement WrittenName WrittenType))
    (ows : List Bool) (a : WrittenName)
    → fs ≡ [] → os ≡ [] → cs ≡ [] → vs ≡ [] → is ≡ []
    → said_from 1 (us ++ a ∷ []) fs os cs ds structs vs bs starts is ows
    ≡ says (said_from r us fs os cs ds structs vs bs starts is ows) (universal a)
universal_more r us fs os cs ds structs vs bs starts is ows a f o c v i =
    grind (arith, named_more, append-nil, length-append)

further_more : (r : ℕ) (us fs : List WrittenName) (os cs : List (WrittenName × WrittenName)) (ds : List (WrittenName
    × List WrittenParameter))
    (structs : List Struct) (vs : List WrittenType) (bs starts : List ℕ) (is : List (Statement WrittenName WrittenType))
    (ows : List Bool) (x : WrittenName)
    → cs ≡ [] → vs ≡ [] → is ≡ []
    → said_from 3 us (fs ++ x ∷ []) os cs ds structs vs bs starts is ows
    ≡ says (said_from r us fs os cs ds structs vs bs starts is ows) (further x)
further_more r us fs os cs ds structs vs bs starts is ows x c v i = rw (c, v, i)
    (named_more (said_from r us fs os [] ds structs [] bs starts [] ows) 3 _ _ _ _
    (sym (append_assoc (codes "static" ∷ us) fs (x ∷ []))) refl)

declared_more : (s : Said) (ns ms : List WrittenName) (ks ls : List (List Bool)) (structs : List Struct) → ns ≡ ms
    → ks ≡ ls
    → record s { reached = 5; scope = record s.scope { structs = ns; kinds = ks }; structs = structs }
    ≡ record s { reached = 5; scope = record s.scope { structs = ms; kinds = ls }; structs = structs }
declared_more s ns ms ks ls structs e k = rw (e, k) refl

struct_more : (r : ℕ) (us fs : List WrittenName) (os cs : List (WrittenName × WrittenName)) (ds : List (WrittenName
    × List WrittenParameter))
    (structs : List Struct) (vs : List WrittenType) (bs starts : List ℕ) (is : List (Statement WrittenName WrittenType))
    (ows : List Bool) (n : WrittenName) (ps : List WrittenParameter) (has_drop : Bool) (fields : WrittenTypes)
    → vs ≡ [] → is ≡ []
    → said_from 5 us fs os cs (ds ++ (n, ps) ∷ [])
    (structs ++ declared_struct (said_from r us fs os cs ds structs vs bs starts is ows) ps has_drop fields ∷ []) vs bs
    starts is ows
    ≡ says (said_from r us fs os cs ds structs vs bs starts is ows) (struct_line n ps has_drop fields)
struct_more r us fs os cs ds structs vs bs starts is ows n ps has_drop fields v i =
    grind (arith, declared_more, map_push)

paired : (s : Said) (r : ℕ) (ps qs : List (ℕ × ℕ)) → ps ≡ qs
    → record s { reached = r; outlives = ps } ≡ record s { reached = r; outlives = qs }
paired s r ps qs e = rw e refl

asserted : (s : Said) (r : ℕ) (ps qs : List (ℕ × ℕ)) → ps ≡ qs
    → record s { reached = r; asserts = ps } ≡ record s { reached = r; asserts = qs }
asserted s r ps qs e = rw e refl

typed : (s : Said) (r : ℕ) (ts us : List TypeTree) → ts ≡ us
    → record s { reached = r; variables = ts } ≡ record s { reached = r; variables = us }
typed s r ts us e = rw e refl

counted : (s : Said) (r : ℕ) (m n : ℕ) → m ≡ n
    → record s { reached = r; blocks = m } ≡ record s { reached = r; blocks = n }
counted s r m n e = rw e refl

begun : (s : Said) (m n : ℕ) (b c : Bool) → m ≡ n → b ≡ c
    → record s { reached = 8; starts = s.starts ++ m ∷ []; owes = b }
    ≡ record s { reached = 8; starts = s.starts ++ n ∷ []; owes = c }
begun s m n b c e k = rw (e, k) refl

stood : (s : Said) (is js : List (Statement ℕ TypeTree)) (b c : Bool) → is ≡ js → b ≡ c
    → record s { reached = 8; points = is; owes = b } ≡ record s { reached = 8; points = js; owes = c }
stood s is js b c e k = rw (e, k) refl

-- one more pair is inserted last
insert_all_push : {X : Type 0} (e : X → X → Bool) (ks xs : List X) (x : X)
    → insert_all e ks (xs ++ x ∷ []) ≡ insert_key e (insert_all e ks xs) x
insert_all_push e ks [] x = refl
insert_all_push e ks (y ∷ xs) x = insert_all_push e (insert_key e ks y) xs x

pair_more : (names : List WrittenName) (ps : List (WrittenName × WrittenName)) (p : WrittenName × WrittenName)
    → insert_all same_pair [] (map (region_numbers names) (ps ++ p ∷ []))
    ≡ insert_all same_pair (insert_all same_pair [] (map (region_numbers names) ps)) (region_numbers names p ∷ [])
pair_more names ps p =
    ap (insert_all same_pair []) (map_push (region_numbers names) ps p)
    ∙ insert_all_push same_pair [] (map (region_numbers names) ps) (region_numbers names p)

-- a name's number among the universal regions, which stand in front
front_step : (b : Bool) (n m l : ℕ) → (n < l → n ≡ m) → cond (not b) (1 + n) 0 < suc l
    → cond (not b) (1 + n) 0 ≡ cond (not b) (1 + m) 0
front_step true n m l later h = refl
front_step false n m l later h = ap (λ k. 1 + k) (later (omega arith))

number_front : (us fs : List WrittenName) (a : WrittenName) → number_of (us ++ fs) a < length us
    → number_of (us ++ fs) a ≡ number_of us a
number_front [] fs a h = absurd (omega arith)
number_front (u ∷ us) fs a h =
    front_step (bytes_eq a u) (number_of (us ++ fs) a) (number_of us a) (length us) (number_front us fs a) h

last_is : {X : Type 0} (o : Option X) (xs : List X) (x : X) → last_or o (xs ++ x ∷ []) ≡ Some x
last_is o [] x = refl
last_is o (y ∷ xs) x = last_is (Some y) xs x

owed : (ows : List Bool) (b : Bool) → unwrap_or (last_or None (ows ++ b ∷ [])) false ≡ b
owed ows b = ap (λ (o : Option Bool). unwrap_or o false) (last_is None ows b)

-- the numbers of two universal regions
universal_numbers : (forms : List Form) (a b : WrittenName) → first_fault (said forms) (outlives a b) ≡ None
    → region_numbers (universals_said forms) (a, b) ≡ region_numbers (names_said forms) (a, b)
universal_numbers forms a b fine = grind (arith, and_parts, not-false, faultless, number_front, ltb-true)

step : (forms : List Form) (f : Form) → first_fault (said forms) f ≡ None → more forms f (group f) ≡ says (said forms) f
step forms (universal a) fine =
    let h : reached forms ≤ 1 = in_place forms (universal a) fine in
    universal_more (reached forms) (filter_map universal_in forms) (filter_map further_in forms)
    (filter_map outlives_in forms) (filter_map assert_in forms) (filter_map struct_in forms)
    (filter_map declared_in (with_fronts forms)) (filter_map variable_in forms) (filter_map blocks_in forms)
    (filter_map start_in (with_fronts forms)) (filter_map statement_of_form forms) (filter_map owes_in forms) a
    (no_further forms 1 h (omega arith)) (no_outlives forms 1 h (omega arith)) (no_asserts forms 1 h (omega arith))
    (no_variables forms 1 h (omega arith)) (no_statements forms 1 h (omega arith))
step forms (outlives a b) fine = grind (arith, paired, pair_more, universal_numbers)
step forms (further x) fine =
    let h : reached forms ≤ 3 = in_place forms (further x) fine in
    further_more (reached forms) (filter_map universal_in forms) (filter_map further_in forms)
    (filter_map outlives_in forms) (filter_map assert_in forms) (filter_map struct_in forms)
    (filter_map declared_in (with_fronts forms)) (filter_map variable_in forms) (filter_map blocks_in forms)
    (filter_map start_in (with_fronts forms)) (filter_map statement_of_form forms) (filter_map owes_in forms) x
    (no_asserts forms 3 h (omega arith)) (no_variables forms 3 h (omega arith))
    (no_statements forms 3 h (omega arith))
step forms (assert_line a b) fine =
    asserted (said forms) 4 _ _ (pair_more (names_said forms) (filter_map assert_in forms) (a, b))
step forms (struct_line n ps has_drop fields) fine =
    let h : reached forms ≤ 5 = in_place forms (struct_line n ps has_drop fields) fine in
    struct_more (reached forms) (filter_map universal_in forms) (filter_map further_in forms)
    (filter_map outlives_in forms) (filter_map assert_in forms) (filter_map struct_in forms)
    (filter_map declared_in (with_fronts forms)) (filter_map variable_in forms) (filter_map blocks_in forms)
    (filter_map start_in (with_fronts forms)) (filter_map statement_of_form forms)
    (filter_map owes_in forms) n ps has_drop fields (no_variables forms 5 h (omega arith))
    (no_statements forms 5 h (omega arith))
step forms (variable x t) fine = typed (said forms) 6 _ _ (map_push _ (filter_map variable_in forms) t)
step forms (blocks n) fine = grind (arith, before_blocks, in_order, counted, get_or, no_blocks)
step forms (block n) fine =
    begun (said forms) _ _ _ _ (sym (length-map (filter_map statement_of_form forms) _))
    (owed (filter_map owes_in forms) true)
step forms (at_point i) fine =
    stood (said forms) _ _ _ _ (map_push _ (filter_map statement_of_form forms) i)
    (owed (filter_map owes_in forms) (not (is_terminator i)))
step forms end fine = refl

-- one more line without a fault
pub said_push : (forms : List Form) (f : Form) → first_fault (said forms) f ≡ None
    → said (forms ++ f ∷ []) ≡ says (said forms) f
said_push forms f fine = all_pushed forms f
    ∙ (ap (more forms f) (last_push forms f (in_place forms f fine)) ∙ step forms f fine)

pub adds_said : (forms : List Form) (s t : Said) (f : Form) → said forms ≡ s → first_fault s f ≡ None → Adds s f t
    → said (forms ++ f ∷ []) ≡ t
adds_said forms s t f h fine a =
    said_push forms f (ap (λ (u : Said). first_fault u f) h ∙ fine) ∙ (ap (λ (u : Said). says u f) h ∙ sym a)

pub same_fault : (s t : Said) → s ≡ t → (f : Form) → first_fault s f ≡ first_fault t f
same_fault s t h f = ap (λ (u : Said). first_fault u f) h

-- ---- lines without a fault

-- what holds before all lines, and still behind one more line without a fault, holds behind all
module _ (P : List Form → Type 0) (more : (forms : List Form) (f : Form) → first_fault (said forms) f ≡ None → P forms
    → P (forms ++ f ∷ [])) where
  behind_line : (v : Version) (forms : List Form) (line : List ℕ) (added : List Form)
      → Fits (mir v) (said forms) line added → P forms → P (forms ++ added)
  behind_line v forms line [] (skipped u k) h = subst P (sym (append-nil forms)) h
  behind_line v forms line (f ∷ []) (of_form _ u k form fine) h = more forms f fine h
  behind_line v forms line (f ∷ (g ∷ rest)) fit h = elim fit [ ]

  pub behind_all : (v : Version) (before : List Form) (lines : List (List ℕ)) (forms : List Form)
      → Says (mir v) before lines forms → P before → P forms
  behind_all v before [] forms says h = subst P (sym says) h
  behind_all v before (line ∷ lines) forms says h =
      behind_all v (before ++ says.0) lines forms says.2 (behind_line v before line says.0 says.1 h)

-- ---- the last line

group_end : (f : Form) → 9 ≤ group f → f ≡ end
group_end (universal a) h = absurd (omega (arith, h))
group_end (outlives a b) h = absurd (omega (arith, h))
group_end (further x) h = absurd (omega (arith, h))
group_end (assert_line a b) h = absurd (omega (arith, h))
group_end (struct_line n ps has_drop fields) h = absurd (omega (arith, h))
group_end (variable x t) h = absurd (omega (arith, h))
group_end (blocks n) h = absurd (omega (arith, h))
group_end (block n) h = absurd (omega (arith, h))
group_end (at_point i) h = absurd (omega (arith, h))
group_end end h = refl

ended_rank : (forms : List Form) → 9 ≤ reached forms → Contains forms end
ended_rank [] h = absurd (omega (arith, h))
ended_rank (f ∷ forms) h = ⊎_elim
    (λ here. (0, omega arith, group_end f (subst (λ (n : ℕ). 9 ≤ n) here h)))
    (λ later. let c = ended_rank forms (subst (λ (n : ℕ). 9 ≤ n) later h) in (suc c.0, omega (arith, c.1), c.2))
    (of_first_or_later f forms)

-- the lines have an `end` line where the last group is reached
pub ended : (forms : List Form) → has_reached (said forms) End ≡ true → Contains forms end
ended forms h = ended_rank forms (reached_at (said forms) End h)

contains_rank : (forms : List Form) (f : Form) (k : ℕ) → k < length forms → get_or forms k f ≡ f
    → group f ≤ reached forms
contains_rank [] f k h e = absurd (omega (arith, h))
contains_rank (g ∷ forms) f zero h e = subst (λ x. group x ≤ reached (g ∷ forms)) e (group_reached g forms)
contains_rank (g ∷ forms) f (suc k) h e =
    omega (arith, contains_rank forms f k (omega (arith, h)) e, reached_more g forms)

-- the last group is reached where the lines have one
pub end_reached : (forms : List Form) → Contains forms end → has_reached (said forms) End ≡ true
end_reached forms c = is_reached (said forms) End (contains_rank forms end c.0 c.1 c.2)

-- the last group is reached where there is an `end` line
pub reached_at_end : (forms : List Form) → Contains forms end → (said forms).reached ≡ 9
reached_at_end forms c = omega (arith, contains_rank forms end c.0 c.1 c.2, reached_most forms)
