-- The parts of a line: tokens begin with one of each at most.
use Rattle.std.proofs.Common.{◌≡◌, ℕ, ◌<◌, ◌^◌, Bool, true, false, List, [], ◌∷◌, ◌++◌, length, refl, sym, ap, ◌∙◌, subst, append_assoc, arith, Some, None}
use Rattle.std.specs.List.{AllByRecursion}
use Rattle.std.specs.Prelude.{codes, Option, Result, Ok, Err, IfOk, MatchOption}
use Rattle.std.specs.Str.{bytes_eq}
use Rattle.std.specs.Fmt.{decimal}
use Rattle.std.proofs.lemmas.Bool.{eq-eqb, false≢true}
use Rattle.std.proofs.lemmas.Fmt.{decimal_injective}
use Rattle.std.proofs.lemmas.List.Concat.{flat_map_single}
use Rattle.nll_text.specs.Tokens.{Token, word, region, sign, arrow}
use Rattle.nll_types.specs.Places.{PlacePath}
use Rattle.nll_types.specs.Operands.{Operand, constant, copied, moved}
use Rattle.nll_types.specs.declared.place.Projection.{Projection}
use Rattle.nll_types.specs.declared.place.Projection.TheVariants.{Deref, Field}
use Rattle.nll_types.specs.declared.parameter.Parameter.{Parameter}
use Rattle.nll_types.specs.declared.parameter.Sign.{Sign}
use Rattle.nll_types.specs.declared.parameter.Sign.TheVariants.{Covariant, Contravariant, Invariant}
use Rattle.nll_mir_grammar.specs.WrittenTypes.{WrittenName, WrittenType, WrittenTypes, tuple, spelled}
use Rattle.nll_mir_grammar.specs.Reading.{HasNoType, IsTypeIn}
use Rattle.nll_mir_grammar.specs.MirForms.{WrittenParameter, region_parameter, type_parameter, spelled_place, spelled_operand, dangling_mark, sign_token, block_word}
use Rattle.nll_text.specs.Grammars.{Grammar, Begins, HasNone, any_words, prefixed, regions}
use Rattle.nll_mir_grammar.specs.Grammars.{IsOne, IsBefore, IsListable, behind_token, empty, pair, many, commas}
use Rattle.nll_mir_grammar.specs.Parts.{names, variables, block_names, projections, places, operands, types, tuples, arguments, marks, parameter_marks, parameters, parameter_lists, bounds, bound_lists, block_lists, exits, MayFollowMark}
use Rattle.nll_mir_grammar.proofs.GrammarLemmas.{IsSolid, tail_same, head_same, signs_apart, signs_differ, behind_one, behind_none, Joins, pair_one, many_one, IsLoose}
use Rattle.nll_mir_grammar.proofs.ListLemmas.{inside_one, commas_one, enclosed}
use Rattle.nll_text.proofs.WordLemmas.{behind_front}
use Rattle.nll_mir_grammar.proofs.OneTree.{one_tree}

word_same : (v w : List ℕ) → word v ≡ word w → v ≡ w
word_same v w e = cc

-- two words that begin with two bytes
pub words_apart : (v w : List ℕ) → bytes_eq v w ≡ false → v ≡ w → ⊥
words_apart v w n e = false≢true (sym n ∙ (subst (λ z. bytes_eq v z ≡ true) e (same v))) where
  same : (z : List ℕ) → bytes_eq z z ≡ true
  same [] = refl
  same (x ∷ z) = rw eq-eqb (same z)

-- ---- words

pub regions_one : IsOne regions
regions_one ts a b r s x y = let e : region a ∷ r ≡ region b ∷ s = sym x.joined ∙ y.joined in (cc, cc)

pub any_words_one : IsOne any_words
any_words_one ts a b r s x y = let e : word a ∷ r ≡ word b ∷ s = sym x.joined ∙ y.joined in (cc, cc)

pub names_one : IsOne names
names_one ts a b r s x y = let e : word a ∷ r ≡ word b ∷ s = sym x.joined ∙ y.joined in (cc, cc)

pub prefixed_one : (front : List ℕ) → IsOne (prefixed front)
prefixed_one front ts a b r s x y = grind (arith, decimal_injective, behind_front, tail_same)

-- ---- places and operands

number_same : (a b : ℕ) → a < 10 ^ 9 → b < 10 ^ 9 → word (decimal a) ≡ word (decimal b) → a ≡ b
number_same a b small_a small_b e = decimal_injective a b (omega arith) (omega arith) (word_same _ _ e)

pub projections_one : IsOne projections
projections_one ts Deref Deref r s x y = (refl, tail_same _ _ _ _ (tail_same _ _ _ _ (sym x.joined ∙ y.joined)))
projections_one ts Deref (Field k) r s x y =
    absurd (let e : sign 46 ∷ sign 42 ∷ r ≡ sign 46 ∷ word (decimal k) ∷ s = sym x.joined ∙ y.joined in cc)
projections_one ts (Field k) Deref r s x y =
    absurd (let e : sign 46 ∷ word (decimal k) ∷ r ≡ sign 46 ∷ sign 42 ∷ s = sym x.joined ∙ y.joined in cc)
projections_one ts (Field k) (Field l) r s x y =
    let e : word (decimal k) ∷ r ≡ word (decimal l) ∷ s = tail_same _ _ _ _ (sym x.joined ∙ y.joined) in
    (ap Field (number_same k l x.allowed y.allowed (head_same _ _ _ _ e)), tail_same _ _ _ _ e)

pub projections_loose : IsLoose projections
projections_loose p r = tt

pub variables_join : {B : Type 0} (h : Grammar B) → Joins variables h
variables_join h a b r k l m = tt

-- a variable and its projections
abbrev pub paths : Grammar (ℕ × List Projection)
paths = pair variables (many projections)

pub paths_one : IsOne paths
paths_one =
    pair_one variables (many projections) (variables_join (many projections)) (prefixed_one (codes "_"))
    (many_one projections projections_loose projections_one)

pub to_path : (ts : List Token) (p : PlacePath) (r : List Token) → Begins places ts p r
    → Begins paths ts (p.variable, p.projections) r
to_path ts p r b = record { joined = b.joined; allowed = b.allowed; follows = b.follows }

-- where no variable stands, no place does
pub no_place : (ts : List Token) → HasNone variables ts → HasNone places ts
no_place ts none p r b = none p.variable _ (record { joined = b.joined; allowed = b.allowed.0; follows = tt })

pub places_one : IsOne places
places_one ts p q r s x y =
    let same = paths_one ts _ _ r s (to_path ts p r x) (to_path ts q s y) in (
      ap (λ (z : ℕ × List Projection). (let place : PlacePath = record { variable = z.0; projections = z.1 } in place))
          same.0,
      same.1,
    )

-- a projection doesn't begin with the token
pub no_projection : (t : Token) (r : List Token) → (sign 46 ≡ t → ⊥) → HasNone projections (t ∷ r)
no_projection t r n Deref s b = n (head_same _ _ _ _ (sym b.joined))
no_projection t r n (Field k) s b = n (head_same _ _ _ _ (sym b.joined))

pub no_projection_left : HasNone projections []
no_projection_left Deref s b = let e : [] ≡ sign 46 ∷ sign 42 ∷ s = b.joined in cc
no_projection_left (Field k) s b = let e : [] ≡ sign 46 ∷ word (decimal k) ∷ s = b.joined in cc

-- operands
pub operands_before : (t : Token) → (sign 46 ≡ t → ⊥) → IsBefore t operands
operands_before t n constant r h = tt
operands_before t n (copied p) r h = no_projection t r n
operands_before t n (moved p) r h = no_projection t r n

behind_word : (v w : List ℕ) (ts xs ys : List Token) → ts ≡ word v ∷ xs → ts ≡ word w ∷ ys → bytes_eq v w ≡ false → ⊥
behind_word v w ts xs ys e f n = words_apart v w n (word_same v w (head_same _ _ _ _ (sym e ∙ f)))

copied_place : (ts : List Token) (p : PlacePath) (r : List Token) → Begins operands ts (copied p) r
    → Begins (behind_token (word (codes "copy")) places) ts p r
copied_place ts p r b = record { joined = b.joined; allowed = b.allowed; follows = b.follows }

moved_place : (ts : List Token) (p : PlacePath) (r : List Token) → Begins operands ts (moved p) r
    → Begins (behind_token (word (codes "move")) places) ts p r
moved_place ts p r b = record { joined = b.joined; allowed = b.allowed; follows = b.follows }

-- no place stands behind the word
pub no_copied : (ts mid : List Token) → ts ≡ word (codes "copy") ∷ mid → HasNone places mid → HasNone operands ts
no_copied ts mid e none constant r b = behind_word (codes "copy") (codes "const") ts _ _ e b.joined refl
no_copied ts mid e none (copied p) r b =
    behind_none places (word (codes "copy")) ts mid e none p r (copied_place ts p r b)
no_copied ts mid e none (moved p) r b = behind_word (codes "copy") (codes "move") ts _ _ e b.joined refl

pub no_moved : (ts mid : List Token) → ts ≡ word (codes "move") ∷ mid → HasNone places mid → HasNone operands ts
no_moved ts mid e none constant r b = behind_word (codes "move") (codes "const") ts _ _ e b.joined refl
no_moved ts mid e none (copied p) r b = behind_word (codes "move") (codes "copy") ts _ _ e b.joined refl
no_moved ts mid e none (moved p) r b = behind_none places (word (codes "move")) ts mid e none p r (moved_place ts p r b)

pub operands_one : IsOne operands
operands_one ts constant constant r s x y = (refl, tail_same _ _ _ _ (sym x.joined ∙ y.joined))
operands_one ts constant (copied q) r s x y =
    absurd (behind_word (codes "const") (codes "copy") ts _ _ x.joined y.joined refl)
operands_one ts constant (moved q) r s x y =
    absurd (behind_word (codes "const") (codes "move") ts _ _ x.joined y.joined refl)
operands_one ts (copied p) constant r s x y =
    absurd (behind_word (codes "copy") (codes "const") ts _ _ x.joined y.joined refl)
operands_one ts (copied p) (copied q) r s x y = let same =
    behind_one places (word (codes "copy")) places_one ts p q r s (copied_place ts p r x) (copied_place ts q s y) in
    (ap copied same.0, same.1)
operands_one ts (copied p) (moved q) r s x y =
    absurd (behind_word (codes "copy") (codes "move") ts _ _ x.joined y.joined refl)
operands_one ts (moved p) constant r s x y =
    absurd (behind_word (codes "move") (codes "const") ts _ _ x.joined y.joined refl)
operands_one ts (moved p) (copied q) r s x y =
    absurd (behind_word (codes "move") (codes "copy") ts _ _ x.joined y.joined refl)
operands_one ts (moved p) (moved q) r s x y = let same =
    behind_one places (word (codes "move")) places_one ts p q r s (moved_place ts p r x) (moved_place ts q s y) in
    (ap moved same.0, same.1)

-- an operand begins with a word
operand_word : (op : Operand) → (w : List ℕ) × (others : List Token) × (spelled_operand op ≡ word w ∷ others)
operand_word constant = (codes "const", [], refl)
operand_word (copied p) = (codes "copy", spelled_place p, refl)
operand_word (moved p) = (codes "move", spelled_place p, refl)

-- so it begins with no sign
pub no_operand : (c : ℕ) (op : Operand) (r s : List Token) → spelled_operand op ++ r ≡ sign c ∷ s → ⊥
no_operand c op r s e = grind (arith, operand_word)

-- ---- types

pub types_one : IsOne types
types_one ts t u r s x y = one_tree t u r s x.allowed y.allowed x.follows y.follows (sym x.joined ∙ y.joined)

tuple_same : (a b : WrittenTypes) → tuple a ≡ tuple b → a ≡ b
tuple_same a b e = cc

pub tuples_one : IsOne tuples
tuples_one ts a b r s x y =
    let same = one_tree (tuple a) (tuple b) r s x.allowed y.allowed x.follows y.follows (sym x.joined ∙ y.joined) in
    (tuple_same a b same.0, same.1)

-- ---- each value has tokens

pub blocks_solid : IsSolid block_names
blocks_solid b = omega arith

-- ---- types in front

pub type_found : (ts : List Token) (t : WrittenType) (rest : List Token) → IsTypeIn ts t rest → Begins types ts t rest
type_found ts t rest h = record { joined = h.found.joined; allowed = h.found.names; follows = h.found.free }

pub no_type : (ts : List Token) → HasNoType ts → HasNone types ts
no_type ts none t rest b = none t rest (record { joined = b.joined; names = b.allowed; free = b.follows })

pub no_tuple : (ts : List Token) → HasNone types ts → HasNone tuples ts
no_tuple ts none xs rest b =
    none (tuple xs) rest (record { joined = b.joined; allowed = b.allowed; follows = b.follows })

-- ---- marks

pub mark_one : (spells : Bool → List Token) (t : Token) → spells true ≡ t ∷ [] → spells false ≡ []
    → IsOne (marks spells t)
mark_one spells t there absent ts true true r s x y =
    (refl, tail_same _ _ _ _ (ap (λ l. l ++ r) (sym there) ∙ (sym x.joined ∙ (y.joined ∙ ap (λ l. l ++ s) there))))
mark_one spells t there absent ts true false r s x y =
    absurd (y.follows r (sym (ap (λ l. l ++ s) absent) ∙ (sym y.joined ∙ (x.joined ∙ ap (λ l. l ++ r) there))))
mark_one spells t there absent ts false true r s x y =
    absurd (x.follows s (sym (ap (λ l. l ++ r) absent) ∙ (sym x.joined ∙ (y.joined ∙ ap (λ l. l ++ s) there))))
mark_one spells t there absent ts false false r s x y =
    (refl, ap (λ l. l ++ r) (sym absent) ∙ (sym x.joined ∙ (y.joined ∙ ap (λ l. l ++ s) absent)))

dangling : Grammar Bool
dangling = marks dangling_mark (sign 63)

sign_same : (a b : Sign) → sign_token a ≡ sign_token b → a ≡ b
sign_same Covariant Covariant e = refl
sign_same Covariant Invariant e = absurd (signs_apart 43 61 refl e)
sign_same Covariant Contravariant e = absurd (signs_apart 43 45 refl e)
sign_same Contravariant Covariant e = absurd (signs_apart 45 43 refl e)
sign_same Contravariant Contravariant e = refl
sign_same Contravariant Invariant e = absurd (signs_apart 45 61 refl e)
sign_same Invariant Contravariant e = absurd (signs_apart 61 45 refl e)
sign_same Invariant Covariant e = absurd (signs_apart 61 43 refl e)
sign_same Invariant Invariant e = refl

parameter_from : Sign → Bool → Parameter
parameter_from s m = record { sign = s; may_dangle = m }

pub parameter_marks_one : IsOne parameter_marks
unfolding dangling parameter_from
parameter_marks_one ts p q r s x y =
    let e : sign_token p.sign ∷ (dangling_mark p.may_dangle ++ r)
    ≡ sign_token q.sign ∷ (dangling_mark q.may_dangle ++ s) = sym x.joined ∙ y.joined in
    let f : p.sign ≡ q.sign = sign_same p.sign q.sign (head_same _ _ _ _ e) in
    let same =
    mark_one dangling_mark (sign 63) refl refl (dangling_mark p.may_dangle ++ r) p.may_dangle q.may_dangle r s
    (record { joined = refl; allowed = tt; follows = x.follows })
    (record { joined = tail_same _ _ _ _ e; allowed = tt; follows = y.follows }) in
    (ap (λ z. parameter_from z p.may_dangle) f ∙ ap (λ z. parameter_from q.sign z) same.0, same.1)

-- a parameter's name and marks
region_marks : (ts : List Token) (a : WrittenName) (p : Parameter) (r : List Token)
    → Begins parameters ts (region_parameter a p) r → Begins (pair regions parameter_marks) ts (a, p) r
region_marks ts a p r b = record { joined = b.joined; allowed = (tt, tt); follows = b.follows }

type_marks : (ts : List Token) (a : WrittenName) (p : Parameter) (r : List Token)
    → Begins parameters ts (type_parameter a p) r
    → Begins (pair names parameter_marks) ts (a, p) r
type_marks ts a p r b = record { joined = b.joined; allowed = (b.allowed, tt); follows = b.follows }

pub regions_join : {B : Type 0} (h : Grammar B) → Joins regions h
regions_join h a b r k l m = tt

pub names_join : {B : Type 0} (h : Grammar B) → Joins names h
names_join h a b r k l m = tt

pub words_join : {B : Type 0} (h : Grammar B) → Joins any_words h
words_join h a b r k l m = tt

pub parameters_one : IsOne parameters
parameters_one ts (region_parameter a p) (region_parameter b q) r s x y = let same =
    pair_one regions parameter_marks (regions_join parameter_marks) regions_one parameter_marks_one ts (a, p) (b, q) r s
    (region_marks ts a p r x) (region_marks ts b q s y) in (ap (λ z. region_parameter z.0 z.1) same.0, same.1)
parameters_one ts (region_parameter a p) (type_parameter b q) r s x y =
    absurd (let f : region a ≡ word b = head_same _ _ _ _ (sym x.joined ∙ y.joined) in cc)
parameters_one ts (type_parameter a p) (region_parameter b q) r s x y =
    absurd (let f : word a ≡ region b = head_same _ _ _ _ (sym x.joined ∙ y.joined) in cc)
parameters_one ts (type_parameter a p) (type_parameter b q) r s x y = let same =
    pair_one names parameter_marks (names_join parameter_marks) names_one parameter_marks_one ts (a, p) (b, q) r s
    (type_marks ts a p r x) (type_marks ts b q s y) in (ap (λ z. type_parameter z.0 z.1) same.0, same.1)

pub mark_before : (m : Bool) (t u : Token) (r : List Token) → (u ≡ t → ⊥) → MayFollowMark t m (u ∷ r)
mark_before true t u r n = tt
mark_before false t u r n = λ rest e. n (head_same _ _ _ _ e)

pub parameters_before : (u : Token) → (u ≡ sign 63 → ⊥) → IsBefore u parameters
parameters_before u n (region_parameter a p) r h = mark_before p.may_dangle (sign 63) u r n
parameters_before u n (type_parameter a p) r h = mark_before p.may_dangle (sign 63) u r n

-- ---- lists

pub parameters_listable : IsListable parameters (sign 62)
parameters_listable = grind (arith, parameters_one, parameters_before, signs_apart, no_parameter)
  where
    no_parameter : (a : WrittenParameter) (r s : List Token) → parameters.IsAllowed a
        → parameters.spells a ++ r ≡ sign 62 ∷ s → ⊥
    no_parameter (region_parameter a p) r s h e = let f : region a ≡ sign 62 = head_same _ _ _ _ e in cc
    no_parameter (type_parameter a p) r s h e = let f : word a ≡ sign 62 = head_same _ _ _ _ e in cc

to_enclosed : (ts : List Token) (p : WrittenParameter) (ps : List WrittenParameter) (r : List Token)
    → Begins parameter_lists ts (p ∷ ps) r → Begins (enclosed (sign 60) (sign 62) parameters) ts (p ∷ ps, tt) r
to_enclosed ts p ps r b = record { joined = b.joined; allowed = ((omega arith, b.allowed), tt); follows = tt }

pub no_parameters : (ts inner : List Token) → ts ≡ sign 60 ∷ inner
    → HasNone (pair (commas parameters) (behind_token (sign 62) empty)) inner → HasNone parameter_lists ts
no_parameters ts inner e none [] r b = b.follows inner (sym b.joined ∙ e)
no_parameters ts inner e none (p ∷ ps) r b =
    behind_none _ (sign 60) ts inner e none (p ∷ ps, tt) r (to_enclosed ts p ps r b)

pub parameter_lists_one : IsOne parameter_lists
parameter_lists_one ts [] [] r s x y = (refl, sym x.joined ∙ y.joined)
parameter_lists_one ts [] (q ∷ qs) r s x y = absurd (x.follows _ (sym x.joined ∙ y.joined))
parameter_lists_one ts (p ∷ ps) [] r s x y = absurd (y.follows _ (sym y.joined ∙ x.joined))
parameter_lists_one ts (p ∷ ps) (q ∷ qs) r s x y =
    let same =
    behind_one _ (sign 60) (inside_one (sign 62) parameters parameters_listable) ts (p ∷ ps, tt) (q ∷ qs, tt) r s
    (to_enclosed ts p ps r x) (to_enclosed ts q qs s y) in
    (ap (λ z. z.0) same.0, same.1)

pub operands_join_colon : Joins operands (behind_token (sign 58) types)
operands_join_colon op t r k l m = operands_before (sign 58) (signs_apart 46 58 refl) op (spelled t ++ r) k

pub arguments_one : IsOne arguments
arguments_one =
    pair_one operands (behind_token (sign 58) types) operands_join_colon operands_one (behind_one types
    (sign 58) types_one)

pub operands_listable : IsListable operands (sign 41)
operands_listable = record {
  one = operands_one;
  comma = operands_before (sign 44) (signs_apart 46 44 refl);
  closing = operands_before (sign 41) (signs_apart 46 41 refl);
  other = signs_apart 41 44 refl;
  opens = λ op r s h e. no_operand 41 op r s e;
}

pub arguments_listable : IsListable arguments (sign 41)
arguments_listable = record {
  one = arguments_one;
  comma = λ a r h others e. signs_differ 44 60 _ _ refl e;
  closing = λ a r h others e. signs_differ 41 60 _ _ refl e;
  other = signs_apart 41 44 refl;
  opens = λ a r s h e. no_operand 41 a.0 ((sign 58 ∷ spelled a.1) ++ r) s
      (sym (append_assoc (spelled_operand a.0) (sign 58 ∷ spelled a.1) r) ∙ e);
}

pub bounds_one : IsOne bounds
bounds_one =
    pair_one regions (behind_token (sign 58) regions) (regions_join (behind_token (sign 58) regions)) regions_one
    (behind_one regions (sign 58) regions_one)

pub bounds_before : (t : Token) → IsBefore t bounds
bounds_before t w r h = tt

pub any_bounds : (ws : List (WrittenName × WrittenName)) → AllByRecursion bounds.IsAllowed ws
any_bounds [] = tt
any_bounds (w ∷ ws) = ((tt, tt), any_bounds ws)

to_bounds : (ts : List Token) (w : WrittenName × WrittenName) (ws : List (WrittenName × WrittenName)) (r : List Token)
    → Begins bound_lists ts (w ∷ ws) r → Begins (behind_token (word (codes "where")) (commas bounds)) ts (w ∷ ws) r
to_bounds ts w ws r b = record { joined = b.joined; allowed = (omega arith, any_bounds (w ∷ ws)); follows = b.follows }

pub bound_lists_one : IsOne bound_lists
bound_lists_one ts [] [] r s x y = (refl, sym x.joined ∙ y.joined)
bound_lists_one ts [] (q ∷ qs) r s x y = absurd (x.follows _ (sym x.joined ∙ (to_bounds ts q qs s y).joined))
bound_lists_one ts (p ∷ ps) [] r s x y = absurd (y.follows _ (sym y.joined ∙ (to_bounds ts p ps r x).joined))
bound_lists_one ts (p ∷ ps) (q ∷ qs) r s x y =
    behind_one (commas bounds) (word (codes "where")) (commas_one bounds (bounds_before (sign 44)) bounds_one) ts
    (p ∷ ps) (q ∷ qs) r s (to_bounds ts p ps r x) (to_bounds ts q qs s y)

pub no_bounds : (ts inner : List Token) → ts ≡ word (codes "where") ∷ inner → HasNone (commas bounds) inner
    → HasNone bound_lists ts
no_bounds ts inner e none [] r b = b.follows inner (sym b.joined ∙ e)
no_bounds ts inner e none (p ∷ ps) r b =
    behind_none (commas bounds) (word (codes "where")) ts inner e none (p ∷ ps) r (to_bounds ts p ps r b)

pub bounds_found : (ts inner rest : List Token) (ws : List (WrittenName × WrittenName))
    → ts ≡ word (codes "where") ∷ inner
    → Begins (commas bounds) inner ws rest → Begins bound_lists ts ws rest
bounds_found ts inner rest [] e b = absurd (let h : 0 < 0 = b.allowed.0 in omega (arith, h))
bounds_found ts inner rest (w ∷ ws) e b =
    record { joined = e ∙ ap (λ l. word (codes "where") ∷ l) b.joined; allowed = tt; follows = b.follows }

-- bounds are read behind `where`
pub read_bounds : {R E : Type 0} (ts inner : List Token) (ws : R → List (WrittenName × WrittenName)) (after : R
    → List Token)
    (r : Result (Option R) E) → ts ≡ word (codes "where") ∷ inner
    → IfOk r (λ o. MatchOption o (HasNone (commas bounds) inner) (λ p. Begins (commas bounds) inner (ws p) (after p)))
    → IfOk r (λ o. MatchOption o (HasNone bound_lists ts) (λ p. Begins bound_lists ts (ws p) (after p)))
read_bounds ts inner ws after (Ok None) e h = no_bounds ts inner e h
read_bounds ts inner ws after (Ok (Some p)) e h = bounds_found ts inner (after p) (ws p) e h
read_bounds ts inner ws after (Err x) e h = tt

-- ---- the blocks of a switch

blocks_loose : IsLoose block_names
blocks_loose b r = tt

pub many_blocks_one : IsOne (many block_names)
many_blocks_one = many_one block_names blocks_loose (prefixed_one (codes "bb"))

to_blocks : (ts : List Token) (bs : List ℕ) (r : List Token) → Begins block_lists ts bs r
    → Begins (many block_names) ts bs r
to_blocks ts bs r b = grind (arith, flat_map_single)

pub block_lists_one : IsOne block_lists
block_lists_one ts bs cs r s x y = many_blocks_one ts bs cs r s (to_blocks ts bs r x) (to_blocks ts cs s y)

pub no_blocks : (ts : List Token) (bs : List ℕ) (r : List Token) → length bs ≡ 0 → Begins (many block_names) ts bs r
    → HasNone block_lists ts
no_blocks ts bs r none b cs s y =
    let same : bs ≡ cs = (many_blocks_one ts bs cs r s b (to_blocks ts cs s y)).0 in
    let some : 0 < length cs = y.allowed.0 in
    let e : length bs ≡ length cs = ap length same in
    omega arith

-- ---- exits

block_before : {B : Type 0} (h : Grammar B) → Joins block_names h
block_before h a b r k l m = tt

only_target : (ts : List Token) (b : ℕ) (r : List Token) → Begins exits ts (b, None) r
    → Begins (behind_token arrow block_names) ts b r
only_target ts b r x = record { joined = x.joined; allowed = x.allowed.0; follows = tt }

two_targets : (ts : List Token) (b c : ℕ) (r : List Token) → Begins exits ts (b, Some c) r
    → Begins (behind_token arrow (pair block_names (behind_token (word (codes "unwind")) block_names))) ts (b, c) r
two_targets ts b c r x = record { joined = x.joined; allowed = x.allowed; follows = tt }

target_of : (ts : List Token) (b c : ℕ) (r : List Token) → Begins exits ts (b, Some c) r
    → Begins (behind_token arrow block_names) ts b (word (codes "unwind") ∷ block_word c ∷ r)
target_of ts b c r x = record { joined = x.joined; allowed = x.allowed.0; follows = tt }

pub blocks_one : IsOne block_names
blocks_one = prefixed_one (codes "bb")

target_one : IsOne (behind_token arrow block_names)
target_one = behind_one block_names arrow blocks_one

pub exits_one : IsOne exits
exits_one ts (b, None) (d, None) r s x y = let same =
    target_one ts b d r s (only_target ts b r x) (only_target ts d s y) in (ap (λ z. (z, None)) same.0, same.1)
exits_one ts (b, None) (d, Some e) r s x y =
    absurd (let same = target_one ts b d r _ (only_target ts b r x) (target_of ts d e s y) in x.follows _ same.1)
exits_one ts (b, Some c) (d, None) r s x y =
    absurd (let same = target_one ts b d _ s (target_of ts b c r x) (only_target ts d s y) in y.follows _ (sym same.1))
exits_one ts (b, Some c) (d, Some e) r s x y =
    let one =
    behind_one _ arrow (pair_one block_names (behind_token (word (codes "unwind")) block_names)
    (block_before (behind_token (word (codes "unwind")) block_names)) blocks_one
    (behind_one block_names (word (codes "unwind")) blocks_one)) in
    let same = one ts (b, c) (d, e) r s (two_targets ts b c r x) (two_targets ts d e s y) in
    (ap (λ (z : ℕ × ℕ). (z.0, Some z.1)) same.0, same.1)
