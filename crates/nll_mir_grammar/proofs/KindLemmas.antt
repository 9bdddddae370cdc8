-- Right sides and lines: tokens begin with one of each at most.
use Rattle.std.proofs.Common.{◌≡◌, ℕ, ◌<◌, true, false, cond, eqb, List, [], ◌∷◌, ◌++◌, refl, sym, ap, ◌∙◌, subst, arith, Option, Some, None}
use Rattle.std.specs.List.{flat_map}
use Rattle.std.specs.Prelude.{codes}
use Rattle.std.specs.Str.{bytes_eq}
use Rattle.std.specs.Fmt.{decimal}
use Rattle.nll_text.specs.Tokens.{Token, word, sign, arrow}
use Rattle.nll_types.specs.Operands.{constant, copied, moved}
use Rattle.nll_mir_grammar.specs.MirForms.{spelled_projection, block_word}
use Rattle.nll_text.specs.Grammars.{Begins, HasNone, IsNotNext, any_words, regions}
use Rattle.nll_mir_grammar.specs.Grammars.{IsOne, behind_token, pair, parentheses, MayFollowAll}
use Rattle.nll_mir_grammar.specs.Parts.{names, variables, places, operands, types, tuples, arguments, mutabilities, drop_marks, parameter_lists, bounds, bound_lists, block_lists, exits}
use Rattle.nll_mir_grammar.specs.Kinds.{borrows, makes, results, signatures, structs, Right, value, borrowed, made, called, RightParts, right_sides, rights, tails, keyword_name, LineParts, line_grammars, lines}
use Rattle.nll_mir_grammar.specs.declared.keyword.Keyword.{Keyword}
use Rattle.nll_mir_grammar.specs.declared.keyword.Keyword.TheVariants as words
use Rattle.nll_mir_grammar.proofs.GrammarLemmas.{head_same, signs_apart, signs_differ, behind_one, behind_none, Joins, pair_one, kinds_one}
use Rattle.nll_mir_grammar.proofs.ListLemmas.{parentheses_one, all_before, empty_one}
use Rattle.nll_mir_grammar.proofs.PartLemmas.{words_apart, regions_join, words_join, names_join, variables_join, any_bounds, bounds_one, blocks_one, regions_one, any_words_one, names_one, prefixed_one, places_one, operands_one, types_one, tuples_one, mark_one, parameter_lists_one, bound_lists_one, block_lists_one, exits_one, operands_listable, arguments_listable, bounds_before, no_projection, operands_before, mark_before}

-- ---- what stands behind what

variable_is_no : (w : List ℕ) (x : ℕ) → bytes_eq (codes "_" ++ decimal x) w ≡ false
    → word (codes "_" ++ decimal x) ≡ word w → ⊥
variable_is_no w x n e = words_apart (codes "_" ++ decimal x) w n (let f : codes "_" ++ decimal x ≡ w = cc in f)

pub mutabilities_join : Joins mutabilities places
mutabilities_join m p r k l f =
    mark_before m (word (codes "mut")) (word (codes "_" ++ decimal p.variable))
    (flat_map spelled_projection p.projections ++ r) (variable_is_no (codes "mut") p.variable refl)

pub makes_join : Joins types (parentheses operands)
makes_join t ops r k l m others e = signs_differ 40 60 _ _ refl e

exits_begin : (e : ℕ × Option ℕ) (r : List Token) → (rest : List Token) × (exits.spells e ++ r ≡ arrow ∷ rest)
exits_begin (b, None) r = (block_word b ∷ r, refl)
exits_begin (b, Some c) r = (block_word b ∷ word (codes "unwind") ∷ block_word c ∷ r, refl)

pub bounds_join : Joins bound_lists exits
bounds_join [] e r k l m = λ others f. let g = exits_begin e r in
    let h : arrow ∷ g.0 ≡ word (codes "where") ∷ others = sym g.1 ∙ f in cc
bounds_join (w ∷ ws) e r k l m = let g = exits_begin e r in
    subst (λ z. MayFollowAll bounds (w ∷ ws) z) (sym g.1)
    (all_before arrow bounds (bounds_before arrow) (λ f. cc) (w ∷ ws) g.0 (omega arith, any_bounds (w ∷ ws)))

pub results_join : Joins types (pair bound_lists exits)
results_join t ([], e) r k l m others f = let g = exits_begin e r in
    let h : arrow ∷ g.0 ≡ sign 60 ∷ others = sym g.1 ∙ f in cc
results_join t ((w ∷ ws), e) r k l m others f = let h : word (codes "where") ≡ sign 60 = head_same _ _ _ _ f in cc

pub signatures_join : Joins (parentheses arguments) (behind_token (sign 58) results)
signatures_join xs e r k l m = tt

pub drops_join : Joins drop_marks tuples
drops_join d ts r k l m = mark_before d (word (codes "drop")) (sign 40) _ (λ e. cc)

pub parameters_join : Joins parameter_lists (pair drop_marks tuples)
parameters_join [] (true, ts) r k l m = λ others e. let h : word (codes "drop") ≡ sign 60 = head_same _ _ _ _ e in cc
parameters_join [] (false, ts) r k l m = λ others e. signs_differ 40 60 _ _ refl e
parameters_join (p ∷ ps) d r k l m = tt

pub switch_join : Joins operands block_lists
switch_join op [] r k l m = absurd (let h : 0 < 0 = l.0 in omega (arith, h))
switch_join op (b ∷ bs) r k l m = operands_before (block_word b) (λ e. cc) op _ k

pub rights_join : Joins places (behind_token (sign 61) rights)
rights_join p x r k l m = no_projection (sign 61) _ (signs_apart 46 61 refl)

-- ---- right sides

pub borrows_one : IsOne borrows
borrows_one = pair_one regions (pair mutabilities places) (regions_join (pair mutabilities places)) regions_one
    (pair_one mutabilities places mutabilities_join
    (mark_one mutabilities.spells (word (codes "mut")) refl refl) places_one)

pub makes_one : IsOne makes
makes_one = pair_one types (parentheses operands) makes_join types_one (parentheses_one operands operands_listable)

pub results_one : IsOne results
results_one =
    pair_one types (pair bound_lists exits) results_join types_one
    (pair_one bound_lists exits bounds_join bound_lists_one exits_one)

pub signatures_one : IsOne signatures
signatures_one =
    pair_one (parentheses arguments) (behind_token (sign 58) results) signatures_join
    (parentheses_one arguments arguments_listable) (behind_one results (sign 58) results_one)

pub right_sides_one : (k : Right) → IsOne (right_sides k)
right_sides_one value = operands_one
right_sides_one borrowed = behind_one borrows (sign 38) borrows_one
right_sides_one made = behind_one makes (word (codes "make")) makes_one
right_sides_one called =
    behind_one (pair any_words signatures) (word (codes "call"))
    (pair_one any_words signatures (words_join signatures) any_words_one signatures_one)

-- the kind of the right side in front
right_kind : List Token → Right
right_kind (sign b ∷ ts) = cond (eqb b 38) borrowed value
right_kind (word w ∷ ts) = cond (bytes_eq w (codes "make")) made (cond (bytes_eq w (codes "call")) called value)
right_kind _ = value

right_kind_of : (k : Right) (p : RightParts k) (r : List Token) → right_kind ((right_sides k).spells p ++ r) ≡ k
unfolding right_kind
right_kind_of value constant r = refl
right_kind_of value (copied p) r = refl
right_kind_of value (moved p) r = refl
right_kind_of borrowed p r = refl
right_kind_of made p r = refl
right_kind_of called p r = refl

pub rights_one : IsOne rights
rights_one = kinds_one RightParts right_sides right_sides_one
    (λ k l p q r s a b e. sym (right_kind_of k p r) ∙ (ap right_kind e ∙ right_kind_of l q s))

no_rights : (k : Right) (ts : List Token) → right_kind ts ≡ k → HasNone (right_sides k) ts → HasNone rights ts
no_rights k ts e none p r b =
    let f : p.0 ≡ k = sym (right_kind_of p.0 p.1 r) ∙ (ap right_kind (sym b.joined) ∙ e) in
    subst (λ (z : Right). (q : RightParts z) → Begins (right_sides z) ts q r → ⊥) (sym f) (λ q x. none q r x) p.1
    (record { joined = b.joined; allowed = b.allowed; follows = b.follows })

pub no_borrow : (ts rest : List Token) → ts ≡ sign 38 ∷ rest → HasNone borrows rest → HasNone rights ts
unfolding right_kind
no_borrow ts rest e none = no_rights borrowed ts (ap right_kind e) (behind_none borrows (sign 38) ts rest e none)

pub no_make : (ts rest : List Token) → ts ≡ word (codes "make") ∷ rest → HasNone makes rest → HasNone rights ts
unfolding right_kind
no_make ts rest e none = no_rights made ts (ap right_kind e) (behind_none makes (word (codes "make")) ts rest e none)

pub no_call : (ts rest : List Token) → ts ≡ word (codes "call") ∷ rest → HasNone (pair any_words signatures) rest
    → HasNone rights ts
unfolding right_kind
no_call ts rest e none =
    no_rights called ts (ap right_kind e) (behind_none (pair any_words signatures) (word (codes "call")) ts rest e none)

pub no_value : (ts : List Token) → IsNotNext (sign 38) ts → IsNotNext (word (codes "make")) ts
    → IsNotNext (word (codes "call")) ts → HasNone operands ts → HasNone rights ts
no_value ts a b d none (value, p) r x =
    none p r (record { joined = x.joined; allowed = x.allowed; follows = x.follows })
no_value ts a b d none (borrowed, p) r x = a _ x.joined
no_value ts a b d none (made, p) r x = b _ x.joined
no_value ts a b d none (called, p) r x = d _ x.joined

-- ---- lines

-- the keyword that a word is
keyword_in : List ℕ → Option Keyword
keyword_in w =
    cond (bytes_eq w (codes "universal")) (Some words.Universal)
    (cond (bytes_eq w (codes "outlives")) (Some words.Outlives)
    (cond (bytes_eq w (codes "region")) (Some words.Region)
    (cond (bytes_eq w (codes "assert")) (Some words.Assert)
    (cond (bytes_eq w (codes "struct")) (Some words.Struct)
    (cond (bytes_eq w (codes "let")) (Some words.Let)
    (cond (bytes_eq w (codes "blocks")) (Some words.Blocks)
    (cond (bytes_eq w (codes "block")) (Some words.Block)
    (cond (bytes_eq w (codes "read")) (Some words.Read)
    (cond (bytes_eq w (codes "live")) (Some words.Live)
    (cond (bytes_eq w (codes "dead")) (Some words.Dead)
    (cond (bytes_eq w (codes "nop")) (Some words.Nop)
    (cond (bytes_eq w (codes "goto")) (Some words.Goto)
    (cond (bytes_eq w (codes "switch")) (Some words.Switch)
    (cond (bytes_eq w (codes "drop")) (Some words.Drop)
    (cond (bytes_eq w (codes "return")) (Some words.Return)
    (cond (bytes_eq w (codes "stop")) (Some words.Stop)
    (cond (bytes_eq w (codes "end")) (Some words.End) None)))))))))))))))))

-- the kind of the line in front
pub line_kind : List Token → Option Keyword
line_kind (word w ∷ ts) = keyword_in w
line_kind _ = None

pub line_kind_of_name : (k : Keyword) (ts : List Token) → line_kind (word (keyword_name k) ∷ ts) ≡ Some k
unfolding line_kind keyword_in
line_kind_of_name words.Universal ts = refl
line_kind_of_name _ ts = refl

pub line_kind_of : (k : Option Keyword) (p : LineParts k) (r : List Token)
    → line_kind ((line_grammars k).spells p ++ r) ≡ k
unfolding line_kind keyword_in
line_kind_of None p r = refl
line_kind_of (Some k) p r = line_kind_of_name k ((tails k).spells p ++ r)

pub drop_marks_one : IsOne drop_marks
drop_marks_one = mark_one drop_marks.spells (word (codes "drop")) refl refl

pub structs_one : IsOne structs
structs_one =
    pair_one names (pair parameter_lists (pair drop_marks tuples))
    (names_join (pair parameter_lists (pair drop_marks tuples))) names_one
    (pair_one parameter_lists (pair drop_marks tuples) parameters_join parameter_lists_one
    (pair_one drop_marks tuples drops_join drop_marks_one tuples_one))

variables_one : IsOne variables
variables_one = prefixed_one (codes "_")

tails_one : (k : Keyword) → IsOne (tails k)
tails_one words.Universal = regions_one
tails_one words.Outlives = pair_one regions regions (regions_join regions) regions_one regions_one
tails_one words.Region = regions_one
tails_one words.Assert = bounds_one
tails_one words.Struct = structs_one
tails_one words.Let =
    pair_one variables (behind_token (sign 58) types) (variables_join (behind_token (sign 58) types)) variables_one
    (behind_one types (sign 58) types_one)
tails_one words.Blocks = prefixed_one []
tails_one words.Block = blocks_one
tails_one words.Read = places_one
tails_one words.Live = variables_one
tails_one words.Dead = variables_one
tails_one words.Nop = empty_one
tails_one words.Goto = blocks_one
tails_one words.Switch = pair_one operands block_lists switch_join operands_one block_lists_one
tails_one words.Drop = pair_one variables exits (variables_join exits) variables_one exits_one
tails_one words.Return = empty_one
tails_one words.Stop = empty_one
tails_one words.End = empty_one

line_grammars_one : (k : Option Keyword) → IsOne (line_grammars k)
line_grammars_one None =
    pair_one places (behind_token (sign 61) rights) rights_join places_one (behind_one rights (sign 61) rights_one)
line_grammars_one (Some k) = behind_one (tails k) (word (keyword_name k)) (tails_one k)

pub lines_one : IsOne lines
lines_one = kinds_one LineParts line_grammars line_grammars_one
    (λ k l p q r s a b e. sym (line_kind_of k p r) ∙ (ap line_kind e ∙ line_kind_of l q s))
