-- Lines and their parts.
use Rattle.std.proofs.Common.{◌≡◌, ℕ, Bool, true, false, List, [], ◌∷◌, map, refl, sym, ap, ◌∙◌, subst, Option, Some, None, arith}
use Rattle.std.specs.List.{AllByRecursion}
use Rattle.std.specs.Prelude.{codes, Result, Ok, Err, IfOk, MatchOption}
use Rattle.std.proofs.lemmas.Bool.{false≢true}
use Rattle.nll_text.specs.Tokens.{Token, word, sign}
use Rattle.nll_types.specs.Places.{PlacePath}
use Rattle.nll_types.specs.Operands.{Operand, constant, copied, moved}
use Rattle.nll_mir_grammar.specs.WrittenTypes.{WrittenName, WrittenType, HasNames, IsFree}
use Rattle.nll_body.specs.Statements.{assign, borrow, make, read, live, dead, nop, goto, switch, drop, call, return, stop}
use Rattle.nll_mir_grammar.specs.MirForms.{Form, universal, outlives, further, assert_line, struct_line, variable, blocks, block, at_point, end, spelled_form, IsWritable, IsWritableOperand, IsSpelled}
use Rattle.nll_mir_grammar.specs.Versions.{is_of_version, IsSpelledIn}
use Rattle.nll_mir_grammar.specs.declared.version.Version.{Version}
use Rattle.nll_text.specs.Grammars.{Begins, HasNone, any_words}
use Rattle.nll_mir_grammar.specs.Grammars.{behind_token}
use Rattle.nll_mir_grammar.specs.Parts.{places, operands, arguments, block_names, MayFollowOperand, MayFollowUnwind}
use Rattle.nll_mir_grammar.specs.Kinds.{borrows, makes, signatures, value, borrowed, made, called, rights, tails, keyword_name, LineParts, line_grammars, lines, parts_of_form, IsLine, IsRightSide, IsBehind, HasNoKeyword}
use Rattle.nll_mir_grammar.specs.declared.keyword.Keyword.{Keyword}
use Rattle.nll_mir_grammar.specs.declared.keyword.Keyword.TheVariants as words
use Rattle.nll_mir_grammar.proofs.GrammarLemmas.{append_nil, behind_found, behind_none, pair_found, pair_none_behind}
use Rattle.nll_mir_grammar.proofs.PartLemmas.{no_projection_left, places_one}
use Rattle.nll_mir_grammar.proofs.KindLemmas.{rights_join, lines_one, line_kind, line_kind_of, line_kind_of_name}

-- ---- right sides

pub borrow_side : (ts rest : List Token) (p : PlacePath) (a : WrittenName) (m : Bool) (q : PlacePath) (r : List Token)
    → ts ≡ sign 38 ∷ rest → Begins borrows rest (a, (m, q)) r → IsRightSide ts p (at_point (borrow p a m q)) r
borrow_side ts rest p a m q r e b = record {
  callee = [];
  right = (borrowed, (a, (m, q)));
  begins = let f = behind_found borrows (sign 38) ts rest (a, (m, q)) r e b in
      record { joined = f.joined; allowed = f.allowed; follows = f.follows };
  same = refl;
}

pub make_side : (ts rest : List Token) (p : PlacePath) (t : WrittenType) (ops : List Operand) (r : List Token)
    → ts ≡ word (codes "make") ∷ rest → Begins makes rest (t, ops) r → IsRightSide ts p (at_point (make p t ops)) r
make_side ts rest p t ops r e b = record {
  callee = [];
  right = (made, (t, ops));
  begins = let f = behind_found makes (word (codes "make")) ts rest (t, ops) r e b in
      record { joined = f.joined; allowed = f.allowed; follows = f.follows };
  same = refl;
}

pub value_side : (ts : List Token) (p : PlacePath) (op : Operand) (r : List Token) → Begins operands ts op r
    → IsRightSide ts p (at_point (assign p op)) r
value_side ts p op r b = record {
  callee = [];
  right = (value, op);
  begins = record { joined = b.joined; allowed = b.allowed; follows = b.follows };
  same = refl;
}

pub call_side : (ts rest mid : List Token) (p : PlacePath) (f : List ℕ) (args : List (Operand × WrittenType))
    (t : WrittenType) (wheres : List (WrittenName × WrittenName)) (b : ℕ) (unwind : Option ℕ) (r : List Token)
    → ts ≡ word (codes "call") ∷ rest → Begins any_words rest f mid
    → Begins signatures mid (args, (t, (wheres, (b, unwind)))) r
    → IsRightSide ts p (at_point (call p args t wheres b unwind)) r
call_side ts rest mid p f args t wheres b unwind r e w s = record {
  callee = f;
  right = (called, (f, (args, (t, (wheres, (b, unwind))))));
  begins = grind (arith, pair_found, behind_found);
  same = refl;
}

-- ---- assignments

pub assignment_line : (ts mid after : List Token) (p : PlacePath) (f : Form) (r : List Token) → Begins places ts p mid
    → mid ≡ sign 61 ∷ after → IsRightSide after p f r → IsLine ts f r
assignment_line ts mid after p f r b e s = record {
  callee = s.callee;
  begins =
      let x = behind_found rights (sign 61) mid after s.right r e s.begins in
      let y = pair_found places (behind_token (sign 61) rights) ts mid r p s.right b x in
      let z : Begins lines ts (None, (p, s.right)) r =
      record { joined = y.joined; allowed = y.allowed; follows = y.follows } in
      subst (λ l. Begins lines ts l r) (sym s.same) z;
}

-- what was read behind `=`
pub read_assigned : {R E : Type 0} (ts after : List Token) (p : PlacePath) (form : R → Form) (rest : R → List Token)
    (r : Result (Option R) E) → ts ≡ sign 61 ∷ after
    → IfOk r (λ o. MatchOption o (HasNone rights after) (λ x. IsRightSide after p (form x) (rest x)))
    → IfOk r (λ o. MatchOption o (HasNone (behind_token (sign 61) rights) ts)
    (λ x. (after : List Token) × (ts ≡ sign 61 ∷ after) × IsRightSide after p (form x) (rest x)))
read_assigned ts after p form rest (Ok None) e h = behind_none rights (sign 61) ts after e h
read_assigned ts after p form rest (Ok (Some x)) e h = (after, e, h)
read_assigned ts after p form rest (Err x) e h = tt

-- what was read behind a place
pub read_behind_place : {R E : Type 0} (ts mid : List Token) (p : PlacePath) (form : R → Form) (rest : R → List Token)
    (r : Result (Option R) E) → Begins places ts p mid
    → IfOk r (λ o. MatchOption o (HasNone (behind_token (sign 61) rights) mid)
    (λ x. (after : List Token) × (mid ≡ sign 61 ∷ after) × IsRightSide after p (form x) (rest x)))
    → IfOk r (λ o. MatchOption o (HasNone (line_grammars None) ts) (λ x. IsLine ts (form x) (rest x)))
read_behind_place ts mid p form rest (Ok None) b h =
    pair_none_behind places (behind_token (sign 61) rights) places_one rights_join ts mid p b h
read_behind_place ts mid p form rest (Ok (Some x)) b h = assignment_line ts mid h.0 p (form x) (rest x) b h.1 h.2
read_behind_place ts mid p form rest (Err x) b h = tt

-- a right side behind its first token
pub read_side_behind : {R E : Type 0} (ts after : List Token) (t : Token) (p : PlacePath) (form : R → Form)
    (rest : R → List Token) (r : Result (Option R) E) → ts ≡ t ∷ after
    → IfOk r (λ o. (us : List Token) → us ≡ t ∷ after
    → MatchOption o (HasNone rights us) (λ x. IsRightSide us p (form x) (rest x)))
    → IfOk r (λ o. MatchOption o (HasNone rights ts) (λ x. IsRightSide ts p (form x) (rest x)))
read_side_behind ts after t p form rest (Ok o) e h = h ts e
read_side_behind ts after t p form rest (Err x) e h = tt

-- ---- lines

pub keyword_line : (ts mid : List Token) (k : Keyword) (f : Form) (r : List Token) → ts ≡ word (keyword_name k) ∷ mid
    → IsBehind k mid f r → IsLine ts f r
keyword_line ts mid k f r e b = record {
  callee = [];
  begins =
      subst (λ l. Begins lines l (parts_of_form [] f) r) (sym e) b;
}

no_lines : (k : Option Keyword) (ts : List Token) → line_kind ts ≡ k → HasNone (line_grammars k) ts → HasNone lines ts
no_lines k ts e none p r b =
    let f : p.0 ≡ k = sym (line_kind_of p.0 p.1 r) ∙ (ap line_kind (sym b.joined) ∙ e) in
    subst (λ (z : Option Keyword). (q : LineParts z) → Begins (line_grammars z) ts q r → ⊥) (sym f)
    (λ q x. none q r x) p.1
    (record { joined = b.joined; allowed = b.allowed; follows = b.follows })

pub no_keyword_line : (ts mid : List Token) (k : Keyword) → ts ≡ word (keyword_name k) ∷ mid → HasNone (tails k) mid
    → HasNone lines ts
no_keyword_line ts mid k e none =
    no_lines (Some k) ts (ap line_kind e ∙ line_kind_of_name k mid)
    (behind_none (tails k) (word (keyword_name k)) ts mid e none)

pub no_assignment : (ts : List Token) → HasNoKeyword ts → HasNone (line_grammars None) ts → HasNone lines ts
no_assignment ts other none (None, p) r b =
    none p r (record { joined = b.joined; allowed = b.allowed; follows = b.follows })
no_assignment ts other none (Some k, p) r b = other k _ b.joined

-- a line is read behind its keyword
pub read_keyword_line : {R E : Type 0} (ts mid : List Token) (k : Keyword) (form : R → Form) (after : R → List Token)
    (r : Result (Option R) E) → ts ≡ word (keyword_name k) ∷ mid
    → IfOk r (λ o. MatchOption o (HasNone (tails k) mid) (λ p. IsBehind k mid (form p) (after p)))
    → IfOk r (λ o. MatchOption o (HasNone lines ts) (λ p. IsLine ts (form p) (after p)))
read_keyword_line ts mid k form after (Ok None) e none = no_keyword_line ts mid k e none
read_keyword_line ts mid k form after (Ok (Some p)) e found = keyword_line ts mid k (form p) (after p) e found
read_keyword_line ts mid k form after (Err x) e h = tt

-- a line is read that begins with no keyword
pub read_assignment : {R E : Type 0} (ts : List Token) (form : R → Form) (after : R → List Token)
    (r : Result (Option R) E) → HasNoKeyword ts
    → IfOk r (λ o. MatchOption o (HasNone (line_grammars None) ts) (λ p. IsLine ts (form p) (after p)))
    → IfOk r (λ o. MatchOption o (HasNone lines ts) (λ p. IsLine ts (form p) (after p)))
read_assignment ts form after (Ok None) other none = no_assignment ts other none
read_assignment ts form after (Ok (Some p)) other found = found
read_assignment ts form after (Err x) other h = tt

-- ---- forms

-- the form of parts
form_from : (k : Option Keyword) × LineParts k → Form
form_from (None, (p, (value, op))) = at_point (assign p op)
form_from (None, (p, (borrowed, x))) = at_point (borrow p x.0 x.1.0 x.1.1)
form_from (None, (p, (made, x))) = at_point (make p x.0 x.1)
form_from (None, (p, (called, x))) = at_point (call p x.1.0 x.1.1.0 x.1.1.1.0 x.1.1.1.1.0 x.1.1.1.1.1)
form_from (Some words.Universal, a) = universal a
form_from (Some words.Outlives, a) = outlives a.0 a.1
form_from (Some words.Region, x) = further x
form_from (Some words.Assert, a) = assert_line a.0 a.1
form_from (Some words.Struct, x) = struct_line x.0 x.1.0 x.1.1.0 x.1.1.1
form_from (Some words.Let, x) = variable x.0 x.1
form_from (Some words.Blocks, n) = blocks n
form_from (Some words.Block, n) = block n
form_from (Some words.Read, p) = at_point (read p)
form_from (Some words.Live, x) = at_point (live x)
form_from (Some words.Dead, x) = at_point (dead x)
form_from (Some words.Nop, x) = at_point nop
form_from (Some words.Goto, b) = at_point (goto b)
form_from (Some words.Switch, x) = at_point (switch x.0 x.1)
form_from (Some words.Drop, x) = at_point (drop x.0 x.1.0 x.1.1)
form_from (Some words.Return, x) = at_point return
form_from (Some words.Stop, x) = at_point stop
form_from (Some words.End, x) = end

from_parts : (c : List ℕ) (f : Form) → form_from (parts_of_form c f) ≡ f
unfolding form_from
from_parts c (at_point (assign p op)) = refl
from_parts c _ = refl

spelled_parts : (c : List ℕ) (f : Form) → spelled_form c f ≡ lines.spells (parts_of_form c f)
spelled_parts c (at_point (assign p op)) = refl
spelled_parts c _ = refl

-- an argument may be written where its operand and its type may
all_arguments : (args : List (Operand × WrittenType)) → AllByRecursion (λ a. IsWritableOperand a.0 × HasNames a.1) args
    → AllByRecursion arguments.IsAllowed args
all_arguments [] h = tt
all_arguments (a ∷ args) h = ((h.0.0, h.0.1), all_arguments args h.1)

arguments_all : (args : List (Operand × WrittenType)) → AllByRecursion arguments.IsAllowed args
    → AllByRecursion (λ a. IsWritableOperand a.0 × HasNames a.1) args
arguments_all [] h = tt
arguments_all (a ∷ args) h = ((h.0.0, h.0.1), arguments_all args h.1)

allowed_parts : (c : List ℕ) (f : Form) → IsWritable f → lines.IsAllowed (parts_of_form c f)
allowed_parts c (outlives a b) h = (tt, tt)
allowed_parts c (assert_line a b) h = (tt, tt)
allowed_parts c (struct_line n ps d ts) h = (h.0, (h.1, (tt, h.2)))
allowed_parts c (at_point (borrow p r m q)) h = (h.0, (tt, (tt, h.1)))
allowed_parts c (at_point (call p args t ws b u)) h = (h.0, (tt, (all_arguments args h.1, (h.2, (tt, (h.3, h.4))))))
allowed_parts c (at_point (make p t ops)) h = (h.0, (h.1, h.2))
allowed_parts c (at_point (switch op bs)) h = (h.0, (h.1, h.2))
allowed_parts c (at_point (drop x b u)) h = (h.0, (h.1, h.2))
allowed_parts c _ h = h

writable_parts : (c : List ℕ) (f : Form) → lines.IsAllowed (parts_of_form c f) → IsWritable f
writable_parts c (outlives a b) h = tt
writable_parts c (assert_line a b) h = tt
writable_parts c (struct_line n ps d ts) h = (h.0, h.1.0, h.1.1.1)
writable_parts c (at_point (borrow p r m q)) h = (h.0, h.1.1.1)
writable_parts c (at_point (call p args t ws b u)) h =
    (h.0, arguments_all args h.1.1.0, h.1.1.1.0, h.1.1.1.1.1.0, h.1.1.1.1.1.1)
writable_parts c (at_point (make p t ops)) h = (h.0, h.1.0, h.1.1)
writable_parts c (at_point (switch op bs)) h = (h.0, h.1.0, h.1.1)
writable_parts c (at_point (drop x b u)) h = (h.0, h.1.0, h.1.1)
writable_parts c _ h = h

free_end : IsFree []
free_end others e = cc

operand_end : (op : Operand) → MayFollowOperand op []
operand_end constant = tt
operand_end (copied p) = no_projection_left
operand_end (moved p) = no_projection_left

unwind_end : (u : Option ℕ) → MayFollowUnwind u []
unwind_end None = λ rest e. cc
unwind_end (Some b) = tt

block_end : HasNone block_names []
block_end b r x = let e = x.joined in cc

-- each line may stand at the end
ends : (c : List ℕ) (f : Form) → lines.MayFollow (parts_of_form c f) []
ends c (struct_line n ps d ts) = free_end
ends c (variable x t) = free_end
ends c (at_point (assign p op)) = operand_end op
ends c (at_point (borrow p r m q)) = no_projection_left
ends c (at_point (read p)) = no_projection_left
ends c (at_point (switch op bs)) = block_end
ends c (at_point (drop x b u)) = unwind_end u
ends c (at_point (call p args t ws b u)) = unwind_end u
ends c _ = tt

pub to_line : (ts : List Token) (f : Form) → (s : IsSpelled ts f) → Begins lines ts (parts_of_form s.callee f) []
to_line ts f s = grind (arith, spelled_parts, append_nil, allowed_parts, ends)

pub from_line : (ts : List Token) (f : Form) → IsLine ts f [] → IsSpelled ts f
from_line ts f h = grind (arith, append_nil, spelled_parts, writable_parts)

pub no_form : (ts : List Token) → HasNone lines ts → (f : Form) → IsSpelled ts f → ⊥
no_form ts none f s = none (parts_of_form s.callee f) [] (to_line ts f s)

-- a line that goes on isn't spelled whole
pub no_form_before : (ts : List Token) (f : Form) (rest : List Token) → IsLine ts f rest → (rest ≡ [] → ⊥) → (g : Form)
    → IsSpelled ts g → ⊥
no_form_before ts f rest h more g s = more (lines_one ts _ _ rest [] h.begins (to_line ts g s)).1

pub one_form_lem : (ts : List Token) (f g : Form) → IsSpelled ts f → IsSpelled ts g → f ≡ g
one_form_lem ts f g s u =
    let same = lines_one ts _ _ [] [] (to_line ts f s) (to_line ts g u) in
    sym (from_parts s.callee f) ∙ (ap form_from same.0 ∙ from_parts u.callee g)

-- tokens of a form that isn't of the version are those of none that is
pub no_form_in : (version : Version) (ts : List Token) (g : Form) → IsSpelled ts g → is_of_version version g ≡ false
    → (f : Form) → IsSpelledIn version ts f → ⊥
no_form_in version ts g s other f h =
    false≢true (sym other ∙ subst (λ z. is_of_version version z ≡ true) (one_form_lem ts f g h.0 s) h.1)
