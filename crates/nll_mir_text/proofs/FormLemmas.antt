-- A line of a form isn't skipped, it and the names that it declares are UTF-8, and it has few parameters.
use Rattle.std.proofs.Common.{◌≡◌, ℕ, ◌≤◌, false, List, [], ◌∷◌, ◌++◌, length, map, refl, sym, ap, subst, arith, length-append}
use Rattle.std.specs.List.{AllByRecursion, flat_map}
use Rattle.std.specs.Str.{IsUtf8}
use Rattle.nll_problem.specs.Limits.{most_bytes}
use Rattle.nll_text.specs.Lines.{is_skipped}
use Rattle.nll_text.specs.Tokens.{Token, sign, AreTokens, IsMadeOf}
use Rattle.nll_text.proofs.SkippedLemmas.{kept_tokens}
use Rattle.nll_text.proofs.Utf8Lemmas.{IsUtf8-word, made_is_utf8}
use Rattle.nll_text.proofs.TokenLemmas.{made_of_tokens}
use Rattle.nll_body.specs.Statements.{assign, borrow, make, read, live, dead, nop, goto, switch, drop, call, return, stop}
use Rattle.nll_mir_grammar.specs.MirForms.{Form, universal, outlives, further, assert_line, struct_line, variable, blocks, block, at_point, end, HasForm, spelled_form, spelled_parameter, spelled_parameters, WrittenParameter, region_parameter, type_parameter}
use Rattle.nll_mir_text.specs.MirReading.{IsNamed, HasTexts, HasFewParameters}
use Rattle.nll_mir_text.proofs.TextLemmas.{few_made}

-- ---- it is UTF-8, and isn't skipped

pub form_utf8 : (line : List ℕ) (f : Form) → HasForm line f → IsUtf8 line
form_utf8 line f h = made_is_utf8 line h.0 h.1

-- there is a token
abbrev IsSome : List Token → Type 0
IsSome [] = ⊥
IsSome (t ∷ ts) = Unit {0}

some_spelled : (callee : List ℕ) (f : Form) → IsSome (spelled_form callee f)
some_spelled callee (universal a) = tt
some_spelled callee (outlives a b) = tt
some_spelled callee (further x) = tt
some_spelled callee (assert_line a b) = tt
some_spelled callee (struct_line n ps has_drop fields) = tt
some_spelled callee (variable x t) = tt
some_spelled callee (blocks n) = tt
some_spelled callee (block n) = tt
some_spelled callee (at_point (assign p op)) = tt
some_spelled callee (at_point (borrow p r m q)) = tt
some_spelled callee (at_point (make p t ops)) = tt
some_spelled callee (at_point (read p)) = tt
some_spelled callee (at_point (live x)) = tt
some_spelled callee (at_point (dead x)) = tt
some_spelled callee (at_point nop) = tt
some_spelled callee (at_point (goto b)) = tt
some_spelled callee (at_point (switch op bs)) = tt
some_spelled callee (at_point (drop x b u)) = tt
some_spelled callee (at_point (call p args t ws b u)) = tt
some_spelled callee (at_point return) = tt
some_spelled callee (at_point stop) = tt
some_spelled callee end = tt

some_kept : (line : List ℕ) (ts : List Token) → IsSome ts → IsMadeOf line ts → is_skipped line ≡ false
some_kept line [] some h = absurd some
some_kept line (t ∷ ts) some h = kept_tokens line t ts h

pub form_kept : (line : List ℕ) (f : Form) → HasForm line f → is_skipped line ≡ false
form_kept line f h = some_kept line h.0 (subst IsSome (sym h.2.same) (some_spelled h.2.callee f)) h.1

-- ---- names

first_tokens : (ts us : List Token) → AreTokens (ts ++ us) → AreTokens ts
first_tokens [] us h = tt
first_tokens (t ∷ ts) us h = (h.0, first_tokens ts us h.1)

last_tokens : (ts us : List Token) → AreTokens (ts ++ us) → AreTokens us
last_tokens [] us h = h
last_tokens (t ∷ ts) us h = last_tokens ts us h.1

named : (p : WrittenParameter) → AreTokens (spelled_parameter p) → IsNamed p
named (region_parameter a p) h = IsUtf8-word a h.0
named (type_parameter n p) h = IsUtf8-word n h.0

abbrev comma : List Token → List Token
comma other = sign 44 ∷ other

all_named : (ps : List WrittenParameter) → AreTokens (flat_map (λ other. sign 44 ∷ other) (map spelled_parameter ps))
    → AllByRecursion IsNamed ps
all_named [] h = tt
all_named (p ∷ ps) h =
    (named p (first_tokens (spelled_parameter p) _ h.1), all_named ps (last_tokens (spelled_parameter p) _ h.1))

parameters_named : (ps : List WrittenParameter) → AreTokens (spelled_parameters ps) → AllByRecursion IsNamed ps
parameters_named [] h = tt
parameters_named (p ∷ ps) h =
    let inside = first_tokens _ (sign 62 ∷ []) h.1 in
    (named p (first_tokens (spelled_parameter p) _ inside), all_named ps (last_tokens (spelled_parameter p) _ inside))

texts_spelled : (callee : List ℕ) (f : Form) → AreTokens (spelled_form callee f) → HasTexts f
texts_spelled callee (universal a) h = IsUtf8-word a h.1.0
texts_spelled callee (outlives a b) h = tt
texts_spelled callee (assert_line a b) h = tt
texts_spelled callee (further x) h = IsUtf8-word x h.1.0
texts_spelled callee (struct_line n ps has_drop fields) h =
    (IsUtf8-word n h.1.0, parameters_named ps (first_tokens (spelled_parameters ps) _ h.1.1))
texts_spelled callee (variable x t) h = tt
texts_spelled callee (blocks n) h = tt
texts_spelled callee (block n) h = tt
texts_spelled callee (at_point i) h = tt
texts_spelled callee end h = tt

-- the names that a line declares are UTF-8
pub texts_in : (line : List ℕ) (f : Form) → HasForm line f → HasTexts f
texts_in line f h = texts_spelled h.2.callee f (subst AreTokens h.2.same (made_of_tokens line h.0 h.1))

-- ---- how many parameters there are

listed_long : (ps : List WrittenParameter) → length ps ≤ length (flat_map comma (map spelled_parameter ps))
listed_long [] = omega arith
listed_long (p ∷ ps) =
    let more = flat_map comma (map spelled_parameter ps) in
    let e : flat_map comma (map spelled_parameter (p ∷ ps)) ≡ sign 44 ∷ (spelled_parameter p ++ more) = refl in
    omega (arith, listed_long ps, ap length e, length-append (spelled_parameter p) more)

-- parameters have as many tokens at least
parameters_long : (ps : List WrittenParameter) → length ps ≤ length (spelled_parameters ps)
parameters_long [] = omega arith
parameters_long (p ∷ ps) = grind (arith, listed_long, length-append)

few_spelled : (callee : List ℕ) (f : Form) → length (spelled_form callee f) ≤ most_bytes → HasFewParameters f
few_spelled callee (universal a) h = tt
few_spelled callee (outlives a b) h = tt
few_spelled callee (assert_line a b) h = tt
few_spelled callee (further x) h = tt
few_spelled callee (struct_line n ps has_drop fields) h = grind (arith, parameters_long, length-append)
few_spelled callee (variable x t) h = tt
few_spelled callee (blocks n) h = tt
few_spelled callee (block n) h = tt
few_spelled callee (at_point i) h = tt
few_spelled callee end h = tt

-- a line that isn't longer than a text may be has few parameters
pub few_parameters_in : (line : List ℕ) (f : Form) → length line ≤ most_bytes → HasForm line f → HasFewParameters f
few_parameters_in line f short h =
    few_spelled h.2.callee f (omega (arith, ap length h.2.same, few_made line h.0 h.1, short))
