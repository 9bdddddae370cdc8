-- A line is made of the tokens of its bytes, where their signs are signs, as those of a form are.
use Rattle.std.proofs.Common.{ℕ, Bool, true, false, List, [], ◌∷◌, ◌++◌, map, refl, sym, subst, Option, Some, None, arith}
use Rattle.std.specs.List.{flat_map}
use Rattle.nll_text.specs.Tokens.{Token, region, arrow, sign}
use Rattle.nll_types.specs.Places.{PlacePath}
use Rattle.nll_types.specs.Operands.{Operand, constant, copied, moved}
use Rattle.nll_types.specs.declared.place.Projection.{Projection}
use Rattle.nll_types.specs.declared.place.Projection.TheVariants.{Deref, Field}
use Rattle.nll_types.specs.declared.parameter.Parameter.{Parameter}
use Rattle.nll_types.specs.declared.parameter.Sign.{Sign}
use Rattle.nll_types.specs.declared.parameter.Sign.TheVariants.{Covariant, Contravariant, Invariant}
use Rattle.nll_body.specs.Statements.{Statement, assign, borrow, make, read, live, dead, goto, switch, call}
use Rattle.nll_body.specs.Statements as statements
use Rattle.nll_text.specs.LineTokens.{tokens_in}
use Rattle.nll_mir_grammar.specs.WrittenTypes.{WrittenName, WrittenType, WrittenTypes, Arguments, int, reference, tuple, named, function, none, more, no_argument, region_argument, type_argument, mutability, spelled, spelled_parts, spelled_more_parts, spelled_arguments, spelled_more_arguments}
use Rattle.nll_mir_grammar.specs.MirForms.{Form, outlives, assert_line, struct_line, variable, at_point, end, WrittenParameter, region_parameter, type_parameter, block_word, spelled_projection, spelled_place, spelled_operand, parted, in_parentheses, sign_token, dangling_mark, spelled_marks, spelled_parameter, spelled_parameters, drop_mark, spelled_exits, spelled_wheres, spelled_argument, spelled_statement, spelled_form, IsSpelled, HasForm}
use Rattle.nll_text.proofs.TokenLemmas.{IsReal, AreReal, made_are_in, in_make}

-- ---- the signs in a form are signs

real_append : (ts us : List Token) → AreReal ts → AreReal us → AreReal (ts ++ us)
real_append [] us h k = k
real_append (t ∷ ts) us h k = (h.0, real_append ts us h.1 k)

real_mutability : (m : Bool) → AreReal (mutability m)
real_mutability true = (tt, tt)
real_mutability false = tt

mutual
  real_type : (t : WrittenType) → AreReal (spelled t)
  real_type int = (tt, tt)
  real_type (reference r m t) =
      (refl, (tt, real_append (mutability m) (spelled t) (real_mutability m) (real_type t)))
  real_type (tuple ts) = (refl, real_parts ts)
  real_type (named n args) = (tt, real_arguments args)
  real_type (function ts t) =
      (tt, (refl, real_append (spelled_parts ts) (arrow ∷ spelled t) (real_parts ts) (tt, real_type t)))

  real_parts : (ts : WrittenTypes) → AreReal (spelled_parts ts)
  real_parts none = (refl, tt)
  real_parts (more t ts) = real_append (spelled t) (spelled_more_parts ts) (real_type t) (real_more_parts ts)

  real_more_parts : (ts : WrittenTypes) → AreReal (spelled_more_parts ts)
  real_more_parts none = (refl, tt)
  real_more_parts (more t ts) =
      (refl, real_append (spelled t) (spelled_more_parts ts) (real_type t) (real_more_parts ts))

  real_arguments : (ts : Arguments) → AreReal (spelled_arguments ts)
  real_arguments no_argument = tt
  real_arguments (region_argument r ts) = (refl, (tt, real_more_arguments ts))
  real_arguments (type_argument t ts) =
      (refl, real_append (spelled t) (spelled_more_arguments ts) (real_type t) (real_more_arguments ts))

  real_more_arguments : (ts : Arguments) → AreReal (spelled_more_arguments ts)
  real_more_arguments no_argument = (refl, tt)
  real_more_arguments (region_argument r ts) = (refl, (tt, real_more_arguments ts))
  real_more_arguments (type_argument t ts) =
      (refl, real_append (spelled t) (spelled_more_arguments ts) (real_type t) (real_more_arguments ts))

real_all : {A : Type 0} (f : A → List Token) (each : (a : A) → AreReal (f a)) (xs : List A) → AreReal (flat_map f xs)
real_all f each [] = tt
real_all f each (x ∷ xs) = real_append (f x) (flat_map f xs) (each x) (real_all f each xs)

abbrev comma : List Token → List Token
comma other = sign 44 ∷ other

real_listed : {A : Type 0} (f : A → List Token) (each : (a : A) → AreReal (f a)) (xs : List A)
    → AreReal (flat_map comma (map f xs))
real_listed f each [] = tt
real_listed f each (x ∷ xs) = (refl, real_append (f x) (flat_map comma (map f xs)) (each x) (real_listed f each xs))

real_parted : {A : Type 0} (f : A → List Token) (each : (a : A) → AreReal (f a)) (xs : List A)
    → AreReal (parted (map f xs))
real_parted f each [] = tt
real_parted f each (x ∷ xs) = real_append (f x) (flat_map comma (map f xs)) (each x) (real_listed f each xs)

real_parentheses : {A : Type 0} (f : A → List Token) (each : (a : A) → AreReal (f a)) (xs : List A)
    → AreReal (in_parentheses (map f xs))
real_parentheses f each xs = (refl, real_append (parted (map f xs)) (sign 41 ∷ []) (real_parted f each xs) (refl, tt))

real_projection : (p : Projection) → AreReal (spelled_projection p)
real_projection Deref = (refl, (refl, tt))
real_projection (Field k) = (refl, (tt, tt))

real_place : (p : PlacePath) → AreReal (spelled_place p)
real_place p = (tt, real_all spelled_projection real_projection p.projections)

real_operand : (op : Operand) → AreReal (spelled_operand op)
real_operand constant = (tt, tt)
real_operand (copied p) = (tt, real_place p)
real_operand (moved p) = (tt, real_place p)

real_sign : (s : Sign) → IsReal (sign_token s)
real_sign Covariant = refl
real_sign Contravariant = refl
real_sign Invariant = refl

real_mark : (d : Bool) → AreReal (dangling_mark d)
real_mark true = (refl, tt)
real_mark false = tt

real_marks : (p : Parameter) → AreReal (spelled_marks p)
real_marks p = (real_sign p.sign, real_mark p.may_dangle)

real_parameter : (p : WrittenParameter) → AreReal (spelled_parameter p)
real_parameter (region_parameter a p) = (tt, real_marks p)
real_parameter (type_parameter n p) = (tt, real_marks p)

real_parameters : (ps : List WrittenParameter) → AreReal (spelled_parameters ps)
real_parameters [] = tt
real_parameters (p ∷ ps) = (
  refl,
  real_append (parted (map spelled_parameter (p ∷ ps))) (sign 62 ∷ [])
      (real_parted spelled_parameter real_parameter (p ∷ ps)) (refl, tt),
)

real_drop : (d : Bool) → AreReal (drop_mark d)
real_drop true = (tt, tt)
real_drop false = tt

real_exits : (b : ℕ) (u : Option ℕ) → AreReal (spelled_exits b u)
real_exits b None = (tt, (tt, tt))
real_exits b (Some c) = (tt, (tt, (tt, (tt, tt))))

real_wheres : (ws : List (WrittenName × WrittenName)) → AreReal (spelled_wheres ws)
real_wheres [] = tt
real_wheres (w ∷ ws) = (
  tt,
  real_parted (λ (v : WrittenName × WrittenName). region v.0 ∷ sign 58 ∷ region v.1 ∷ []) (λ v. (tt, (refl, (tt, tt))))
      (w ∷ ws),
)

real_argument : (a : Operand × WrittenType) → AreReal (spelled_argument a)
real_argument a = real_append (spelled_operand a.0) (sign 58 ∷ spelled a.1) (real_operand a.0) (refl, real_type a.1)

real_blocks : (bs : List ℕ) → AreReal (map block_word bs)
real_blocks [] = tt
real_blocks (b ∷ bs) = (tt, real_blocks bs)

-- what stands behind the `:` of a call
real_result : (t : WrittenType) (ws : List (WrittenName × WrittenName)) (b : ℕ) (u : Option ℕ)
    → AreReal (spelled t ++ (spelled_wheres ws ++ spelled_exits b u))
real_result t ws b u =
    real_append (spelled t) (spelled_wheres ws ++ spelled_exits b u) (real_type t)
    (real_append (spelled_wheres ws) (spelled_exits b u) (real_wheres ws) (real_exits b u))

real_statement : (c : List ℕ) (s : Statement WrittenName WrittenType) → AreReal (spelled_statement c s)
real_statement c (assign p op) = real_append (spelled_place p) _ (real_place p) (refl, real_operand op)
real_statement c (borrow p r m q) =
    real_append (spelled_place p) _ (real_place p)
    (refl, (refl, (tt, real_append (mutability m) (spelled_place q) (real_mutability m) (real_place q))))
real_statement c (make p t ops) = grind (arith, real_append, real_place, real_type, real_parentheses, real_operand)
real_statement c (read p) = (tt, real_place p)
real_statement c (live x) = (tt, (tt, tt))
real_statement c (dead x) = (tt, (tt, tt))
real_statement c (goto b) = (tt, (tt, tt))
real_statement c (switch op bs) =
    (tt, real_append (spelled_operand op) (map block_word bs) (real_operand op) (real_blocks bs))
real_statement c (statements.drop x b u) = (tt, (tt, real_exits b u))
real_statement c (call p args t ws b u) =
    grind (arith, real_append, real_place, real_parentheses, real_argument, real_result)
real_statement c _ = (tt, tt)

pub real_form : (c : List ℕ) (f : Form) → AreReal (spelled_form c f)
real_form c (outlives a b) = (tt, (tt, (tt, tt)))
real_form c (assert_line a b) = (tt, (tt, (refl, (tt, tt))))
real_form c (struct_line n ps d ts) = (
  tt,
  (
    tt,
    real_append (spelled_parameters ps) (drop_mark d ++ spelled (tuple ts)) (real_parameters ps)
        (real_append (drop_mark d) (spelled (tuple ts)) (real_drop d) (real_type (tuple ts))),
  ),
)
real_form c (variable x t) = (tt, (tt, (refl, real_type t)))
real_form c (at_point s) = real_statement c s
real_form c end = (tt, tt)
real_form c _ = (tt, (tt, tt))

-- ---- a line has the form that the tokens in it spell

pub has_form : (line : List ℕ) (f : Form) → IsSpelled (tokens_in line) f → HasForm line f
has_form line f s =
    (tokens_in line, in_make (tokens_in line) line refl (subst AreReal (sym s.same) (real_form s.callee f)), s)

pub spells_form : (line : List ℕ) (f : Form) → HasForm line f → IsSpelled (tokens_in line) f
spells_form line f h = subst (λ (ts : List Token). IsSpelled ts f) (sym (made_are_in line h.0 h.1)) h.2
