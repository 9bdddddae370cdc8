-- What is judged of parts of a statement, put together.
use Rattle.std.proofs.Common.{◌≡◌, ◌<◌, Bool, true, false, Option, List, [], ◌∷◌, ◌++◌, length, get_or, refl, sym, ap, ◌∙◌, arith}
use Rattle.std.specs.Prelude.{◌&&◌, option_map, unwrap_or}
use Rattle.std.proofs.Math.Bool.{and-true, and-false, and_comm}
use Rattle.std.proofs.lemmas.List.Folds.{list_all-append}
use Rattle.nll_types.specs.Types.{TypeTree}
use Rattle.nll_types.specs.Structs.{Struct}
use Rattle.nll_types.specs.Places.{small_behind, small_prefixes}
use Rattle.nll_types.specs.Rows.{shape_numbers}
use Rattle.nll_types.specs.Shapes.{is_small_shape}
use Rattle.nll_types.specs.Table.{shape_in}
use Rattle.nll_types.specs.Tables.{HaveShapes}
use Rattle.nll_body.specs.Judging.{IsJudged}
use Rattle.nll_body.specs.declared.judgement.Judgement.{Judgement}
use Rattle.nll_types.specs.declared.node.Node.{Node}
use Rattle.nll_types.specs.declared.typed.Typed.{Typed}
use Rattle.nll_types.proofs.NumberLemmas.{no_variable, variable_there}
use Rattle.nll_body.proofs.MeetingLemmas.{small_agrees}
use Rattle.nll_body.specs.Typing.{agree, pairs_agree}

pub and_assoc : (x y z : Bool) → (x && (y && z)) ≡ ((x && y) && z)
and_assoc true y z = refl
and_assoc false y z = refl

pub and_swap : (a b c d : Bool) → ((a && b) && (c && d)) ≡ ((a && c) && (b && d))
and_swap true true c d = refl
and_swap true false true d = refl
and_swap true false false d = refl
and_swap false b c d = refl

pub both_judged : (f s g t : Bool) (one other j : Judgement) → IsJudged f s one → IsJudged g t other
    → j.fits ≡ (one.fits && other.fits) → j.small ≡ (one.small && other.small) → IsJudged (f && g) (s && t) j
both_judged f s g t one other j a b e d = record {
  fits = e ∙ rw (a.fits, b.fits) refl;
  fits_small = d ∙ rw (a.fits_small, b.fits_small) (and_swap f s g t);
}

-- the type of the return place
pub return_small : (structs : List Struct) (ns : List Node) (vs : List Typed) (ts : List TypeTree)
    → HaveShapes ns (shape_numbers vs) ts → 0 < length vs
    → is_small_shape (shape_in ns (get_or vs 0 no_variable).shape)
    ≡ small_prefixes structs ts (record { variable = 0; projections = [] })
return_small structs ns vs ts h l =
    let t = variable_there ns vs ts 0 h l in
    small_agrees t.0 _ t.2
    ∙ ap (λ (o : Option TypeTree). unwrap_or (option_map (small_behind structs []) o) true) (sym t.1)

-- ---- pairs of a statement

-- one pair
pub one_agrees : (t u : Option TypeTree) → agree t u ≡ (pairs_agree ((t, u) ∷ []) && true)
one_agrees t u = sym (and-true (agree t u)) ∙ sym (and-true (agree t u && true))

-- pairs, and that of what goes to the place that is written
pub last_agrees : (pairs : List (Option TypeTree × Option TypeTree)) (t u : Option TypeTree)
    → (pairs_agree pairs && agree t u) ≡ (pairs_agree (pairs ++ (t, u) ∷ []) && true)
last_agrees pairs t u =
    ap (λ (z : Bool). pairs_agree pairs && z) (sym (and-true (agree t u)))
    ∙ sym (list_all-append (λ (x : Option TypeTree × Option TypeTree). agree x.0 x.1) pairs ((t, u) ∷ []))
    ∙ sym (and-true (pairs_agree (pairs ++ (t, u) ∷ [])))

-- ---- a row of parts

-- what is judged so far, and what is left to judge, make up the whole
pub record IsSoFar (judged : Judgement) (left_fits left_small whole_fits whole_small : Bool) : Type 0 where
  pub agrees : (judged.fits && left_fits) ≡ whole_fits
  pub smalls : (judged.small && (left_fits && left_small)) ≡ (whole_fits && whole_small)

pub so_far_more : (j part next : Judgement)
    (f s left_fits left_small rest_fits rest_small whole_fits whole_small : Bool)
    → IsSoFar j left_fits left_small whole_fits whole_small → IsJudged f s part
    → left_fits ≡ (f && rest_fits) → left_small ≡ (s && rest_small)
    → next.fits ≡ (j.fits && part.fits) → next.small ≡ (j.small && part.small)
    → IsSoFar next rest_fits rest_small whole_fits whole_small
so_far_more j part next f s left_fits left_small rest_fits rest_small whole_fits whole_small far is a b c d = record {
  agrees = rw (c, is.fits) (sym (and_assoc j.fits f rest_fits) ∙ ap (λ (z : Bool). j.fits && z) (sym a) ∙ far.agrees);
  smalls = rw (d, is.fits_small) (sym (and_assoc j.small (f && s) (rest_fits && rest_small))
      ∙ ap (λ (z : Bool). j.small && z) (and_swap f s rest_fits rest_small
      ∙ ap (λ (z : Bool). z && (s && rest_small)) (sym a) ∙ ap (λ (z : Bool). left_fits && z) (sym b))
      ∙ far.smalls);
}

pub so_far_all : (j : Judgement) (f s : Bool) → IsSoFar j true true f s → IsJudged f s j
so_far_all j f s far =
    record { fits = sym (and-true j.fits) ∙ far.agrees; fits_small = sym (and-true j.small) ∙ far.smalls }

pub so_far_as : {j : Judgement} {a b c d f s : Bool} → a ≡ c → b ≡ d → IsSoFar j a b f s → IsSoFar j c d f s
so_far_as {j} {a} {b} {c} {d} {f} {s} x y far = record {
  agrees = ap (λ (z : Bool). j.fits && z) (sym x) ∙ far.agrees;
  smalls = ap (λ (z : Bool). j.small && (z && d)) (sym x) ∙ ap (λ (z : Bool). j.small && (a && z)) (sym y) ∙ far.smalls;
}

-- ---- orders of parts

-- the variables of the operands, and that of the place that is written
pub target_first : (sources given target judged : Bool) → given ≡ (target && true) → judged ≡ (sources && given)
    → judged ≡ (target && sources)
target_first sources given target judged g j = j ∙ (ap (λ (z : Bool). sources && z) g ∙ swapped sources target)
  where
    swapped : (a b : Bool) → (a && (b && true)) ≡ (b && a)
    swapped a b = grind (arith, and-true, and_comm)

pub make_order : (places parts written target : Bool)
    → ((places && parts) && (written && target)) ≡ (((written && true) && (target && places)) && parts)
make_order places parts true true = and-true (places && parts)
make_order places parts true false = and-false (places && parts)
make_order places parts false target = and-false (places && parts)

pub call_order : (places inputs written target : Bool)
    → ((places && inputs) && (written && target)) ≡ (((inputs && (written && true)) && (target && places)) && true)
call_order true inputs written target = grind (arith, and-true, and_assoc)
call_order false inputs written target = grind (arith, and-false)

pub borrow_order : (source target : Bool) → (source && target) ≡ ((true && (target && (source && true))) && true)
borrow_order source target = grind (arith, and-true, and_comm)

pub return_order : (place : Bool) → place ≡ ((true && (place && true)) && true)
return_order place = grind (arith, and-true)
