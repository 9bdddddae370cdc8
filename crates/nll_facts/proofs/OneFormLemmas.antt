-- A line of a facts text has one form.
use Rattle.std.proofs.Common.{map, ◌⊎◌, ⊎_elim, ◌≡◌, ℕ, ◌<◌, ◌^◌, cond, Bool, true, false, List, [], ◌∷◌, refl, ap, ◌∙◌, subst, arith}
use Rattle.std.specs.Prelude.{codes}
use Rattle.std.specs.List.{AllByRecursion}
use Rattle.std.specs.Str.{bytes_eq}
use Rattle.std.specs.Str.Parse.{AllDigits, digits_value}
use Rattle.std.specs.Fmt.{decimal}
use Rattle.std.proofs.lemmas.Bool.{cases_Bool}
use Rattle.std.proofs.lemmas.Fmt.{decimal_is_IsNumeral}
use Rattle.std.proofs.lemmas.Slice.Eq.{bytes_eq-Decides}
use Rattle.nll_text.specs.Tokens.{Token, word, region}
use Rattle.nll_text.proofs.NumberLemmas.{no_digits}
use Rattle.nll_problem.specs.declared.at.At.{At}
use Rattle.nll_problem.specs.declared.at.At.TheVariants.{All, Point}
use Rattle.nll_format.specs.Parts.{Name, IsSmall, token_of}
use Rattle.nll_format.proofs.PartLemmas as lemmas
use Rattle.nll_format.proofs.PartLemmas.{printed}
use Rattle.nll_facts.specs.FactsForms.{FactsForm, points, universal, outlives, further, next, return, base, constraint, end, HasFactsForm, facts_parts}

-- ---- a line has one form

-- the number that the first token prints
number_in : List Token → ℕ
number_in (word w ∷ ts) = digits_value 10 w
number_in _ = 0

-- the name that the first token has
name_in : List Token → Name
name_in (region x ∷ ts) = x
name_in _ = []

-- the tokens behind the first
behind : List Token → List Token
behind [] = []
behind (t ∷ ts) = ts

-- where a constraint holds by the first token: at all points, or from the point that it prints
place_in : List Token → At
place_in (word w ∷ ts) = cond (bytes_eq w (codes "all")) All (Point (digits_value 10 w))
place_in _ = All

-- a number isn't printed as the word for all points
number_apart : (p : ℕ) → p < 10 ^ 9 → bytes_eq (decimal p) (codes "all") ≡ false
number_apart p small = ⊎_elim
    (λ (same : bytes_eq (decimal p) (codes "all") ≡ true).
    let e : decimal p ≡ codes "all" = (bytes_eq-Decides (decimal p) (codes "all")).0 same in
    let digits : AllDigits 10 (codes "all") =
    subst (AllDigits 10) e (decimal_is_IsNumeral p (omega (arith, small))).0.1 in
    absurd (no_digits (codes "all") 0 (omega arith) refl digits))
    (λ other. other)
    (cases_Bool (bytes_eq (decimal p) (codes "all")))

-- the form that tokens spell
unspelled : List Token → FactsForm
unspelled (word w ∷ ts) =
    cond (bytes_eq w (codes "points")) (points (number_in ts))
    (cond (bytes_eq w (codes "universal")) (universal (name_in ts))
    (cond (bytes_eq w (codes "outlives")) (outlives (name_in ts) (name_in (behind ts)))
    (cond (bytes_eq w (codes "region")) (further (name_in ts))
    (cond (bytes_eq w (codes "next")) (next (number_in ts) (number_in (behind ts)))
    (cond (bytes_eq w (codes "return")) (return (number_in ts))
    (cond (bytes_eq w (codes "base")) (base (name_in ts) (number_in (behind ts)))
    (cond (bytes_eq w (codes "constraint"))
    (constraint (name_in ts) (name_in (behind ts)) (place_in (behind (behind ts))))
    end)))))))
unspelled _ = end

unspelled_spelled : (f : FactsForm) → AllByRecursion IsSmall (facts_parts f)
    → unspelled (map token_of (facts_parts f)) ≡ f
unfolding unspelled number_in name_in place_in behind
unspelled_spelled (points n) small = ap points (printed n small.1.0)
unspelled_spelled (universal a) small = refl
unspelled_spelled (outlives a b) small = refl
unspelled_spelled (further x) small = refl
unspelled_spelled (next p q) small = ap (λ (n : ℕ). next n (digits_value 10 (decimal q))) (printed p small.1.0)
    ∙ ap (λ (n : ℕ). next p n) (printed q small.1.1.0)
unspelled_spelled (return p) small = ap return (printed p small.1.0)
unspelled_spelled (base x p) small = ap (λ (n : ℕ). base x n) (printed p small.1.1.0)
unspelled_spelled (constraint a b All) small = refl
unspelled_spelled (constraint a b (Point p)) small =
    ap (λ (c : Bool). constraint a b (cond c All (Point (digits_value 10 (decimal p))))) (number_apart p small.1.1.1.0)
    ∙ ap (λ (n : ℕ). constraint a b (Point n)) (printed p small.1.1.1.0)
unspelled_spelled end small = refl

pub one_form : (line : List ℕ) (f g : FactsForm) → HasFactsForm line f → HasFactsForm line g → f ≡ g
one_form = lemmas.one_form FactsForm facts_parts unspelled unspelled_spelled

pub form_or_none : (line : List ℕ) → ((f : FactsForm) × HasFactsForm line f) ⊎ ((f : FactsForm) → HasFactsForm line f
    → ⊥)
form_or_none = lemmas.form_or_none FactsForm facts_parts unspelled unspelled_spelled
