-- The places of a call's operands.
use Rattle.std.proofs.Common.{◌≡◌, ℕ, suc, ◌+◌, ◌<◌, ◌≤◌, List, [], ◌∷◌, ◌++◌, length, map, drop, get_or, refl, sym, ap, ◌∙◌, append_assoc}
use Rattle.std.proofs.Math.Numerals.{add-one}
use Rattle.std.proofs.Math.Seq.{drop-cons}
use Rattle.std.proofs.lemmas.List.{append-nil, drop_all, map-append}
use Rattle.std.specs.List.{flat_map}
use Rattle.nll_types.specs.Operands.{Operand}
use Rattle.nll_body.specs.Effects.{operands_of, place_in}

pub operands_same : {X T : Type 0} (f : X → Operand) (args : List (X × T))
    → map (λ a. f a.0) args ≡ operands_of (map (λ a. (f a.0, a.1)) args)
operands_same f [] = refl
operands_same f (a ∷ args) = ap (λ ops. f a.0 ∷ ops) (operands_same f args)

-- the variables of the operands' places, and those of what is left of them
module _ {X : Type 0} (h : X → Operand) where
  abbrev pub variables_of : List X → List ℕ
  variables_of xs = map (λ p. p.variable) (flat_map place_in (map h xs))

  variables_first : (x : X) (xs : List X)
      → variables_of (x ∷ xs) ≡ map (λ p. p.variable) (place_in (h x)) ++ variables_of xs
  variables_first x xs = map-append (λ p. p.variable) (place_in (h x)) (flat_map place_in (map h xs))

  pub variables_more : (used longer whole : List ℕ) (xs : List X) (i : ℕ) (x : X) → i < length xs → x ≡ get_or xs i x
      → longer ≡ used ++ map (λ p. p.variable) (place_in (h x))
      → used ++ variables_of (drop i xs) ≡ whole → longer ++ variables_of (drop (i + 1) xs) ≡ whole
  variables_more used longer whole xs i x l is e told =
      let rest : drop i xs ≡ x ∷ drop (i + 1) xs = drop-cons xs i x l ∙ ap (λ y. y ∷ drop (suc i) xs) (sym is)
      ∙ ap (λ n. x ∷ drop n xs) (sym (add-one i)) in
      ap (λ ns. ns ++ variables_of (drop (i + 1) xs)) e
      ∙ (append_assoc used _ _
      ∙ (ap (λ ns. used ++ ns) (sym (variables_first x (drop (i + 1) xs)))
      ∙ (ap (λ ys. used ++ variables_of ys) (sym rest) ∙ told)))

  pub variables_all : (used whole : List ℕ) (xs : List X) (i : ℕ) → length xs ≤ i
      → used ++ variables_of (drop i xs) ≡ whole → used ≡ whole
  variables_all used whole xs i l told = sym (append-nil used)
      ∙ (ap (λ ys. used ++ variables_of ys) (sym (drop_all i xs l)) ∙ told)
