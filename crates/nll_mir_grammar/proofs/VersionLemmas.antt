-- Which lines a version has, one part of a line after another.
use Rattle.std.proofs.Common.{◌≡◌, ℕ, ◌+◌, ◌<◌, ◌≤◌, Bool, true, false, List, [], ◌∷◌, ◌++◌, length, get_or, map, drop, refl, sym, ap, ◌∙◌}
use Rattle.std.specs.Prelude.{◌&&◌}
use Rattle.std.specs.List.{list_all}
use Rattle.std.proofs.Math.Numerals.{add-one}
use Rattle.std.proofs.Math.Seq.{drop-cons}
use Rattle.std.proofs.lemmas.List.{drop_all}
use Rattle.nll_types.specs.Operands.{Operand}
use Rattle.nll_types.specs.declared.operand.Operand.{Operand as Written}
use Rattle.nll_mir_grammar.specs.WrittenTypes.{WrittenType}
use Rattle.nll_mir_grammar.specs.TypeTexts.{written}
use Rattle.nll_mir_grammar.specs.declared.type_text.TypePiece.{TypePiece}
use Rattle.nll_mir_grammar.specs.Lines.{argument_of}

-- whether all of a row pass, of which the first ones did
module _ {A B : Type 0} (f : A → B) (p : B → Bool) where
  next : (xs : List A) (i : ℕ) (x d : A) → i < length xs → x ≡ get_or xs i d
      → list_all p (map f (drop i xs)) ≡ (p (f x) && list_all p (map f (drop (i + 1) xs)))
  next xs i x d l e =
      let rest : drop i xs ≡ get_or xs i d ∷ drop (i + 1) xs = rw add-one (drop-cons xs i d l) in
      ap (λ (ys : List A). list_all p (map f ys)) (rest ∙ ap (λ z. z ∷ drop (i + 1) xs) (sym e))

  pub all_more : (xs : List A) (i : ℕ) (x d : A) → i < length xs → x ≡ get_or xs i d → p (f x) ≡ true
      → list_all p (map f (drop i xs)) ≡ list_all p (map f xs)
      → list_all p (map f (drop (i + 1) xs)) ≡ list_all p (map f xs)
  all_more xs i x d l e passes told =
      sym (next xs i x d l e ∙ ap (λ b. b && list_all p (map f (drop (i + 1) xs))) passes) ∙ told

  pub not_all : (xs : List A) (i : ℕ) (x d : A) → i < length xs → x ≡ get_or xs i d → p (f x) ≡ false
      → list_all p (map f (drop i xs)) ≡ list_all p (map f xs) → false ≡ list_all p (map f xs)
  not_all xs i x d l e fails told = sym (next xs i x d l e ∙ ap (λ b. b && list_all p (map f (drop (i + 1) xs))) fails)
      ∙ told

  pub all_passed : (xs : List A) (i : ℕ) → length xs ≤ i → list_all p (map f (drop i xs)) ≡ list_all p (map f xs)
      → true ≡ list_all p (map f xs)
  all_passed xs i past told = ap (λ (ys : List A). list_all p (map f ys)) (sym (drop_all i xs past)) ∙ told

pub and_true : (a : Bool) → (a && true) ≡ a
and_true true = refl
and_true false = refl

-- one more at the end of a row
pub all_push : {A : Type 0} (p : A → Bool) (xs : List A) (x : A) → list_all p (xs ++ x ∷ []) ≡ (list_all p xs && p x)
all_push p [] x = and_true (p x)
all_push p (y ∷ xs) x = ap (λ b. p y && b) (all_push p xs x) ∙ and_rest (p y) (list_all p xs) (p x)
  where
    and_rest : (a b c : Bool) → (a && (b && c)) ≡ ((a && b) && c)
    and_rest true b c = refl
    and_rest false b c = refl

-- the types of a call's parameters
pub call_types : (args : List (Written × List TypePiece))
    → map (λ (a : Operand × WrittenType). a.1) (map argument_of args)
    ≡ map (λ (a : Written × List TypePiece). written a.1) args
call_types [] = refl
call_types (a ∷ args) = ap (λ ts. written a.1 ∷ ts) (call_types args)
