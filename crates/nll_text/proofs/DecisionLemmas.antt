-- What holds or doesn't: UTF-8, and whether two lists of tokens are one.
use Rattle.std.proofs.Common.{◌≡◌, ◌⊎◌, inl, inr, ⊎_elim, ℕ, Bool, true, false, List, [], ◌∷◌, refl, ap, ◌∙◌}
use Rattle.std.specs.Bool.{Decides}
use Rattle.std.specs.Str.{IsUtf8, is_utf8, bytes_eq}
use Rattle.std.proofs.lemmas.Bool.{false≢true, cases_eq}
use Rattle.std.proofs.lemmas.Slice.Eq.{bytes_eq-Decides}
use Rattle.std.proofs.lemmas.Str.{IsUtf8-from_is_utf8, is_utf8-from_IsUtf8}
use Rattle.nll_text.specs.Tokens.{Token, word, region, arrow, sign}

-- what a test decides holds or doesn't
pub holds_or_not : {P : Type 0} (r : Bool) → Decides r P → P ⊎ (P → ⊥)
holds_or_not true d = inl (d.0 refl)
holds_or_not false d = inr (λ p. false≢true (d.1 p))

pub utf8_or_not : (bytes : List ℕ) → IsUtf8 bytes ⊎ (IsUtf8 bytes → ⊥)
utf8_or_not bytes = holds_or_not (is_utf8 bytes) (IsUtf8-from_is_utf8 bytes, is_utf8-from_IsUtf8 bytes)

-- equal lists have equal first elements and equal rests
pub same_first : {X : Type 0} {x y : X} {xs ys : List X} → x ∷ xs ≡ y ∷ ys → x ≡ y
same_first e = cc

pub same_rest : {X : Type 0} {x y : X} {xs ys : List X} → x ∷ xs ≡ y ∷ ys → xs ≡ ys
same_rest e = cc

token_or_not : (t u : Token) → (t ≡ u) ⊎ (t ≡ u → ⊥)
token_or_not (word a) (word b) =
    ⊎_elim (λ e. inl (ap word e)) (λ no. inr (λ e. no cc)) (holds_or_not (bytes_eq a b) (bytes_eq-Decides a b))
token_or_not (region a) (region b) =
    ⊎_elim (λ e. inl (ap region e)) (λ no. inr (λ e. no cc)) (holds_or_not (bytes_eq a b) (bytes_eq-Decides a b))
token_or_not arrow arrow = inl refl
token_or_not (sign a) (sign b) = ⊎_elim (λ e. inl (ap sign e)) (λ no. inr (λ e. no cc)) (cases_eq a b)
token_or_not t u = inr (λ e. cc)

pub tokens_or_not : (ts us : List Token) → (ts ≡ us) ⊎ (ts ≡ us → ⊥)
tokens_or_not [] [] = inl refl
tokens_or_not [] (u ∷ us) = inr (λ e. cc)
tokens_or_not (t ∷ ts) [] = inr (λ e. cc)
tokens_or_not (t ∷ ts) (u ∷ us) = ⊎_elim
    (λ e. ⊎_elim (λ k. inl (ap (λ (x : Token). x ∷ ts) e ∙ ap (λ (xs : List Token). u ∷ xs) k))
    (λ no. inr (λ k. no (same_rest k))) (tokens_or_not ts us))
    (λ no. inr (λ e. no (same_first e)))
    (token_or_not t u)
