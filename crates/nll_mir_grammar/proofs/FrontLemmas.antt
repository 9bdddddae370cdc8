-- Tokens that are apart, and with which tokens types begin.
use Rattle.std.proofs.Common.{◌≡◌, ℕ, true, false, eqb, List, ◌∷◌, ◌++◌, refl, sym, ap, ◌∙◌, subst}
use Rattle.std.specs.Prelude.{codes}
use Rattle.std.proofs.lemmas.Bool.{eq-eqb, false≢true}
use Rattle.nll_text.specs.Tokens.{Token, word, region, sign}
use Rattle.nll_mir_grammar.specs.WrittenTypes.{WrittenName, WrittenType, int, reference, tuple, named, function, is_capital, spelled, HasNames}

-- the first byte of a word, or 0
first_byte : Token → ℕ
first_byte (word (c ∷ cs)) = c
first_byte _ = 0

pub int_no_name : is_capital (codes "int") ≡ true → ⊥
int_no_name h = (let e : false ≡ true = h in cc)

pub mut_no_name : is_capital (codes "mut") ≡ true → ⊥
mut_no_name h = (let e : false ≡ true = h in cc)

pub bytes_apart : codes "mut" ≡ codes "int" → ⊥
unfolding first_byte
bytes_apart e = false≢true (ap (λ l. eqb (first_byte (word l)) 105) e)

pub fn_no_name : is_capital (codes "fn") ≡ true → ⊥
fn_no_name h = (let e : false ≡ true = h in cc)

pub fn_no_int : codes "fn" ≡ codes "int" → ⊥
unfolding first_byte
fn_no_int e = false≢true (ap (λ l. eqb (first_byte (word l)) 105) e)

pub mut_no_fn : codes "mut" ≡ codes "fn" → ⊥
unfolding first_byte
mut_no_fn e = false≢true (ap (λ l. eqb (first_byte (word l)) 102) e)

sign_is : (a b : ℕ) → sign a ≡ sign b → a ≡ b
sign_is a b e = cc

-- two signs
pub apart : (a b : ℕ) → eqb a b ≡ false → sign a ≡ sign b → ⊥
apart a b n e = false≢true (sym n ∙ eq-eqb a b (sign_is a b e))

pub no_mut : (t : WrittenType) (a rest : List Token) → HasNames t → spelled t ++ a ≡ word (codes "mut") ∷ rest → ⊥
no_mut int a rest n e = bytes_apart (let h : codes "mut" ≡ codes "int" = cc in h)
no_mut (reference q m t) a rest n e = cc
no_mut (tuple ts) a rest n e = cc
no_mut (function ts t) a rest n e = mut_no_fn (let h : codes "mut" ≡ codes "fn" = cc in h)
no_mut (named s us) a rest n e = mut_no_name (let h : s ≡ codes "mut" = cc in subst (λ z. is_capital z ≡ true) h n.0)

pub no_closing : (t : WrittenType) (a rest : List Token) → spelled t ++ a ≡ sign 41 ∷ rest → ⊥
no_closing (reference q m t) a rest e = apart 38 41 refl (let h : sign 38 ≡ sign 41 = cc in h)
no_closing (tuple ts) a rest e = apart 40 41 refl (let h : sign 40 ≡ sign 41 = cc in h)
no_closing _ a rest e = cc

pub no_name_of : (t : WrittenType) (a rest : List Token) (q : WrittenName) → spelled t ++ a ≡ region q ∷ rest → ⊥
no_name_of int a rest q e = cc
no_name_of _ a rest q e = cc
