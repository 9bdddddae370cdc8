-- Grammars: how values are spelled by tokens at the front of others.
-- Source: project's choice.
use Rattle.std.specs.Prelude.{◌≡◌, ℕ, ◌<◌, ◌^◌, List, [], ◌∷◌, ◌++◌}
use Rattle.std.specs.Fmt.{decimal}
use Rattle.nll_text.specs.Tokens.{Token, word, region}

-- How values are spelled, which of them are allowed, and what may follow each.
pub record Grammar (A : Type 0) : Type 1 where
  pub spells : A → List Token
  pub IsAllowed : A → Type 0
  pub MayFollow : A → List Token → Type 0

-- The tokens begin with the value, and after it come others.
pub record Begins {A : Type 0} (g : Grammar A) (ts : List Token) (a : A) (rest : List Token) :
    Type 0 where
  pub joined : ts ≡ g.spells a ++ rest
  pub allowed : g.IsAllowed a
  pub follows : g.MayFollow a rest

-- the tokens begin with no value
abbrev pub HasNone : {A : Type 0} → Grammar A → List Token → Type 0
HasNone {A} g ts = (a : A) (rest : List Token) → Begins g ts a rest → ⊥

-- the token doesn't come next
abbrev pub IsNotNext : Token → List Token → Type 0
IsNotNext t ts = (rest : List Token) → ts ≡ t ∷ rest → ⊥

-- ---- single tokens

-- the name of a region
abbrev pub regions : Grammar (List ℕ)
regions = record {
  spells = λ x. region x ∷ [];
  IsAllowed = λ x. Unit {0};
  MayFollow = λ x r. Unit {0};
}

-- any word
abbrev pub any_words : Grammar (List ℕ)
any_words = record {
  spells = λ w. word w ∷ [];
  IsAllowed = λ w. Unit {0};
  MayFollow = λ w r. Unit {0};
}

-- numbers of at most nine digits, after these bytes in one word
abbrev pub prefixed : List ℕ → Grammar ℕ
prefixed front = record {
  spells = λ n. word (front ++ decimal n) ∷ [];
  IsAllowed = λ n. n < 10 ^ 9;
  MayFollow = λ n r. Unit {0};
}

-- a number
abbrev pub numbers : Grammar ℕ
numbers = prefixed []
