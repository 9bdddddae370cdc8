-- Grammars that are made of others, and what readers answer.
-- Source: project's choice. Only private contracts cite this file.
use Rattle.std.specs.Prelude.{◌≡◌, ◌<◌, List, [], ◌∷◌, ◌++◌, map, length}
use Rattle.std.specs.Prelude.{Option, Some, None, Result, Ok, Err}
use Rattle.std.specs.List.{AllByRecursion, flat_map}
use Rattle.nll_text.specs.Tokens.{Token, sign}
use Rattle.nll_text.specs.Grammars.{Grammar, Begins, HasNone}
use Rattle.nll_mir_grammar.specs.MirForms.{parted, in_parentheses}

-- tokens begin with one value at most
abbrev pub IsOne : {A : Type 0} → Grammar A → Type 0
IsOne {A} g =
    (ts : List Token) (a b : A) (r s : List Token) → Begins g ts a r → Begins g ts b s
    → (a ≡ b) × (r ≡ s)

-- ---- grammars made of others

-- a token, and then a value
abbrev pub behind_token : {A : Type 0} → Token → Grammar A → Grammar A
behind_token t g = record {
  spells = λ a. t ∷ g.spells a;
  IsAllowed = g.IsAllowed;
  MayFollow = g.MayFollow;
}

-- nothing
abbrev pub empty : Grammar (Unit {0})
empty = record { spells = λ a. []; IsAllowed = λ a. Unit {0}; MayFollow = λ a r. Unit {0} }

-- a value, and then another
abbrev pub pair : {A B : Type 0} → Grammar A → Grammar B → Grammar (A × B)
pair g h = record {
  spells = λ p. g.spells p.0 ++ h.spells p.1;
  IsAllowed = λ p. g.IsAllowed p.0 × h.IsAllowed p.1;
  MayFollow = λ p r. h.MayFollow p.1 r;
}

-- values, as many as there are
abbrev pub many : {A : Type 0} → Grammar A → Grammar (List A)
many g = record {
  spells = λ xs. flat_map g.spells xs;
  IsAllowed = λ xs. AllByRecursion g.IsAllowed xs;
  MayFollow = λ xs r. HasNone g r;
}

-- these may follow the last of the values
abbrev pub MayFollowLast : {A : Type 0} → Grammar A → A → List A → List Token → Type 0
MayFollowLast g a [] r = g.MayFollow a r
MayFollowLast g a (b ∷ bs) r = MayFollowLast g b bs r

-- these may follow values that are separated by commas
abbrev pub MayFollowAll : {A : Type 0} → Grammar A → List A → List Token → Type 0
MayFollowAll g [] r = Unit {0}
MayFollowAll g (a ∷ xs) r = MayFollowLast g a xs r × HasNone (behind_token (sign 44) g) r

-- values separated by commas, at least one and as many as there are
abbrev pub commas : {A : Type 0} → Grammar A → Grammar (List A)
commas g = record {
  spells = λ xs. parted (map g.spells xs);
  IsAllowed = λ xs. (0 < length xs) × AllByRecursion g.IsAllowed xs;
  MayFollow = MayFollowAll g;
}

-- the token may follow each value
abbrev pub IsBefore : {A : Type 0} → Token → Grammar A → Type 0
IsBefore {A} t g = (a : A) (r : List Token) → g.IsAllowed a → g.MayFollow a (t ∷ r)

-- Values separated by commas can be read up to the closing token.
pub record IsListable {A : Type 0} (g : Grammar A) (c : Token) : Type 0 where
  pub one : IsOne g
  pub comma : IsBefore (sign 44) g
  pub closing : IsBefore c g
  pub other : c ≡ sign 44 → ⊥
  -- no value begins with the closing token
  pub opens : (a : A) (r s : List Token) → g.IsAllowed a → g.spells a ++ r ≡ c ∷ s → ⊥

-- values separated by commas, between `(` and `)`
abbrev pub parentheses : {A : Type 0} → Grammar A → Grammar (List A)
parentheses g = record {
  spells = λ xs. in_parentheses (map g.spells xs);
  IsAllowed = λ xs. AllByRecursion g.IsAllowed xs;
  MayFollow = λ xs r. Unit {0};
}

-- a value by its kind
abbrev pub by_kind :
    {K : Type 0} → (Payload : K → Type 0) → ((k : K) → Grammar (Payload k))
    → Grammar ((k : K) × Payload k)
by_kind Payload g = record {
  spells = λ p. (g p.0).spells p.1;
  IsAllowed = λ p. (g p.0).IsAllowed p.1;
  MayFollow = λ p r. (g p.0).MayFollow p.1 r;
}

-- ---- what readers answer

-- what was read, with a value that comes before it
abbrev pub both :
    {A B R E : Type 0} → A → Result (Option (B × R)) E → Result (Option ((A × B) × R)) E
both a (Ok (Some (b, r))) = Ok (Some ((a, b), r))
both a (Ok None) = Ok None
both a (Err e) = Err e

-- what was read at the front, where anything was, comes after the other values of a list
abbrev pub Puts :
    {A V R : Type 0} → Grammar A → (V → A) → (R → List Token) → List Token → List V → List V
    → Option R → Type 0
Puts g value after ts old new None = HasNone g ts × (new ≡ old)
Puts {A} g value after ts old new (Some rest) =
    (a : A) × (map value new ≡ map value old ++ a ∷ []) × Begins g ts a (after rest)
