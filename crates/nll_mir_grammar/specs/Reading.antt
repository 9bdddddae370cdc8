-- What it means that tokens begin with a type. Source: project's choice.
use Rattle.std.specs.Prelude.{◌≡◌, List}
use Rattle.nll_text.specs.Tokens.{Token}
use Rattle.nll_mir_grammar.specs.WrittenTypes.{WrittenType, BeginsWithType}

-- the tokens don't begin with a type that no `<` follows
abbrev pub HasNoType : List Token → Type 0
HasNoType ts = (t : WrittenType) (rest : List Token) → BeginsWithType ts t rest → ⊥

-- The tokens begin with this type, these tokens follow it, and there is no other way to read a type
-- there that no `<` follows.
pub record IsTypeIn (ts : List Token) (t : WrittenType) (rest : List Token) : Type 0 where
  pub found : BeginsWithType ts t rest
  pub only :
      (u : WrittenType) (other : List Token) → BeginsWithType ts u other → (u ≡ t) × (other ≡ rest)
