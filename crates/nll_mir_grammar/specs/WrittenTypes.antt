-- Types as they are written, with names in place of numbers. Source: project's choice;
-- docs/FORMATS.md says the same in prose.
use Rattle.std.specs.Prelude.{◌≡◌, ℕ, Bool, true, false, List, [], ◌∷◌, ◌++◌, codes, nat_le, ◌&&◌}
use Rattle.nll_text.specs.Tokens.{Token, word, region, arrow, sign, first_passes}

-- a name: that of a region without its `'`, of a struct, or of a type parameter
abbrev pub WrittenName : Type 0
WrittenName = List ℕ

mutual
  -- A name stands for a struct or for a type parameter.
  pub data WrittenType : Type 0 where
    int : WrittenType
    reference : WrittenName → Bool → WrittenType → WrittenType
    tuple : WrittenTypes → WrittenType
    named : WrittenName → Arguments → WrittenType
    -- a function: the types of its arguments, and that of its result
    function : WrittenTypes → WrittenType → WrittenType

  -- types in a row: the parts of a tuple, the fields of a struct, or the arguments of a function
  pub data WrittenTypes : Type 0 where
    none : WrittenTypes
    more : WrittenType → WrittenTypes → WrittenTypes

  -- the arguments of a struct, regions and types in one row
  pub data Arguments : Type 0 where
    no_argument : Arguments
    region_argument : WrittenName → Arguments → Arguments
    type_argument : WrittenType → Arguments → Arguments

-- ---- how types are spelled

-- `mut`, or nothing
abbrev pub mutability : Bool → List Token
mutability true = word (codes "mut") ∷ []
mutability false = []

-- The tokens of a type: `int`, `& 'r T`, `& 'r mut T`, `( T , .. )`, `W`, `W < A , .. >` or
-- `fn ( T , .. ) -> T`.
abbrev mutual
  pub spelled : WrittenType → List Token
  spelled int = word (codes "int") ∷ []
  spelled (reference r m t) = sign 38 ∷ region r ∷ (mutability m ++ spelled t)
  spelled (tuple ts) = sign 40 ∷ spelled_parts ts
  spelled (named n args) = word n ∷ spelled_arguments args
  spelled (function ts t) =
      word (codes "fn") ∷ sign 40 ∷ (spelled_parts ts ++ arrow ∷ spelled t)

  -- what follows the `(` of a row of types: the types, separated by commas, and `)`
  pub spelled_parts : WrittenTypes → List Token
  spelled_parts none = sign 41 ∷ []
  spelled_parts (more t ts) = spelled t ++ spelled_more_parts ts

  -- what follows a type of the row
  pub spelled_more_parts : WrittenTypes → List Token
  spelled_more_parts none = sign 41 ∷ []
  spelled_more_parts (more t ts) = sign 44 ∷ (spelled t ++ spelled_more_parts ts)

  -- nothing, or `<`, the arguments, separated by commas, and `>`
  pub spelled_arguments : Arguments → List Token
  spelled_arguments no_argument = []
  spelled_arguments (region_argument r args) = sign 60 ∷ region r ∷ spelled_more_arguments args
  spelled_arguments (type_argument t args) = sign 60 ∷ (spelled t ++ spelled_more_arguments args)

  -- what follows an argument
  pub spelled_more_arguments : Arguments → List Token
  spelled_more_arguments no_argument = sign 62 ∷ []
  spelled_more_arguments (region_argument r args) =
      sign 44 ∷ region r ∷ spelled_more_arguments args
  spelled_more_arguments (type_argument t args) =
      sign 44 ∷ (spelled t ++ spelled_more_arguments args)

-- a struct's name and a type parameter's begin with a capital letter
abbrev pub is_capital : WrittenName → Bool
is_capital name = first_passes (λ b. nat_le 65 b && nat_le b 90) name

-- Each name in the type that isn't a region's begins with a capital letter.
abbrev mutual
  pub HasNames : WrittenType → Type 0
  HasNames int = Unit {0}
  HasNames (reference r m t) = HasNames t
  HasNames (tuple ts) = HaveNames ts
  HasNames (named n args) = (is_capital n ≡ true) × ArgumentsHaveNames args
  HasNames (function ts t) = HaveNames ts × HasNames t

  pub HaveNames : WrittenTypes → Type 0
  HaveNames none = Unit {0}
  HaveNames (more t ts) = HasNames t × HaveNames ts

  pub ArgumentsHaveNames : Arguments → Type 0
  ArgumentsHaveNames no_argument = Unit {0}
  ArgumentsHaveNames (region_argument r args) = ArgumentsHaveNames args
  ArgumentsHaveNames (type_argument t args) = HasNames t × ArgumentsHaveNames args

-- what follows is no `<`
abbrev pub IsFree : List Token → Type 0
IsFree rest = (others : List Token) → rest ≡ sign 60 ∷ others → ⊥

-- The tokens begin with the type, no `<` follows it, and then come others.
pub record BeginsWithType (tokens : List Token) (t : WrittenType) (rest : List Token) : Type 0 where
  pub joined : tokens ≡ spelled t ++ rest
  pub names : HasNames t
  pub free : IsFree rest
