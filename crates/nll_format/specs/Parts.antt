-- Lines of parts, one token each: words that a format knows, numbers, and names of regions. Source:
-- project's choice; docs/FORMATS.md says the same in prose.
use Rattle.std.specs.Prelude.{◌≡◌, ℕ, ◌<◌, ◌^◌, List, [], ◌∷◌, Option, Some, None, map}
use Rattle.std.specs.List.{AllByRecursion}
use Rattle.std.specs.Fmt.{decimal}
use Rattle.nll_text.specs.Tokens as lex
use Rattle.nll_text.specs.Tokens.{IsMadeOf}

-- a region's name, without its leading `'`
abbrev pub Name : Type 0
Name = List ℕ

-- A part of a line: a word that the format knows, a number, or the name of a region.
pub data Part : Type 0 where
  keyword : List ℕ → Part
  number : ℕ → Part
  region : Name → Part

-- how a part is written: a number as it is printed, a name after its `'`
abbrev pub token_of : Part → lex.Token
token_of (keyword w) = lex.word w
token_of (number n) = lex.word (decimal n)
token_of (region x) = lex.region x

-- a number has at most nine digits
abbrev pub IsSmall : Part → Type 0
IsSmall (keyword w) = Unit {0}
IsSmall (number n) = n < 10 ^ 9
IsSmall (region x) = Unit {0}

-- The line is made of the tokens of the parts, and its numbers have at most nine digits.
pub record Spells (line : List ℕ) (these : List Part) : Type 0 where
  pub made : IsMadeOf line (map token_of these)
  pub small : AllByRecursion IsSmall these

-- ---- what reading a line answers

-- The answer is what the bytes spell, by the parts of a value; there is none only where the bytes
-- spell no value. `meant` gives the value that an answer stands for.
abbrev pub ReadsParts : {A B : Type 0} → (B → List Part) → (A → B) → List ℕ → Option A → Type 0
ReadsParts {A} {B} parts meant bytes None = (b : B) → Spells bytes (parts b) → ⊥
ReadsParts {A} {B} parts meant bytes (Some a) = Spells bytes (parts (meant a))

-- nothing
abbrev pub no_parts : Unit {0} → List Part
no_parts _ = []

-- one number
abbrev pub one_number : ℕ → List Part
one_number p = number p ∷ []

-- two numbers
abbrev pub two_numbers : ℕ × ℕ → List Part
two_numbers n = number n.0 ∷ number n.1 ∷ []

-- one region
abbrev pub one_region : Name → List Part
one_region x = region x ∷ []

-- two regions
abbrev pub two_regions : Name × Name → List Part
two_regions n = region n.0 ∷ region n.1 ∷ []

-- a region and a number
abbrev pub region_number : Name × ℕ → List Part
region_number n = region n.0 ∷ number n.1 ∷ []

-- ---- lists of tokens

-- The tokens are those of the parts, and their numbers have at most nine digits.
pub record AreSpelled (tokens : List lex.Token) (these : List Part) : Type 0 where
  pub same : tokens ≡ map token_of these
  pub small : AllByRecursion IsSmall these
