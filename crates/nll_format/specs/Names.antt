-- The names of regions, and the number that a name stands for.
-- Source: project's choice.
use Rattle.std.specs.Prelude.{◌≡◌, ℕ, ◌+◌, ◌-◌, ◌<◌, ◌≤◌, List, [], ◌++◌, length, take, slice_index_or, decimal}
use Rattle.std.specs.List.{position_or_len}
use Rattle.std.specs.Str.{bytes_eq, IsUtf8}
use Rattle.nll_format.specs.declared.series.Series.{Series}

-- the first place of a name among the names, or the number of names where it isn't among them
abbrev pub number_of : List (List ℕ) → List ℕ → ℕ
number_of names name = position_or_len (bytes_eq name) names

-- each name is UTF-8
abbrev pub AreTexts : List (List ℕ) → Type 0
AreTexts names = (k : ℕ) → k < length names → IsUtf8 (slice_index_or names k [])

-- a name begins with this many bytes of another one, and the rest is this number
abbrev pub IsNumbered : ℕ → List ℕ → List ℕ → ℕ → Type 0
IsNumbered front first name n = name ≡ take front first ++ decimal n

-- The series begins among the names, and a name has this index in it, or would have it as one more.
pub record HasPlace (names : List (List ℕ)) (s : Series) (name : List ℕ) (i : ℕ) : Type 0 where
  pub begun : s.at < length names
  pub after : s.at ≤ i
  pub numbered :
      IsNumbered s.front (slice_index_or names s.at []) name (s.number + (i - s.at))

-- each name from the first one of the series on has its index in it
abbrev pub IsSeries : List (List ℕ) → Series → Type 0
IsSeries names s = (i : ℕ) → s.at ≤ i → i < length names
    → HasPlace names s (slice_index_or names i []) i
