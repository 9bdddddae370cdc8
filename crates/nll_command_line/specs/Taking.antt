-- What arguments are to the reader of options, and what it holds. Source: project's choice. Only
-- private contracts cite this file.
use Rattle.std.specs.Prelude.{◌≡◌, ℕ, false, List, ◌∷◌, ◌++◌, option_map}
use Rattle.nll_command_line.specs.CommandLine.{begins_as_option}
use Rattle.nll_command_line.specs.Options.{AreOptionsRead, EndsOptions, Given, HasOptions}
use Rattle.nll_command_line.specs.Options.{IsLawfulOption}
use Rattle.nll_command_line.specs.Options.{SaidOptions, SaysOptions, key_of, value_of, word_of}
use Rattle.nll_command_line.specs.declared.options.Key.{Key}
use Rattle.nll_command_line.specs.declared.options.Kind.{Kind}
use Rattle.nll_command_line.specs.declared.options.Kind.TheVariants as kind
use Rattle.nll_command_line.specs.declared.options.Options.{Options}

-- what an argument is
abbrev pub IsKind : List ℕ → Kind → Type 0
IsKind word (kind.Alone k) = word ≡ word_of k
IsKind word (kind.Joined k value) = word ≡ word_of k ++ 61 ∷ value.now
IsKind word kind.Plain = begins_as_option word ≡ false
IsKind word kind.Last = EndsOptions word

-- what the options that are held give
abbrev pub said_of : Options → SaidOptions
said_of o = record {
  owners = o.owners;
  deal = o.deal;
  cut = option_map (λ file. file.now) o.cut;
  mail = o.mail;
  schedule = option_map (λ file. file.now) o.schedule;
}

-- what the options that are held give is what those give
abbrev pub SaysBy : List Given → Options → Type 0
SaysBy given o = SaysOptions given (said_of o)

-- no option of this name and value, followed by others, can come after those
abbrev pub IsUnfit : List Given → Key → List ℕ → Type 0
IsUnfit given key value = (g : Given) (later : List Given) (said : SaidOptions) → key_of g ≡ key
    → value_of g ≡ value → IsLawfulOption g → SaysOptions (given ++ g ∷ later) said → ⊥

-- like `IsUnfit`, but the option's value is the first of these arguments
abbrev pub IsUnfitBefore : List Given → Key → List (List ℕ) → Type 0
IsUnfitBefore given key words = (g : Given) (later : List Given) (said : SaidOptions)
    (rest : List (List ℕ)) → key_of g ≡ key → words ≡ value_of g ∷ rest
    → begins_as_option (value_of g) ≡ false → IsLawfulOption g
    → SaysOptions (given ++ g ∷ later) said → ⊥

-- the arguments have no options among them but those, after those others
abbrev pub HasJust : List Given → List (List ℕ) → List (List ℕ) → Type 0
HasJust given others words = (gs : List Given) (os : List (List ℕ)) → HasOptions gs os words
    → (gs ≡ given) × (os ≡ others)

-- the arguments have no options among them that give something
abbrev pub HasNoOption : List (List ℕ) → Type 0
HasNoOption words = (gs : List Given) (os : List (List ℕ)) (said : SaidOptions)
    → HasOptions gs os words
    → SaysOptions gs said → ⊥

-- the arguments can be read only in this way
abbrev pub AreReadJust : List (List ℕ) → List (List ℕ) → SaidOptions → Type 0
AreReadJust words others said = (os : List (List ℕ)) (s : SaidOptions) → AreOptionsRead words os s
    → (os ≡ others) × (s ≡ said)

-- the arguments can't be read
abbrev pub AreUnreadable : List (List ℕ) → Type 0
AreUnreadable words = (os : List (List ℕ)) (s : SaidOptions) → AreOptionsRead words os s → ⊥
