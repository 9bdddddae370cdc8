-- The smallest texts that may stop too early: of one line `end`, and of lines that are skipped.
-- Source: project's choice. Only private contracts cite this file.
use Rattle.std.specs.Prelude.{◌≡◌, ℕ, Bool, true, false, List, [], ◌∷◌, Option, Some, None}
use Rattle.nll_format.specs.Text.{Format}
use Rattle.nll_format.specs.declared.error.TextKind.{TextKind}
use Rattle.nll_format.specs.declared.error.TextKind.TheVariants.{Duplicate}

-- the bytes of `end`
abbrev pub end_word : List ℕ
end_word = 101 ∷ 110 ∷ 100 ∷ []

-- what is wrong with one more line `end` after these
abbrev pub fault_behind : List (Unit {0}) → Option TextKind
fault_behind [] = None
fault_behind (_ ∷ _) = Some Duplicate

-- a line `end` is among the lines
abbrev pub HasEnd : List (Unit {0}) → Type 0
HasEnd [] = ⊥
HasEnd (_ ∷ _) = Unit {0}

-- their format: all lines that have a form have that of `end`
abbrev pub end_texts : Format
end_texts = record {
  kind = 101 ∷ 110 ∷ 100 ∷ 115 ∷ [];
  version = 49 ∷ [];
  Form = Unit {0};
  HasForm = λ line form. line ≡ end_word;
  Said = List (Unit {0});
  said = λ forms. forms;
  first_fault = λ forms form. fault_behind forms;
  HasEnded = HasEnd;
}

-- the flag says whether a line `end` is among the lines
abbrev pub Tells : Bool → List (Unit {0}) → Type 0
Tells has_end [] = has_end ≡ false
Tells has_end (_ ∷ _) = has_end ≡ true
