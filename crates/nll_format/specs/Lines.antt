-- How lines of a text after its header are read, one after another. Source: project's choice. What
-- a reader holds is given as a relation to the forms of the lines that it has read.
use Rattle.std.specs.Prelude.{◌≡◌, ◌⊎◌, ℕ, ◌+◌, ◌≤◌, List, [], ◌++◌, length}
use Rattle.std.specs.List.{AllByRecursion}
use Rattle.nll_problem.specs.Limits.{most_bytes}
use Rattle.nll_format.specs.Text.{Format, Fits, IsFaulty, Says, IsHeaded, IsFaultOfText, IsRefusal}
use Rattle.nll_format.specs.declared.error.TextError.{TextError}
use Rattle.nll_format.specs.declared.error.TextKind.{TextKind}
use Rattle.nll_format.specs.declared.error.TextKind.TheVariants.{Memory}

-- no line is longer than a text may be
abbrev pub AreShort : List (List ℕ) → Type 0
AreShort lines = AllByRecursion (λ line. length line ≤ most_bytes) lines

-- ---- one line

-- after lines of the forms that were held the line has no fault, and with what it adds the forms
-- are held now
abbrev pub TakesIn : (format : Format) → (List format.Form → Type 0)
    → (List format.Form → Type 0) → List ℕ → Type 0
TakesIn format Old New line =
    (forms : List format.Form) → Old forms
    → (added : List format.Form) × Fits format (format.said forms) line added
    × New (forms ++ added)

-- an allocation failed, or after lines of the forms that were held this is the line's first kind of
-- fault
abbrev pub TurnsDown : (format : Format) → (List format.Form → Type 0) → List ℕ → TextKind → Type 0
TurnsDown format Old line kind =
    (forms : List format.Form) → Old forms
    → (kind ≡ Memory) ⊎ IsFaulty format (format.said forms) line kind

-- ---- all lines

-- Of all lines those that are left are not read yet. The others have no fault and are of these
-- forms; with the header they are this many.
pub record IsAmid (format : Format) (all left : List (List ℕ)) (forms : List format.Form)
    (number : ℕ) : Type 0 where
  pub front : List (List ℕ)
  pub cut : all ≡ front ++ left
  pub place : number ≡ 1 + length front
  pub fine : Says format [] front forms

-- like `IsAmid`, but for forms that are held
abbrev pub IsAmidWith : (format : Format) → (List format.Form → Type 0) → List (List ℕ)
    → List (List ℕ) → ℕ → Type 0
IsAmidWith format Held all left number =
    (forms : List format.Form) × IsAmid format all left forms number × Held forms

-- the error refuses each text of the format that has these lines after its header
abbrev pub RefusesBody : Format → List (List ℕ) → TextError → Type 0
RefusesBody format body error =
    (text : List ℕ) → IsHeaded format text body → IsRefusal (IsFaultOfText format text) error
