-- A text of any format: that it fits, or its one fault. Source: project's choice; docs/FORMATS.md
-- says the same in prose. A format is given as a record. The words speak of whole lists of lines,
-- and know nothing of how a text is read.
use Rattle.std.specs.Prelude.{◌≡◌, ◌⊎◌, ℕ, ◌+◌, ◌<◌, ◌≤◌, true, false, List, [], ◌∷◌, ◌++◌, length}
use Rattle.std.specs.Prelude.{Option, Some, None}
use Rattle.std.specs.Str.{IsUtf8}
use Rattle.nll_text.specs.Lines.{lines_of, is_skipped}
use Rattle.nll_text.specs.Header as headers
use Rattle.nll_problem.specs.Limits.{most_bytes}
use Rattle.nll_problem.specs.declared.error.Kind.TheVariants.{Text}
use Rattle.nll_format.specs.declared.error.TextError.{TextError}
use Rattle.nll_format.specs.declared.error.TextKind.{TextKind}
use Rattle.nll_format.specs.declared.error.TextKind.TheVariants.{NotUtf8, Header, Syntax, Limit}
use Rattle.nll_format.specs.declared.error.TextKind.TheVariants.{End, Memory}

-- What a format of texts is.
pub record Format : Type 1 where
  -- the header's two runs: the kind of text and its version
  pub kind : List ℕ
  pub version : List ℕ
  -- the forms of its lines, and which line has which
  pub Form : Type 0
  pub HasForm : List ℕ → Form → Type 0
  -- what lines say together
  pub Said : Type 0
  pub said : List Form → Said
  -- what is wrong with a further line of the form, first kind first
  pub first_fault : Said → Form → Option TextKind
  -- the text may stop after these lines
  pub HasEnded : List Form → Type 0

-- the line is the header of a text of the format
abbrev pub IsFormatHeader : Format → List ℕ → Type 0
IsFormatHeader format line = headers.IsHeader format.kind format.version line

-- ---- one line

-- After lines that say s the line has no fault, and adds this: its form, or nothing where it is
-- skipped.
pub data Fits (format : Format) (s : format.Said) (line : List ℕ) : List format.Form → Type 0 where
  skipped : IsUtf8 line → is_skipped line ≡ true → Fits format s line []
  of_form : (f : format.Form) → IsUtf8 line → is_skipped line ≡ false → format.HasForm line f
      → format.first_fault s f ≡ None → Fits format s line (f ∷ [])

-- After lines that say s the first kind of fault of the line is this one.
pub data IsFaulty (format : Format) (s : format.Said) (line : List ℕ) : TextKind → Type 0 where
  not_utf8 : (IsUtf8 line → ⊥) → IsFaulty format s line NotUtf8
  no_form : IsUtf8 line → is_skipped line ≡ false → ((f : format.Form) → format.HasForm line f → ⊥)
      → IsFaulty format s line Syntax
  at_form : (f : format.Form) (kind : TextKind) → IsUtf8 line → is_skipped line ≡ false
      → format.HasForm line f → format.first_fault s f ≡ Some kind → IsFaulty format s line kind

-- ---- the lines after the header

-- After lines of the forms `before` these lines have no fault, and `forms` are the forms of all.
abbrev pub Says : (format : Format) → List format.Form → List (List ℕ) → List format.Form → Type 0
Says format before [] forms = forms ≡ before
Says format before (line ∷ lines) forms =
    (added : List format.Form) × Fits format (format.said before) line added
    × Says format (before ++ added) lines forms

-- The first line with a fault comes after n others, and this is its first kind.
pub record HasFault (format : Format) (lines : List (List ℕ)) (n : ℕ) (kind : TextKind)
    : Type 0 where
  pub front : List (List ℕ)
  pub line : List ℕ
  pub back : List (List ℕ)
  pub cut : lines ≡ front ++ line ∷ back
  pub place : n ≡ length front
  pub forms : List format.Form
  pub fine : Says format [] front forms
  pub wrong : IsFaulty format (format.said forms) line kind

-- ---- the whole text

-- The text is within the limit of bytes, and these are its first line and the lines after it.
pub record IsCut (text header : List ℕ) (body : List (List ℕ)) : Type 0 where
  pub short : length text ≤ most_bytes
  pub cut : lines_of text ≡ header ∷ body

-- The text's first line is a header of these two runs, and these are the lines after it.
pub record HasHeader (kind version text : List ℕ) (body : List (List ℕ)) : Type 0 where
  pub header : List ℕ
  pub cut : IsCut text header body
  pub utf8 : IsUtf8 header
  pub is_header : headers.IsHeader kind version header

-- the text's first line is a header of the format, and these are the lines after it
abbrev pub IsHeaded : Format → List ℕ → List (List ℕ) → Type 0
IsHeaded format = HasHeader format.kind format.version

-- The text fits: a header, and lines without a fault of these forms, after which it may stop.
pub record IsText (format : Format) (text : List ℕ) (forms : List format.Form) : Type 0 where
  pub body : List (List ℕ)
  pub headed : IsHeaded format text body
  pub fine : Says format [] body forms
  pub ended : format.HasEnded forms

-- The text's fault: the line, counted from 1, and its kind.
pub data IsFaultOfText (format : Format) (text : List ℕ) : ℕ → TextKind → Type 0 where
  too_long : most_bytes < length text → IsFaultOfText format text 1 (Limit Text)
  header_not_utf8 : (header : List ℕ) (body : List (List ℕ)) → IsCut text header body
      → (IsUtf8 header → ⊥) → IsFaultOfText format text 1 NotUtf8
  no_header : (header : List ℕ) (body : List (List ℕ)) → IsCut text header body
      → IsUtf8 header → (IsFormatHeader format header → ⊥) → IsFaultOfText format text 1 Header
  at_line : (body : List (List ℕ)) (n : ℕ) (kind : TextKind) → IsHeaded format text body
      → HasFault format body n kind → IsFaultOfText format text (n + 2) kind
  no_end : (body : List (List ℕ)) (forms : List format.Form) → IsHeaded format text body
      → Says format [] body forms → (format.HasEnded forms → ⊥)
      → IsFaultOfText format text (length (lines_of text)) End

-- ---- how a reader refuses a text

-- The error reports a fault by its line and kind, or a failed allocation at line 0.
abbrev pub IsRefusal : (ℕ → TextKind → Type 0) → TextError → Type 0
IsRefusal fault error =
    (error ≡ record { line = 0; kind = Memory }) ⊎ fault error.line error.kind

-- The error says that the text is too long, or else that its first line isn't UTF-8.
abbrev pub IsUncut : List ℕ → TextError → Type 0
IsUncut text error =
    ((error ≡ record { line = 1; kind = Limit Text }) × (most_bytes < length text))
    ⊎ ((error ≡ record { line = 1; kind = NotUtf8 }) × (line : List ℕ) × (body : List (List ℕ))
    × IsCut text line body × (IsUtf8 line → ⊥))

-- The error says one of these, or else that the first line isn't a header of these two runs.
abbrev pub IsUnopened : List ℕ → List ℕ → List ℕ → TextError → Type 0
IsUnopened kind version text error =
    IsUncut text error
    ⊎ ((error ≡ record { line = 1; kind = Header }) × (line : List ℕ) × (body : List (List ℕ))
    × IsCut text line body × IsUtf8 line × (headers.IsHeader kind version line → ⊥))

-- ---- a line of none of the forms

-- the line says nothing: it is skipped
abbrev pub IsPassedOver : List ℕ → Type 0
IsPassedOver line = IsUtf8 line × (is_skipped line ≡ true)

-- this kind is reported for a line that has no form
abbrev pub IsFormless : List ℕ → TextKind → Type 0
IsFormless line kind = ((kind ≡ NotUtf8) × (IsUtf8 line → ⊥))
    ⊎ ((kind ≡ Syntax) × IsUtf8 line × (is_skipped line ≡ false))
