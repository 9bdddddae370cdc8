-- Lines of a text, read one after another by a reader that holds what they say.
use Rattle.std.proofs.Common.{◌≡◌, ◌≢◌, ⊎_elim, ℕ, ◌+◌, ◌-◌, ◌≤◌, ◌==◌, Bool, true, false, cond, List, [], ◌∷◌, ◌++◌, ◌⊎◌, inl, inr, length, refl, sym, ap, subst, arith, length-append}
use Rattle.std.specs.List.{AllByRecursion, slice_split, onto_first}
use Rattle.std.proofs.lemmas.List.{append-nil}
use Rattle.nll_problem.specs.Limits.{most_bytes}
use Rattle.nll_text.specs.Lines.{lines_of}
use Rattle.nll_format.specs.Text.{Format, IsFaulty, Says, HasFault, IsCut, IsFaultOfText, no_end}
use Rattle.nll_format.specs.Lines.{AreShort, TakesIn, TurnsDown, IsAmidWith, RefusesBody}
use Rattle.nll_format.specs.Reading.{ReadsLine, skips, reads}
use Rattle.nll_format.specs.declared.error.TextError.{TextError}
use Rattle.nll_format.specs.declared.error.TextKind.{TextKind}
use Rattle.nll_format.specs.declared.error.TextKind.TheVariants.{Memory, End}
use Rattle.nll_format.proofs.ReadingLemmas.{body_refused, cut_more, says_push, fits_same, faulty_same, fine_of, SameFault, AddsSaid}

-- ---- how long lines are

abbrev Short : ℕ → List (List ℕ) → Type 0
Short n lines = AllByRecursion (λ (line : List ℕ). length line ≤ n) lines

shorter : (m n : ℕ) (lines : List (List ℕ)) → m ≤ n → Short m lines → Short n lines
shorter m n [] low h = tt
shorter m n (line ∷ lines) low h = (omega (arith, low, h.0), shorter m n lines low h.1)

onto_short : (n x : ℕ) (lines : List (List ℕ)) → Short n lines → Short (1 + n) (onto_first x lines)
onto_short n x [] h = (omega arith, tt)
onto_short n x (line ∷ lines) h = (omega (arith, h.0), shorter n (1 + n) lines (omega arith) h.1)

cut_short : (b : Bool) (n x : ℕ) (lines : List (List ℕ)) → Short n lines
    → Short (1 + n) (cond b ([] ∷ lines) (onto_first x lines))
cut_short true n x lines h = (omega arith, shorter n (1 + n) lines (omega arith) h)
cut_short false n x lines h = onto_short n x lines h

last_short : (t : Bool) (b : ℕ) → Short 1 (slice_split (λ (x : ℕ). x == 10) (cond t [] (b ∷ [])))
last_short true b = (omega arith, tt)
last_short false b = cut_short (b == 10) 0 b ([] ∷ []) (omega arith, tt)

no_longer : (text : List ℕ) → Short (length text) (lines_of text)
no_longer [] = (omega arith, tt)
no_longer (b ∷ []) = last_short (b == 10) b
no_longer (b ∷ c ∷ bs) =
    shorter (1 + length (c ∷ bs)) (length (b ∷ c ∷ bs)) (lines_of (b ∷ c ∷ bs)) (omega arith)
    (cut_short (b == 10) (length (c ∷ bs)) b (lines_of (c ∷ bs)) (no_longer (c ∷ bs)))

-- no line is longer than its text
pub lines_short : (text : List ℕ) → length text ≤ most_bytes → AreShort (lines_of text)
lines_short text low = shorter (length text) most_bytes (lines_of text) low (no_longer text)

-- nor is one behind its header
pub body_short : (text header : List ℕ) (body : List (List ℕ)) → IsCut text header body → AreShort body
body_short text header body c = (subst AreShort c.cut (lines_short text c.short)).1

-- ---- one line after another

-- of all lines these were left, and now only those are
abbrev LeavesLines : (format : Format) → (List format.Form → Type 0) → (List format.Form → Type 0)
    → List (List ℕ) → List (List ℕ) → ℕ → ℕ → Type 0
LeavesLines format Old New these those before number =
    (all : List (List ℕ)) → IsAmidWith format Old all these before → IsAmidWith format New all those number

-- the error refuses each text of the format that has, after its header, lines of which these are left
abbrev RefusesLeft : (format : Format) → (List format.Form → Type 0) → List (List ℕ) → ℕ → TextError → Type 0
RefusesLeft format Old these before error =
    (all : List (List ℕ)) → IsAmidWith format Old all these before → RefusesBody format all error

module _ (format : Format) where
  -- nothing is read yet
  pub amid_none : (Held : List format.Form → Type 0) (all : List (List ℕ)) → Held [] → IsAmidWith format Held all all 1
  amid_none Held all held = ([], record { front = []; cut = refl; place = refl; fine = refl }, held)

  -- all lines are read
  pub amid_all : (Held : List format.Form → Type 0) (all : List (List ℕ)) (number : ℕ)
      → IsAmidWith format Held all [] number
      → (forms : List format.Form) × Says format [] all forms × Held forms × (number ≡ 1 + length all)
  amid_all Held all number amid = grind (arith, append-nil)

  -- one more line is read
  pub amid_more : (Old New : List format.Form → Type 0) (these : List (List ℕ)) (line : List ℕ) (after : List (List ℕ))
      (number : ℕ) → these ≡ line ∷ after → TakesIn format Old New line
      → LeavesLines format Old New these after number (number + 1)
  amid_more Old New these line after number step takes all amid =
      let a = amid.1 in
      let more = takes amid.0 amid.2 in (
        amid.0 ++ more.0,
        record {
          front = a.front ++ line ∷ [];
          cut = cut_more all a.front these line after a.cut step;
          place = omega (arith, a.place, length-append a.front (line ∷ []));
          fine = says_push format [] a.front amid.0 line more.0 a.fine more.1;
        },
        more.2,
      )

  -- the next line is faulty
  pub amid_fault : (Old : List format.Form → Type 0) (these : List (List ℕ)) (line : List ℕ) (after : List (List ℕ))
      (number : ℕ) → these ≡ line ∷ after → (kind : TextKind) → TurnsDown format Old line kind
      → (error : TextError) → (error ≡ record { line = 0; kind = Memory })
      ⊎ ((error ≡ record { line = number + 1; kind = kind }) × (kind ≢ Memory))
      → RefusesLeft format Old these number error
  amid_fault Old these line after number step kind wrong error told all amid text headed =
      body_refused format text all error headed
      (⊎_elim inl
      (λ here. ⊎_elim
      (λ memory. absurd (here.1 memory))
      (λ fault. rw here.0 (inr (omega (arith, amid.1.place), at_fault fault)))
      (wrong amid.0 amid.2))
      told)
    where
      at_fault : IsFaulty format (format.said amid.0) line kind → HasFault format all (number + 1 - 2) kind
      at_fault fault = grind arith

  -- the text stops too early
  pub amid_end : (Held : List format.Form → Type 0) (number : ℕ)
      → ((forms : List format.Form) → Held forms → format.HasEnded forms → ⊥)
      → RefusesLeft format Held [] number (record { line = number; kind = End })
  amid_end Held number none all amid text headed =
      let done = amid_all Held all number amid in
      let last : length (lines_of text) ≡ number = omega (arith, ap length headed.cut.cut, done.3) in
      inr (subst (λ n. IsFaultOfText format text n End) last
      (no_end all done.0 headed done.1 (none done.0 done.2)))

-- ---- a reader that holds the same as what the lines say

module _ (format : Format) (Same : format.Said → format.Said → Type 0) (same_fault : SameFault format Same) where
  pub takes_in : (Adds : format.Said → format.Form → format.Said → Type 0) → AddsSaid format Same Adds
      → (s t : format.Said) (line : List ℕ) → ReadsLine format Adds s line t
      → TakesIn format (λ forms. Same (format.said forms) s) (λ forms. Same (format.said forms) t) line
  takes_in Adds adds_said s t line (skips fit e) forms same = (
    [],
    fits_same format Same same_fault (format.said forms) s same line [] fit,
    subst (λ (fs : List format.Form). Same (format.said fs) t) (sym (append-nil forms))
        (subst (Same (format.said forms)) (sym e) same),
  )
  takes_in Adds adds_said s t line (reads f fit adds) forms same = (
    f ∷ [],
    fits_same format Same same_fault (format.said forms) s same line (f ∷ []) fit,
    adds_said forms s t f same (fine_of format s line f fit) adds,
  )

  pub turns_down : (s : format.Said) (line : List ℕ) (kind : TextKind) → (kind ≡ Memory) ⊎ IsFaulty format s line kind
      → TurnsDown format (λ forms. Same (format.said forms) s) line kind
  turns_down s line kind wrong forms same =
      ⊎_elim inl (λ fault. inr (faulty_same format Same same_fault (format.said forms) s same line kind fault)) wrong
