-- A line of a MIR text: how many tokens it has, and what it adds to what a reader holds.
use Rattle.std.proofs.Common.{◌≡◌, ◌⊎◌, ℕ, ◌<◌, ◌≤◌, List, [], ◌∷◌, ◌++◌, length, ap, arith, length-append}
use Rattle.nll_text.specs.Tokens.{Token, word, region, arrow, sign, IsMadeOf, IsToken, spelling}
use Rattle.nll_format.specs.Text.{IsFaulty}
use Rattle.nll_format.specs.Lines.{TakesIn, TurnsDown}
use Rattle.nll_format.specs.Reading.{ReadsLine}
use Rattle.nll_format.specs.declared.error.TextKind.{TextKind}
use Rattle.nll_format.specs.declared.error.TextKind.TheVariants.{Memory}
use Rattle.nll_format.proofs.LinesLemmas as lines
use Rattle.nll_mir_text.specs.MirSaid.{Said, said}
use Rattle.nll_mir_text.specs.MirReading.{Adds}
use Rattle.nll_mir_grammar.specs.declared.version.Version.{Version}
use Rattle.nll_mir_text.specs.MirText.{mir}
use Rattle.nll_mir_text.proofs.SaidLemmas.{adds_said, same_fault}

-- ---- what a reader holds

abbrev Same : Said → Said → Type 0
Same s t = s ≡ t

-- a line without a fault is taken in
pub takes_in : (v : Version) (s t : Said) (line : List ℕ) → ReadsLine (mir v) Adds s line t
    → TakesIn (mir v) (λ forms. said forms ≡ s) (λ forms. said forms ≡ t) line
takes_in v s t line h = lines.takes_in (mir v) Same same_fault Adds adds_said s t line h

-- a line with a fault is turned down
pub turns_down : (v : Version) (s : Said) (line : List ℕ) (kind : TextKind)
    → (kind ≡ Memory) ⊎ IsFaulty (mir v) s line kind → TurnsDown (mir v) (λ forms. said forms ≡ s) line kind
turns_down v s line kind wrong = lines.turns_down (mir v) Same same_fault s line kind wrong

-- ---- its tokens

spelling_some : (t : Token) → IsToken t → 0 < length (spelling t)
spelling_some (word w) h = h.0
spelling_some (region x) h = omega (arith, h.0)
spelling_some arrow h = omega arith
spelling_some (sign b) h = omega arith

-- a line has no more tokens than bytes
pub few_made : (line : List ℕ) (ts : List Token) → IsMadeOf line ts → length ts ≤ length line
few_made line [] h = omega arith
few_made line (t ∷ ts) h =
    omega (
      arith,
      few_made h.1 ts h.6,
      spelling_some t h.4,
      ap length h.2,
      length-append h.0 (spelling t ++ h.1),
      length-append (spelling t) h.1,
    )
