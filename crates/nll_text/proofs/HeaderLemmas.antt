-- The runs of a line, from the first on.
use Rattle.std.proofs.Common.{◌≡◌, ℕ, ◌<◌, Bool, true, false, eqb, not, List, [], ◌∷◌, ◌++◌, length, take, refl, sym, ap, ◌∙◌, arith}
use Rattle.std.specs.List.{slice_split, prefix_len}
use Rattle.std.proofs.lemmas.List.{append-nil}
use Rattle.std.proofs.lemmas.Bool.Decides.{nat_tests}
use Rattle.nll_text.specs.Lines.{is_blank, without_front_blanks}
use Rattle.nll_text.specs.Header.{runs}
use Rattle.nll_text.specs.Tokens.{first_passes, IsGap}
use Rattle.nll_text.specs.Lexing.{SplitsWhile}
use Rattle.nll_text.proofs.ByteLemmas.{Passes, splits_while}

-- a byte that is no blank
abbrev pub is_no_blank : ℕ → Bool
is_no_blank b = not (is_blank b)

not_true : (t : Bool) → not t ≡ true → t ≡ false
not_true true e = absurd cc
not_true false e = refl

not_false : (t : Bool) → not t ≡ false → t ≡ true
not_false true e = refl
not_false false e = absurd cc

not_empty : (b : ℕ) (bs : List ℕ) → eqb (length (b ∷ bs)) 0 ≡ false
not_empty b bs = grind (arith, nat_tests)

runs-gap : (gap core : List ℕ) → IsGap gap → runs (gap ++ core) ≡ runs core
runs-gap [] core g = refl
runs-gap (b ∷ gap) core g = rw g.0 (runs-gap gap core g.1)

pieces_alone : (run : List ℕ) → Passes is_no_blank run → slice_split is_blank run ≡ run ∷ []
pieces_alone [] h = refl
pieces_alone (b ∷ run) h = rw (not_true (is_blank b) h.0, pieces_alone run h.1) refl

pieces_before : (run : List ℕ) (b : ℕ) (rest : List ℕ) → Passes is_no_blank run
    → is_blank b ≡ true → slice_split is_blank (run ++ b ∷ rest) ≡ run ∷ slice_split is_blank rest
pieces_before [] b rest h blank = rw blank refl
pieces_before (c ∷ run) b rest h blank =
    rw (not_true (is_blank c) h.0, pieces_before run b rest h.1 blank) refl

runs-run : (run rest : List ℕ) → 0 < length run → Passes is_no_blank run
    → first_passes is_no_blank rest ≡ false → runs (run ++ rest) ≡ run ∷ runs rest
runs-run [] rest some h stop = absurd (omega arith)
runs-run (c ∷ run) [] some h stop =
    ap runs (append-nil (c ∷ run)) ∙ rw (pieces_alone (c ∷ run) h, not_empty c run) refl
runs-run (c ∷ run) (b ∷ rest) some h stop =
    let blank = not_false (is_blank b) stop in
    rw (pieces_before (c ∷ run) b rest h blank, blank, not_empty c run) refl

-- ---- what the code's branches need

runs-core : (line : List ℕ) → runs line ≡ runs (without_front_blanks line)
runs-core line =
    let s = splits_while is_blank line in
    ap runs s.joined ∙ runs-gap (take (prefix_len is_blank line) line) (without_front_blanks line) s.each

pub no_runs : (line core : List ℕ) → core ≡ without_front_blanks line → length core ≡ 0 → runs line ≡ []
no_runs line [] s e = runs-core line ∙ ap runs (sym s)
no_runs line (b ∷ core) s e = absurd (omega arith)

run_or_blank : (core : List ℕ) → 0 < length core → first_passes is_blank core ≡ false
    → first_passes is_no_blank core ≡ false → ⊥
run_or_blank [] some solid stop = omega arith
run_or_blank (b ∷ bs) some solid stop = (let h = not_false (is_blank b) stop in cc)

pub first_run : (line core run rest : List ℕ) → core ≡ without_front_blanks line → first_passes is_blank core ≡ false
    → 0 < length core → SplitsWhile is_no_blank core run rest → runs line ≡ run ∷ runs rest
first_run line core [] rest s solid some t =
    absurd (run_or_blank core some solid (rw t.joined t.stops))
first_run line core (b ∷ run) rest s solid some t =
    runs-core line ∙ ap runs (sym s)
    ∙ (ap runs t.joined ∙ runs-run (b ∷ run) rest (omega arith) t.each t.stops)
