-- The rule of a ledger's two words: the balance, and the stop flag.
-- Source: project's choice. Private contracts and rules of tables alone cite this file.
use Rattle.std.specs.Prelude.{◌≡◌, ◌==◌, ℕ, Bool, [], ◌∷◌, cond, not}
use Rattle.atomic_table.specs.Table.{State}
use Rattle.ledger.specs.Figures.{AreBalanced, finding, finding_none, quieting, staying}
use Rattle.ledger.specs.declared.figures.Figures.{Figures}

-- the flag is set where its word isn't 0
abbrev pub is_set : ℕ → Bool
is_set word = not (word == 0)

-- the figures of a share that found this balance, kept 2^62 higher: where it found 0, it left
abbrev pub leaving : Figures → ℕ → Figures
leaving v found = cond (found == 4611686018427387904) (quieting v) (staying v)

-- the figures of a share that found this word of the flag
abbrev pub looking : Figures → ℕ → Figures
looking v found = cond (found == 0) (finding_none v) (finding v)

-- the words are a balance and a flag, and these are what the figures of all seats say
pub record AreWords (s : State (Unit {0}) Figures) : Type 0 where
  pub balance : ℕ
  pub flag : ℕ
  pub words : s.words ≡ balance ∷ flag ∷ []
  pub balanced : AreBalanced balance (is_set flag) s.views
