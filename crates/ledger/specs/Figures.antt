-- What the shares of a ledger say of its balance and its stop flag.
-- Source: project's choice. Private contracts and rules of queues alone cite this file.
use Rattle.std.specs.Prelude.{◌≡◌, ℕ, ◌+◌, ◌-◌, ◌*◌, ◌^◌, ◌<◌, ◌≤◌, Bool, true, false, ⊤}
use Rattle.std.specs.Prelude.{List, [], ◌∷◌}
use Rattle.ledger.specs.Amounts.{total_bound}
use Rattle.ledger.specs.declared.figures.Figures.{Figures}
use Rattle.ledger.specs.declared.step.LedgerStep.{LedgerStep}
use Rattle.ledger.specs.declared.step.LedgerStep.TheVariants.{Owed, Cleared}
use Rattle.ledger.specs.declared.step.LedgerStep.TheVariants.{FlagSet, FlagSeen, BalanceSeen}
use Rattle.fixpoint.specs.Limits.{most_parts}

-- 1 for true, 0 for false
abbrev pub bit : Bool → ℕ
bit true = 1
bit false = 0

-- the figures of some shares together: how many parts of the whole they have, what they owed and
-- cleared, how many parts left on quiet, how many shares set the flag, how many know that it is
-- set, and the steps of a single one, the latest first
abbrev pub figures : ℕ → ℕ → ℕ → ℕ → ℕ → ℕ → List LedgerStep → Figures
figures all_parts all_owed all_cleared all_quiets all_calls all_finds all_steps = record {
  parts = all_parts;
  owed = all_owed;
  cleared = all_cleared;
  quiets = all_quiets;
  calls = all_calls;
  finds = all_finds;
  steps = all_steps;
}

-- the figures of nothing
abbrev pub none : Figures
none = figures 0 0 0 0 0 0 []

-- with these steps
abbrev pub noting : Figures → List LedgerStep → Figures
noting v steps = figures v.parts v.owed v.cleared v.quiets v.calls v.finds steps

-- so much more is owed
abbrev pub owing : Figures → ℕ → Figures
owing v amount = figures v.parts (v.owed + amount) v.cleared v.quiets v.calls v.finds
    (Owed amount ∷ v.steps)

-- so much more is cleared
abbrev pub clearing : Figures → ℕ → Figures
clearing v amount = figures v.parts v.owed (v.cleared + amount) v.quiets v.calls v.finds
    (Cleared amount ∷ v.steps)

-- a share found the balance 0: all its parts left on quiet
abbrev pub quieting : Figures → Figures
quieting v = figures v.parts v.owed v.cleared v.parts v.calls v.finds
    (BalanceSeen true ∷ v.steps)

-- a share found that the balance isn't 0
abbrev pub staying : Figures → Figures
staying v = noting v (BalanceSeen false ∷ v.steps)

-- a share set the flag, and knows that it is set
abbrev pub setting : Figures → Figures
setting v = figures v.parts v.owed v.cleared v.quiets 1 1 (FlagSet ∷ v.steps)

-- a share found the flag set
abbrev pub finding : Figures → Figures
finding v = figures v.parts v.owed v.cleared v.quiets v.calls 1 (FlagSeen true ∷ v.steps)

-- a share found that the flag isn't set
abbrev pub finding_none : Figures → Figures
finding_none v = noting v (FlagSeen false ∷ v.steps)

-- what is left where a share of one part that owes 1 is cut off
abbrev pub fewer : Figures → Figures
fewer v = figures (v.parts - 1) (v.owed - 1) v.cleared v.quiets v.calls v.finds v.steps

-- such a share
abbrev pub fresh : Figures
fresh = figures 1 1 0 0 0 0 []

-- two figures added up, without the steps
abbrev pub together : Figures → Figures → Figures
together v w = figures (v.parts + w.parts) (v.owed + w.owed) (v.cleared + w.cleared)
    (v.quiets + w.quiets) (v.calls + w.calls) (v.finds + w.finds) []

-- one of the figures, added up over a list
abbrev pub total : (Figures → ℕ) → List Figures → ℕ
total f [] = 0
total f (v ∷ vs) = f v + total f vs

-- each figure is within what the parts allow
pub record IsSoundFigure (v : Figures) : Type 0 where
  pub owed : v.owed ≤ v.parts * total_bound
  pub cleared : v.cleared ≤ v.parts * total_bound
  pub quiets : v.quiets ≤ v.parts
  pub calls : v.calls ≤ v.parts
  pub finds : v.finds ≤ v.parts

-- all of a list are
abbrev pub AreAllSound : List Figures → Type 0
AreAllSound [] = ⊤
AreAllSound (v ∷ vs) = IsSoundFigure v × AreAllSound vs

-- the balance, kept 2^62 higher, is what all owed less what they cleared, and is 0 where all parts
-- left on quiet; the flag is set just where a share set it, and where a share knows that it is set
pub record AreBalanced (balance : ℕ) (flag : Bool) (all : List Figures) : Type 0 where
  pub sums : balance + total (λ v. v.cleared) all ≡ 2 ^ 62 + total (λ v. v.owed) all
  pub parts : total (λ v. v.parts) all ≡ most_parts
  pub sound : AreAllSound all
  pub quiet : total (λ v. v.quiets) all ≡ total (λ v. v.parts) all → balance ≡ 2 ^ 62
  pub set_by : flag ≡ true → 0 < total (λ v. v.calls) all
  pub sets : 0 < total (λ v. v.calls) all → flag ≡ true
  pub found : 0 < total (λ v. v.finds) all → flag ≡ true
