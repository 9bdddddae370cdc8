-- The rule of a ledger's lock: one has its state, the queue or one who holds the lock.
-- Source: project's choice. Private contracts and rules of queues alone cite this file.
use Rattle.std.specs.Prelude.{◌≡◌, ◌≢◌, ℕ, ◌+◌, ◌^◌, ◌⊎◌, Bool, true, false, ⊤, List, [], ◌∷◌, map}
use Rattle.ledger.specs.Figures.{bit, figures, none, finding, finding_none, quieting, staying}
use Rattle.ledger.specs.Figures.{AreBalanced}
use Rattle.ledger.specs.declared.figures.Figures.{Figures}
use Rattle.ledger.specs.declared.lock.Look.{Look}
use Rattle.ledger.specs.declared.lock.Look.TheVariants.{Flag, Quiet, Open}
use Rattle.ledger.specs.declared.lock_rule.Known.{Known}
use Rattle.ledger.specs.declared.lock_rule.State.{State}

-- a balance, kept 2^62 higher, and a flag
abbrev pub state_of : ℕ → Bool → State
state_of kept_balance stop_flag = record { balance = kept_balance; flag = stop_flag }

-- the state of a new book: nothing is owed, and no flag is set
abbrev pub new_state : State
new_state = state_of 4611686018427387904 false

-- what a pass knows: the figures of its shares, whether it holds the lock, and the state that it
-- found when it last took the lock
abbrev pub knowing : Figures → Bool → State → Known
knowing of_shares is_holder found = record { figures = of_shares; holds = is_holder; held = found }

-- the first pass of a lock has all parts, and holds the lock
abbrev pub first : Known
first = knowing (figures 64 0 0 0 0 0 []) true new_state

-- a pass whose shares went over to another one
abbrev pub spent : Known
spent = knowing none false (state_of 0 false)

-- a pass that took the lock and found this state
abbrev pub holding : Known → State → Known
holding v found = knowing v.figures true found

-- a pass that gave the lock back, with these figures then
abbrev pub released : Known → Figures → Known
released v after = knowing after false v.held

-- how many of the passes hold the lock
abbrev pub holders : List Known → ℕ
holders [] = 0
holders (v ∷ vs) = bit v.holds + holders vs

-- each pass that holds the lock has this state
abbrev pub HoldIt : State → List Known → Type 0
HoldIt state [] = ⊤
HoldIt state (v ∷ vs) = (v.holds ≡ true → v.held ≡ state) × HoldIt state vs

-- the state is in the queue and no pass holds the lock, or one pass holds it and the queue is
-- empty; and the state is what the figures of all passes say
pub record IsHeldByOne (items : List State) (passes : List Known) : Type 0 where
  pub state : State
  pub place : ((items ≡ state ∷ []) × (holders passes ≡ 0))
      ⊎ ((items ≡ []) × (holders passes ≡ 1))
  pub held : HoldIt state passes
  pub balanced : AreBalanced state.balance state.flag (map (λ v. v.figures) passes)

-- what a look answers that found this state, the flag first, and the figures before and after it
abbrev pub IsSeen : State → Figures → Figures → Look → Type 0
IsSeen found old new Flag = (found.flag ≡ true) × (new ≡ finding old)
IsSeen found old new Quiet =
    (found.flag ≡ false) × (found.balance ≡ 2 ^ 62) × (new ≡ quieting (finding_none old))
IsSeen found old new Open =
    (found.flag ≡ false) × (found.balance ≢ 2 ^ 62) × (new ≡ staying (finding_none old))
