-- What a worker's part hears from a mailbox. Source: project's choice.
use Rattle.std.specs.Prelude.{◌≡◌, ℕ, ◌<◌, List, ◌++◌, length, Contains}
use Rattle.nll_sets.specs.Prefix.{IsPrefix}
use Rattle.fixpoint.specs.Rules.{Rules}
use Rattle.fixpoint.specs.State.{State, IsSoundPart, IsDone, Passes, with_growths, GotBeginning}
use Rattle.worker.specs.declared.inbox.Heard.{Heard}
use Rattle.worker.specs.declared.inbox.Heard.TheVariants.{Nothing, Growths, Stray, Memory}

module _ {A F G : Type 0} (rules : Rules A F G) where
  -- what a part keeps that was refused to receive growths of owner j: it is sound, its log only
  -- grew, and it received a prefix of the growths: none of them, some or all
  abbrev pub IsGivenUp : ℕ → List G → State A G → State A G → Type 0
  IsGivenUp j gs old new =
      IsPrefix old.log new.log × IsSoundPart rules new × (new ≡ record old {
        log = new.log;
        received = new.received;
        broken = new.broken;
      }) × GotBeginning old.received j gs new.received

  -- the outcome of handing in growths from owner j
  abbrev pub HandsIn : ℕ → State A G → State A G → List G → Heard → Type 0
  HandsIn j old new gs Nothing = ⊥
  HandsIn j old new gs Growths =
      (new.received ≡ with_growths old.received j gs) × IsPrefix old.log new.log
      × IsSoundPart rules new × IsDone rules new × (new ≡ record old {
        log = new.log;
        received = new.received;
      }) × (0 < length gs)
  HandsIn j old new gs Stray =
      ((g : G) × Contains gs g × (Passes rules old.system old.me j g → ⊥)) × (new ≡ old)
  HandsIn j old new gs Memory = IsGivenUp j gs old new

  -- the outcome of a look into the mailbox from owner j: for the part, for the list of all that was
  -- ever taken, and for the growths that were taken now
  abbrev pub LooksInto : ℕ → State A G → State A G → List G → List G
      → List G → Heard → Type 0
  LooksInto j old new before after gs Nothing = (new ≡ old) × (after ≡ before)
  LooksInto j old new before after gs heard = (after ≡ before ++ gs) × HandsIn j old new gs heard
