-- What a worker counts of its part's log. Source: project's choice. Only private contracts cite
-- this file.
use Rattle.std.specs.Prelude.{◌≡◌, ℕ, ◌+◌, length}
use Rattle.nll_sets.specs.Prefix.{IsPrefix}
use Rattle.fixpoint.specs.Rules.{Rules}
use Rattle.fixpoint.specs.State.{State, part_for, given_to}
use Rattle.fixpoint.specs.Sums.{sum_to}
use Rattle.worker.specs.declared.tally.Tally.{Tally}

-- the tally of a worker that has done nothing yet
abbrev pub none_counted : Tally
none_counted = record { grown = 0; waiting = 0; turns = 0; cleared = 0 }

module _ {A F G : Type 0} (rules : Rules A F G) where
  -- how many growths of the log other owners read, each counted once for each of its readers
  abbrev pub due_of : State A G → ℕ
  due_of o = sum_to (rules.parts o.system) (λ j. length (part_for rules o j))

  -- how many of them were given
  abbrev pub given_of : State A G → ℕ
  given_of o = sum_to (rules.parts o.system) (λ j. given_to o j)

  -- The tally has the length of the log, and the number of what isn't given yet.
  pub record IsTallied (o : State A G) (t : Tally) : Type 0 where
    pub grown : t.grown ≡ length o.log
    pub waiting : given_of o + t.waiting ≡ due_of o

-- It is the same part; its log only grew, and it gave nothing more.
pub record HasGrown {A G : Type 0} (old new : State A G) : Type 0 where
  pub system : new.system ≡ old.system
  pub me : new.me ≡ old.me
  pub begins : IsPrefix old.log new.log
  pub given : new.given ≡ old.given
