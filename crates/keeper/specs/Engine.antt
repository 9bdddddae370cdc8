-- What an engine finds. Source: project's choice.
use Rattle.std.specs.Prelude.{◌≡◌, ◌⊎◌, ℕ, Bool, false, ◌||◌, ◌==◌, ◌++◌, List, Contains}
use Rattle.std.specs.List.{filter}
use Rattle.fixpoint.specs.Rules.{Rules}

module _ {A F G : Type 0} (rules : Rules A F G) where
  -- The fact is one that owner i may enter: it is the owner's, proper, and follows from what is
  -- known.
  pub record MayEnter (a : A) (i : ℕ) (known : F → Bool) (f : F) : Type 0 where
    pub own : rules.owner a f ≡ i
    pub proper : rules.proper a f
    pub follows : rules.derives a known f

  -- A list got facts that owner i may enter, and lost none: all that follow from what is known, but
  -- those that were found before.
  pub record Finds (a : A) (i : ℕ) (known : F → Bool) (before : F → Type 0) (old new : List F)
      : Type 0 where
    pub kept : (f : F) → Contains old f → Contains new f
    pub each : (f : F) → Contains new f → Contains old f ⊎ MayEnter a i known f
    pub all :
        (f : F) → rules.owner a f ≡ i → rules.derives a known f → before f ⊎ Contains new f

  -- A list got those facts of another list that are owner i's. They are proper.
  pub record GotOwn (a : A) (i : ℕ) (facts old new : List F) : Type 0 where
    pub is : new ≡ old ++ filter (λ f. rules.owner a f == i) facts
    pub proper : (f : F) → Contains facts f → rules.proper a f

  -- no fact is known
  abbrev pub nothing : F → Bool
  nothing f = false

  -- what is known with one fact more
  abbrev pub with_fact : F → (F → Bool) → F → Bool
  with_fact f known g = rules.same f g || known g
