-- What an analysis says: who owns which fact, who reads which, and which facts follow from which.
-- Source: project's choice. The least solution is the intersection of all closed assignments, as
-- in Tarski, "A lattice-theoretical fixpoint theorem and its applications" (1955).
use Rattle.std.specs.Prelude.{◌≡◌, ◌≢◌, ◌⊎◌, ◌↔◌, ℕ, ◌<◌, ◌≤◌, Bool, true, IsTrue, List, length}
use Rattle.std.specs.Prelude.{Contains, AllPairs}
use Rattle.fixpoint.specs.Limits.{most_parts, most_growths}

-- The rules of an analysis. A value of A is what is analysed, a value of F a fact about it, and a
-- value of G a growth: a fact that came to hold, at a rank. They say which values are valid; how
-- many owners there are; who owns a fact; whether an owner reads a fact of another; whether a fact
-- follows from known ones; which facts may come to hold; whether two facts are the same; and which
-- fact and rank a growth has.
pub record Rules (A F G : Type 0) : Type 1 where
  pub valid : A → Type 0
  pub parts : A → ℕ
  pub owner : A → F → ℕ
  pub reads : A → ℕ → F → Bool
  pub derives : A → (F → Bool) → F → Type 0
  pub proper : A → F → Type 0
  pub same : F → F → Bool
  pub fact : G → F
  pub rank : G → ℕ

module _ {A F G : Type 0} (rules : Rules A F G) where
  -- owner i sees the fact: it owns it or reads it
  abbrev pub Sees : A → ℕ → F → Type 0
  Sees a i f = (rules.owner a f ≡ i) ⊎ (rules.reads a i f ≡ true)

  -- the facts are proper, and no two of them are the same
  pub record AreDifferent (a : A) (facts : List F) : Type 0 where
    pub each : (f : F) → Contains facts f → rules.proper a f
    pub once : AllPairs (λ f g. f ≡ g → ⊥) facts

  -- The laws that rules must keep, for what is valid.
  pub record AreLawful : Type 0 where
    -- what follows from known facts also follows from any facts that have those of them which its
    -- owner sees
    pub local :
        (a : A) → rules.valid a → (known more : F → Bool) (f : F)
        → ((g : F) → Sees a (rules.owner a f) g → IsTrue (known g) → IsTrue (more g))
        → rules.derives a known f → rules.derives a more f
    -- what follows has an owner
    pub owned :
        (a : A) → rules.valid a → (known : F → Bool) (f : F)
        → rules.derives a known f → rules.owner a f < rules.parts a
    -- an owner reads only facts of other owners
    pub others :
        (a : A) → rules.valid a → (i : ℕ) (f : F) → rules.reads a i f ≡ true
        → (rules.owner a f < rules.parts a) × (rules.owner a f ≢ i)
    -- there is at least one owner, and there are not too many
    pub few : (a : A) → rules.valid a → (0 < rules.parts a) × (rules.parts a ≤ most_parts)
    -- there are not too many different facts, so each list of them is short
    pub few_facts :
        (a : A) → rules.valid a → (facts : List F) → AreDifferent a facts
        → length facts < most_growths
    -- the test for sameness tells equality
    pub same_tells : (f g : F) → (rules.same f g ≡ true) ↔ (f ≡ g)

  -- the assignment has each fact that follows from it
  abbrev pub IsClosed : A → (F → Bool) → Type 0
  IsClosed a known = (f : F) → rules.derives a known f → IsTrue (known f)

  -- the least solution has the fact: each closed assignment does
  abbrev pub IsLeast : A → F → Type 0
  IsLeast a f = (known : F → Bool) → IsClosed a known → IsTrue (known f)
