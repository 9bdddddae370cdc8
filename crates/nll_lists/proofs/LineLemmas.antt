-- Which bytes are lines of an event.
use Rattle.std.proofs.Common.{◌≡◌, ℕ, List, ◌∷◌, refl}
use Rattle.std.specs.Prelude.{codes}
use Rattle.nll_model.specs.declared.event.Event.{Event}
use Rattle.nll_model.specs.declared.event.Event.TheVariants.{Load, Take, Owe, Clear, Push, Leave}
use Rattle.nll_text.specs.Tokens.{word}
use Rattle.nll_text.specs.LineTokens.{tokens_in}
use Rattle.nll_text.specs.Grammars.{IsNotNext}
use Rattle.nll_format.specs.Parts.{Spells, one_number, two_numbers}
use Rattle.nll_format.proofs.PartLemmas.{spells_rest, none_first, other_word}
use Rattle.nll_lists.specs.ScheduleText.{event_parts}

-- ---- what stands behind the first word of a line

module _ (line rest : List ℕ) where
  -- the line is this word and the rest
  abbrev HasFirst : List ℕ → Type 0
  HasFirst w = tokens_in line ≡ word w ∷ tokens_in rest

  pub behind_load : (e : Event) → HasFirst (codes "load") → Spells line (event_parts e)
      → (n : ℕ) × Spells rest (one_number n)
  behind_load (Load i) begins h = (i, (spells_rest line rest _ _ _ begins h).1)
  behind_load e begins h = absurd (other_word _ _ refl (spells_rest line rest _ _ _ begins h).0)

  pub behind_take : (e : Event) → HasFirst (codes "take") → Spells line (event_parts e)
      → (n : ℕ × ℕ) × Spells rest (two_numbers n)
  behind_take (Take i j) begins h = ((i, j), (spells_rest line rest _ _ _ begins h).1)
  behind_take e begins h = absurd (other_word _ _ refl (spells_rest line rest _ _ _ begins h).0)

  pub behind_owe : (e : Event) → HasFirst (codes "owe") → Spells line (event_parts e)
      → (n : ℕ) × Spells rest (one_number n)
  behind_owe (Owe i) begins h = (i, (spells_rest line rest _ _ _ begins h).1)
  behind_owe e begins h = absurd (other_word _ _ refl (spells_rest line rest _ _ _ begins h).0)

  pub behind_clear : (e : Event) → HasFirst (codes "clear") → Spells line (event_parts e)
      → (n : ℕ) × Spells rest (one_number n)
  behind_clear (Clear i) begins h = (i, (spells_rest line rest _ _ _ begins h).1)
  behind_clear e begins h = absurd (other_word _ _ refl (spells_rest line rest _ _ _ begins h).0)

  pub behind_push : (e : Event) → HasFirst (codes "push") → Spells line (event_parts e)
      → (n : ℕ × ℕ) × Spells rest (two_numbers n)
  behind_push (Push i j) begins h = ((i, j), (spells_rest line rest _ _ _ begins h).1)
  behind_push e begins h = absurd (other_word _ _ refl (spells_rest line rest _ _ _ begins h).0)

  pub behind_leave : (e : Event) → HasFirst (codes "leave") → Spells line (event_parts e)
      → (n : ℕ) × Spells rest (one_number n)
  behind_leave (Leave i) begins h = (i, (spells_rest line rest _ _ _ begins h).1)
  behind_leave e begins h = absurd (other_word _ _ refl (spells_rest line rest _ _ _ begins h).0)

-- ---- a line of no event

-- the line begins with the word of no event
pub record NoEvent (line : List ℕ) : Type 0 where
  pub take : IsNotNext (word (codes "take")) (tokens_in line)
  pub push : IsNotNext (word (codes "push")) (tokens_in line)
  pub owe : IsNotNext (word (codes "owe")) (tokens_in line)
  pub clear : IsNotNext (word (codes "clear")) (tokens_in line)
  pub load : IsNotNext (word (codes "load")) (tokens_in line)
  pub leave : IsNotNext (word (codes "leave")) (tokens_in line)

pub no_event_at : (line : List ℕ) → NoEvent line → (e : Event) → Spells line (event_parts e) → ⊥
no_event_at line none (Load i) h = none_first line _ _ none.load h
no_event_at line none (Take i j) h = none_first line _ _ none.take h
no_event_at line none (Owe i) h = none_first line _ _ none.owe h
no_event_at line none (Clear i) h = none_first line _ _ none.clear h
no_event_at line none (Push i j) h = none_first line _ _ none.push h
no_event_at line none (Leave i) h = none_first line _ _ none.leave h
