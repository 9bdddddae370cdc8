-- Which bytes are lines of a form.
use Rattle.std.proofs.Common.{◌≡◌, ℕ, List, [], ◌∷◌, false, refl, map}
use Rattle.std.specs.Prelude.{codes}
use Rattle.std.specs.List.{AllByRecursion}
use Rattle.std.specs.Str.{IsUtf8}
use Rattle.nll_text.specs.Lines.{is_skipped}
use Rattle.nll_text.specs.Tokens.{word, IsMadeOf}
use Rattle.nll_text.specs.LineTokens.{tokens_in}
use Rattle.nll_text.specs.Grammars.{IsNotNext}
use Rattle.nll_text.proofs.Utf8Lemmas.{IsUtf8-word}
use Rattle.nll_format.specs.Parts.{Name, Part, keyword, number, region, token_of, Spells, one_number, two_numbers, one_region, two_regions, region_number}
use Rattle.nll_format.proofs.PartLemmas.{spells_rest, none_first, other_word, spelled_utf8, spelled_kept}
use Rattle.nll_facts.specs.FactsForms.{FactsForm, points, universal, outlives, further, next, return, base, constraint, end, facts_parts, one_place, two_regions_place, HasFactsForm}
use Rattle.nll_facts.specs.FactsReading.{IsTextPart, HasFactsTexts}
use Rattle.nll_problem.specs.declared.at.At.{At}
use Rattle.nll_problem.specs.declared.at.At.TheVariants.{All, Point}

-- ---- what stands behind the first word of a line

module _ (line rest : List ℕ) where
  -- the line is this word and the rest
  abbrev HasFirst : List ℕ → Type 0
  HasFirst w = tokens_in line ≡ word w ∷ tokens_in rest

  pub behind_base : (f : FactsForm) → HasFirst (codes "base") → Spells line (facts_parts f)
      → (b : Name × ℕ) × Spells rest (region_number b)
  behind_base (base x p) begins h = ((x, p), (spells_rest line rest _ _ _ begins h).1)
  behind_base f begins h = absurd (other_word _ _ refl (spells_rest line rest _ _ _ begins h).0)

  pub behind_next : (f : FactsForm) → HasFirst (codes "next") → Spells line (facts_parts f)
      → (b : ℕ × ℕ) × Spells rest (two_numbers b)
  behind_next (next p q) begins h = ((p, q), (spells_rest line rest _ _ _ begins h).1)
  behind_next f begins h = absurd (other_word _ _ refl (spells_rest line rest _ _ _ begins h).0)

  pub behind_constraint : (f : FactsForm) → HasFirst (codes "constraint") → Spells line (facts_parts f)
      → (b : Name × Name × At) × Spells rest (two_regions_place b)
  behind_constraint (constraint x y p) begins h = ((x, y, p), (spells_rest line rest _ _ _ begins h).1)
  behind_constraint f begins h = absurd (other_word _ _ refl (spells_rest line rest _ _ _ begins h).0)

  pub behind_return : (f : FactsForm) → HasFirst (codes "return") → Spells line (facts_parts f)
      → (b : ℕ) × Spells rest (one_number b)
  behind_return (return p) begins h = (p, (spells_rest line rest _ _ _ begins h).1)
  behind_return f begins h = absurd (other_word _ _ refl (spells_rest line rest _ _ _ begins h).0)

  pub behind_region : (f : FactsForm) → HasFirst (codes "region") → Spells line (facts_parts f)
      → (b : Name) × Spells rest (one_region b)
  behind_region (further x) begins h = (x, (spells_rest line rest _ _ _ begins h).1)
  behind_region f begins h = absurd (other_word _ _ refl (spells_rest line rest _ _ _ begins h).0)

  pub behind_outlives : (f : FactsForm) → HasFirst (codes "outlives") → Spells line (facts_parts f)
      → (b : Name × Name) × Spells rest (two_regions b)
  behind_outlives (outlives x y) begins h = ((x, y), (spells_rest line rest _ _ _ begins h).1)
  behind_outlives f begins h = absurd (other_word _ _ refl (spells_rest line rest _ _ _ begins h).0)

  pub behind_universal : (f : FactsForm) → HasFirst (codes "universal") → Spells line (facts_parts f)
      → (b : Name) × Spells rest (one_region b)
  behind_universal (universal x) begins h = (x, (spells_rest line rest _ _ _ begins h).1)
  behind_universal f begins h = absurd (other_word _ _ refl (spells_rest line rest _ _ _ begins h).0)

  pub behind_points : (f : FactsForm) → HasFirst (codes "points") → Spells line (facts_parts f)
      → (b : ℕ) × Spells rest (one_number b)
  behind_points (points n) begins h = (n, (spells_rest line rest _ _ _ begins h).1)
  behind_points f begins h = absurd (other_word _ _ refl (spells_rest line rest _ _ _ begins h).0)

  pub behind_end : (f : FactsForm) → HasFirst (codes "end") → Spells line (facts_parts f) → Spells rest []
  behind_end end begins h = (spells_rest line rest _ _ _ begins h).1
  behind_end f begins h = absurd (other_word _ _ refl (spells_rest line rest _ _ _ begins h).0)

-- ---- a line of no form

-- the line begins with none of the words that most lines begin with
pub record NoOften (line : List ℕ) : Type 0 where
  pub base : IsNotNext (word (codes "base")) (tokens_in line)
  pub next : IsNotNext (word (codes "next")) (tokens_in line)
  pub constraint : IsNotNext (word (codes "constraint")) (tokens_in line)
  pub return : IsNotNext (word (codes "return")) (tokens_in line)

-- the line begins with none of the other words
pub record NoRare (line : List ℕ) : Type 0 where
  pub region : IsNotNext (word (codes "region")) (tokens_in line)
  pub outlives : IsNotNext (word (codes "outlives")) (tokens_in line)
  pub universal : IsNotNext (word (codes "universal")) (tokens_in line)
  pub points : IsNotNext (word (codes "points")) (tokens_in line)
  pub end : IsNotNext (word (codes "end")) (tokens_in line)

pub no_form_at : (line : List ℕ) → NoOften line → NoRare line → (f : FactsForm) → Spells line (facts_parts f) → ⊥
no_form_at line often rare (points n) h = none_first line _ _ rare.points h
no_form_at line often rare (universal a) h = none_first line _ _ rare.universal h
no_form_at line often rare (outlives a b) h = none_first line _ _ rare.outlives h
no_form_at line often rare (further x) h = none_first line _ _ rare.region h
no_form_at line often rare (next p q) h = none_first line _ _ often.next h
no_form_at line often rare (return p) h = none_first line _ _ often.return h
no_form_at line often rare (base x p) h = none_first line _ _ often.base h
no_form_at line often rare (constraint a b p) h = none_first line _ _ often.constraint h
no_form_at line often rare end h = none_first line _ _ rare.end h

-- ---- what holds of a line of a form

-- it is UTF-8
pub form_utf8 : (line : List ℕ) (f : FactsForm) → HasFactsForm line f → IsUtf8 line
form_utf8 line f h = spelled_utf8 line (facts_parts f) h

-- it is not skipped
pub form_kept : (line : List ℕ) (f : FactsForm) → HasFactsForm line f → is_skipped line ≡ false
form_kept line f h = kept_parts f h
  where
    kept_parts : (g : FactsForm) → Spells line (facts_parts g) → is_skipped line ≡ false
    kept_parts end k = spelled_kept _ _ _ k
    kept_parts _ k = spelled_kept _ _ _ k

-- the names in parts of a line are UTF-8
texts_of : (line : List ℕ) (these : List Part) → IsMadeOf line (map token_of these) → AllByRecursion IsTextPart these
texts_of line [] h = tt
texts_of line (keyword w ∷ these) h = (tt, texts_of h.1 these h.6)
texts_of line (number n ∷ these) h = (tt, texts_of h.1 these h.6)
texts_of line (region x ∷ these) h = (IsUtf8-word x h.4, texts_of h.1 these h.6)

-- the names in a line are UTF-8
pub texts_in : (line : List ℕ) (f : FactsForm) → HasFactsForm line f → HasFactsTexts f
texts_in line f h = texts_of line (facts_parts f) h.made

-- ---- where a constraint holds

-- behind the word for all points stands nothing
pub behind_all : (rest after : List ℕ) (place : At) → tokens_in rest ≡ word (codes "all") ∷ tokens_in after
    → ((p : ℕ) → Spells rest (one_number p) → ⊥) → Spells rest (one_place place) → Spells after []
behind_all rest after All begins none h = (spells_rest rest after _ _ _ begins h).1
behind_all rest after (Point p) begins none h = absurd (none p h)

-- where neither a number nor that word stands, no constraint holds
pub no_place : (rest : List ℕ) (place : At) → IsNotNext (word (codes "all")) (tokens_in rest)
    → ((p : ℕ) → Spells rest (one_number p) → ⊥) → Spells rest (one_place place) → ⊥
no_place rest All other none h = none_first rest _ _ other h
no_place rest (Point p) other none h = none p h
