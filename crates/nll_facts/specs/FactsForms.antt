-- The forms of the lines of a facts text, and how they are spelled. Source: project's choice;
-- docs/FORMATS.md says the same in prose.
use Rattle.std.specs.Prelude.{ℕ, List, [], ◌∷◌, codes}
use Rattle.nll_problem.specs.declared.at.At.{At}
use Rattle.nll_problem.specs.declared.at.At.TheVariants.{All, Point}
use Rattle.nll_format.specs.Parts.{Name, Part, keyword, number, region, Spells}

-- A line that isn't skipped, by its form.
pub data FactsForm : Type 0 where
  points : ℕ → FactsForm
  universal : Name → FactsForm
  outlives : Name → Name → FactsForm
  further : Name → FactsForm
  next : ℕ → ℕ → FactsForm
  return : ℕ → FactsForm
  base : Name → ℕ → FactsForm
  constraint : Name → Name → At → FactsForm
  end : FactsForm

-- where a constraint holds, as a part: `all`, or the number of a point
abbrev pub place_part : At → Part
place_part All = keyword (codes "all")
place_part (Point p) = number p

-- where a constraint holds
abbrev pub one_place : At → List Part
one_place place = place_part place ∷ []

-- a region, and where a constraint holds
abbrev pub region_place : Name × At → List Part
region_place n = region n.0 ∷ one_place n.1

-- two regions, and where a constraint holds
abbrev pub two_regions_place : Name × Name × At → List Part
two_regions_place n = region n.0 ∷ region_place (n.1, n.2)

-- the parts of a line of the form
abbrev pub facts_parts : FactsForm → List Part
facts_parts (points n) = keyword (codes "points") ∷ number n ∷ []
facts_parts (universal a) = keyword (codes "universal") ∷ region a ∷ []
facts_parts (outlives a b) = keyword (codes "outlives") ∷ region a ∷ region b ∷ []
facts_parts (further x) = keyword (codes "region") ∷ region x ∷ []
facts_parts (next p q) = keyword (codes "next") ∷ number p ∷ number q ∷ []
facts_parts (return p) = keyword (codes "return") ∷ number p ∷ []
facts_parts (base x p) = keyword (codes "base") ∷ region x ∷ number p ∷ []
facts_parts (constraint a b place) = keyword (codes "constraint") ∷ two_regions_place (a, b, place)
facts_parts end = keyword (codes "end") ∷ []

-- the line has the form: it is made of the form's parts
abbrev pub HasFactsForm : List ℕ → FactsForm → Type 0
HasFactsForm line f = Spells line (facts_parts f)
