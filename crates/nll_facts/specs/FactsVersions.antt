-- Which lines a facts text of each version has: version 2 has all forms, and version 1 those
-- without a constraint at all points. Source: project's choice; docs/FORMATS.md says the same in
-- prose.
use Rattle.std.specs.Prelude.{◌≡◌, ℕ, Bool, true, false, List, codes}
use Rattle.nll_problem.specs.declared.at.At.{At}
use Rattle.nll_problem.specs.declared.at.At.TheVariants.{All, Point}
use Rattle.nll_facts.specs.FactsForms.{FactsForm, constraint, HasFactsForm}
use Rattle.nll_facts.specs.declared.version.Version.{Version}
use Rattle.nll_facts.specs.declared.version.Version.TheVariants.{First, Second}

-- the version as its header says it
abbrev pub facts_version_codes : Version → List ℕ
facts_version_codes First = codes "1"
facts_version_codes Second = codes "2"

-- it is a point
abbrev pub is_one_point : At → Bool
is_one_point All = false
is_one_point (Point p) = true

-- a line of the form may be in a text of version 1: it is no constraint at all points
abbrev pub is_fact_of_first : FactsForm → Bool
is_fact_of_first (constraint a b place) = is_one_point place
is_fact_of_first _ = true

-- a line of the form may be in a text of the version
abbrev pub is_fact_of_version : Version → FactsForm → Bool
is_fact_of_version First f = is_fact_of_first f
is_fact_of_version Second f = true

-- the line has the form in a text of the version
abbrev pub HasFactsFormIn : Version → List ℕ → FactsForm → Type 0
HasFactsFormIn version line f = HasFactsForm line f × (is_fact_of_version version f ≡ true)
