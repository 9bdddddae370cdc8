-- The code's lines as the forms that they are.
-- Source: project's choice. Only private contracts cite this file.
use Rattle.nll_facts.specs.FactsForms.{FactsForm, points, universal, outlives, further, next}
use Rattle.nll_facts.specs.FactsForms.{return, base, constraint, end}
use Rattle.nll_facts.specs.declared.line.Line.{Line}
use Rattle.nll_facts.specs.declared.line.Line.TheVariants as lines

-- a line without where its names lie in memory
abbrev pub facts_view : Line → FactsForm
facts_view (lines.Points n) = points n
facts_view (lines.Universal a) = universal a.now
facts_view (lines.Outlives a b) = outlives a.now b.now
facts_view (lines.Region x) = further x.now
facts_view (lines.Next p q) = next p q
facts_view (lines.Return p) = return p
facts_view (lines.Base x p) = base x.now p
facts_view (lines.Constraint a b place) = constraint a.now b.now place
facts_view lines.End = end
