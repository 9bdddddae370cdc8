-- Facts texts as a format, and what a facts text means. Source: project's choice; docs/FORMATS.md
-- says the same in prose.
use Rattle.std.specs.Prelude.{◌≡◌, ℕ, List, codes, Contains}
use Rattle.nll_problem.specs.Problem.{Problem, SameProblem}
use Rattle.nll_format.specs.Labels.{Labels, numbers}
use Rattle.nll_format.specs.Text.{Format, IsText, IsHeaded, IsFaultOfText}
use Rattle.nll_format.specs.declared.error.TextKind.{TextKind}
use Rattle.nll_facts.specs.FactsForms.{FactsForm, end}
use Rattle.nll_facts.specs.FactsVersions.{HasFactsFormIn, facts_version_codes}
use Rattle.nll_facts.specs.FactsSaid.{SaidFacts, facts_said, first_facts_fault, facts_names_said}
use Rattle.nll_facts.specs.FactsSaid.{problem_said}
use Rattle.nll_facts.specs.declared.version.Version.{Version}
use Rattle.nll_facts.specs.declared.version.Version.TheVariants.{First, Second}

-- facts texts of a version: their lines have the forms of the version, and the last line that a
-- text needs is an `end` line
abbrev pub facts : Version → Format
facts version = record {
  kind = codes "nll-facts";
  version = facts_version_codes version;
  Form = FactsForm;
  HasForm = HasFactsFormIn version;
  Said = SaidFacts;
  said = facts_said;
  first_fault = first_facts_fault;
  HasEnded = λ forms. Contains forms end;
}

-- The text fits in one of the versions and means this problem, with these labels: its regions'
-- names, and points by their numbers.
pub record MeansFacts (text : List ℕ) (problem : Problem) (labels : Labels) : Type 0 where
  pub version : Version
  pub forms : List FactsForm
  pub fits : IsText (facts version) text forms
  pub same_problem : SameProblem (problem_said forms) problem
  pub same_labels : labels ≡ record { names = facts_names_said forms; points = numbers }

-- The version of a text: the second where its first line is the header of version 2, and else the
-- first.
abbrev pub IsFactsVersion : List ℕ → Version → Type 0
IsFactsVersion text First = (body : List (List ℕ)) → IsHeaded (facts Second) text body → ⊥
IsFactsVersion text Second = (body : List (List ℕ)) × IsHeaded (facts Second) text body

-- The text's fault, by the line, counted from 1, and its kind: that of a text of its version.
abbrev pub IsFactsFault : List ℕ → ℕ → TextKind → Type 0
IsFactsFault text line kind =
    (version : Version) × IsFactsVersion text version × IsFaultOfText (facts version) text line kind
