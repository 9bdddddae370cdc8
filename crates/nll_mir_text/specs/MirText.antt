-- MIR texts as a format, and what a MIR text means. Source: project's choice; docs/FORMATS.md says
-- the same in prose.
use Rattle.std.specs.Prelude.{◌≡◌, ℕ, List, codes, Contains}
use Rattle.nll_format.specs.Text.{Format, IsText, IsHeaded, IsFormatHeader, IsFaultOfText}
use Rattle.nll_format.specs.declared.error.TextKind.{TextKind}
use Rattle.nll_mir_grammar.specs.MirForms.{Form, end}
use Rattle.nll_mir_grammar.specs.Versions.{HasFormIn, version_codes}
use Rattle.nll_mir_grammar.specs.declared.version.Version.{Version}
use Rattle.nll_mir_grammar.specs.declared.version.Version.TheVariants.{First, Second}
use Rattle.nll_mir_text.specs.MirSaid.{Said, said}
use Rattle.nll_mir_text.specs.MirFaults.{first_fault}
use Rattle.nll_body.specs.Bodies.{BodyText}

-- MIR texts of a version: their lines have the forms of the version, and the last line that a text
-- needs is an `end` line
abbrev pub mir : Version → Format
mir version = record {
  kind = codes "nll-mir";
  version = version_codes version;
  Form = Form;
  HasForm = HasFormIn version;
  Said = Said;
  said = said;
  first_fault = first_fault;
  HasEnded = λ forms. Contains forms end;
}

-- the body that lines say
abbrev pub body_said : Said → BodyText
body_said s = record {
  names = s.scope.regions;
  universals = s.universals;
  outlives = s.outlives;
  asserts = s.asserts;
  structs = s.structs;
  variables = s.variables;
  starts = s.starts;
  points = s.points;
}

-- The text fits in one of the versions, and means this body.
pub record Means (text : List ℕ) (body : BodyText) : Type 0 where
  pub version : Version
  pub forms : List Form
  pub fits : IsText (mir version) text forms
  pub same : body ≡ body_said (said forms)

-- The version of a text: the second where its first line is the header of version 2, and else the
-- first.
abbrev pub IsOfVersion : List ℕ → Version → Type 0
IsOfVersion text First = (body : List (List ℕ)) → IsHeaded (mir Second) text body → ⊥
IsOfVersion text Second = (body : List (List ℕ)) × IsHeaded (mir Second) text body

-- The text's fault, by the line, counted from 1, and its kind: that of a text of its version.
abbrev pub IsMirFault : List ℕ → ℕ → TextKind → Type 0
IsMirFault text line kind =
    (version : Version) × IsOfVersion text version × IsFaultOfText (mir version) text line kind

-- the line is the header of a MIR text of some version
abbrev pub IsMirHeader : List ℕ → Type 0
IsMirHeader line = (version : Version) × IsFormatHeader (mir version) line
