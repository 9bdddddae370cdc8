-- Texts of either format: facts texts and MIR texts. Source: project's choice; docs/FORMATS.md says
-- the same in prose. A text is a MIR text where its first line is the header of a version of MIR
-- texts, and is judged as a facts text where it isn't. A text whose first line is no header has the
-- same fault in each format.
use Rattle.std.specs.Prelude.{◌≡◌, ◌⊎◌, ℕ, List, ◌∷◌}
use Rattle.nll_problem.specs.Problem.{Problem}
use Rattle.nll_problem.specs.declared.error.Kind.TheVariants.{Constraints}
use Rattle.nll_text.specs.Lines.{lines_of}
use Rattle.nll_format.specs.Labels.{Labels}
use Rattle.nll_format.specs.declared.error.TextError.{TextError}
use Rattle.nll_format.specs.declared.error.TextKind.{TextKind}
use Rattle.nll_format.specs.declared.error.TextKind.TheVariants as kind
use Rattle.nll_facts.specs.FactsText.{IsFactsFault, MeansFacts as IsFactsOf}
use Rattle.nll_body.specs.Bodies.{BodyText, labels_of}
use Rattle.nll_mir_text.specs.MirText.{IsMirHeader, IsMirFault, Means as IsBodyOf}
use Rattle.nll_rules.specs.BodyProblem.{IsProblemOf, HasTooMany}
use Rattle.nll_rules.specs.declared.error.RuleError.{RuleError}
use Rattle.nll_rules.specs.declared.error.RuleError.TheVariants as rule
use Rattle.nll_answer.specs.declared.error.AnswerError.{AnswerError}
use Rattle.nll_answer.specs.declared.error.AnswerError.TheVariants.{Text, Rule, Run, Memory}

-- the text's first line is the header of a version of MIR texts
abbrev pub IsMir : List ℕ → Type 0
IsMir text = (header : List ℕ) × (body : List (List ℕ)) × (lines_of text ≡ header ∷ body)
    × IsMirHeader header

-- the text's fault: as a MIR text where it is one, and else as a facts text
abbrev pub IsTextFault : List ℕ → ℕ → TextKind → Type 0
IsTextFault text line kind =
    (IsMir text × IsMirFault text line kind)
    ⊎ ((IsMir text → ⊥) × IsFactsFault text line kind)

-- The body has this problem, within the limit of constraints, and these are its labels.
pub record HasProblem (body : BodyText) (q : Problem) (names : Labels) : Type 0 where
  pub problem : IsProblemOf body q
  pub few : HasTooMany body → ⊥
  pub labels : names ≡ labels_of body

-- the text means this problem, with these labels: as a facts text, or as a MIR text by the body
-- that it means
abbrev pub IsMeaning : List ℕ → Problem → Labels → Type 0
IsMeaning text problem labels =
    IsFactsOf text problem labels
    ⊎ ((body : BodyText) × IsBodyOf text body × HasProblem body problem labels)

-- ---- why a text has no answer

-- the error of an answer for that of a text of this kind: a failed allocation has no line
abbrev pub told_as : TextError → TextKind → AnswerError
told_as error kind.Memory = Memory
told_as error other = Text error

-- the error of an answer for that of a text
abbrev pub error_of_text : TextError → AnswerError
error_of_text error = told_as error error.kind

-- the error of an answer for that of a body: its limit, or a failed allocation
abbrev pub error_of_body : RuleError → AnswerError
error_of_body (rule.Limit kind) = Rule (rule.Limit kind)
error_of_body rule.Memory = Memory

-- the error says that the body has too many constraints, or that an allocation failed
abbrev pub IsBodyError : BodyText → AnswerError → Type 0
IsBodyError body (Rule (rule.Limit kind)) = (kind ≡ Constraints) × HasTooMany body
IsBodyError body Memory = Unit {0}
IsBodyError body _ = ⊥

-- the error reports such a fault, or that an allocation failed
abbrev pub IsErrorOf : (ℕ → TextKind → Type 0) → AnswerError → Type 0
IsErrorOf fault (Text error) = fault error.line error.kind
IsErrorOf fault Memory = Unit {0}
IsErrorOf fault (Rule error) = ⊥
IsErrorOf fault (Run error) = ⊥

-- the error reports the text's fault, that it means a body with too many constraints, or that an
-- allocation failed
abbrev pub IsAnswerError : List ℕ → AnswerError → Type 0
IsAnswerError text (Text error) = IsTextFault text error.line error.kind
IsAnswerError text (Rule error) =
    (body : BodyText) × IsBodyOf text body × IsBodyError body (Rule error)
IsAnswerError text (Run error) = ⊥
IsAnswerError text Memory = Unit {0}
